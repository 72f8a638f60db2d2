use Rattle.script_compiler.proofs.Words.{◌∙◌, UnpricedPool, ap, configuration_at}
use Rattle.script_compiler.proofs.Labelling.{kept_marks, kept_within}
use Rattle.script_compiler.proofs.unpriced.UnpricedLabels.index_of.Goals as goal

pub invariant_of-self : goal.invariant_of-self
invariant_of-self c =
    let table = c.self.inside.table in
    kept_within c.index_of.result (configuration_at table.pool c.args.number) table.table c.index_of.new.self.table
    c.self.inside.short.items c.index_of.ensures.added c.index_of.ensures.unchanged c.self.invariant

pub returns-clause-items : goal.returns-clause-items
returns-clause-items c =
    let table = c.self.inside.table in
    kept_marks c.index_of.result (configuration_at table.pool c.args.number) table.table c.index_of.new.self.table
    c.self.inside.short.items c.index_of.ensures.added c.index_of.ensures.unchanged c.self.invariant
    ∙ ap (λ (v : UnpricedPool). v.items) c.self.view_is
