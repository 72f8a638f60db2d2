use Rattle.script_compiler.proofs.Words.{◌∙◌, AreLabelsOf, AreShallow, IndexedLabel, IsDeepAtMost, Label, List, Priced}
use Rattle.script_compiler.proofs.Words.{UnpricedPool, ap, map, priced_label, subst, sym, unpriced_in}
use Rattle.script_compiler.proofs.Labelling.{labels_at, priced_at, shallow_marks, ok_each}
use Rattle.script_compiler.proofs.unpriced.UnpricedLabels.labels.Goals as goal

pub returns-clause-labels : goal.returns-clause-labels
returns-clause-labels c =
    let table = c.self.inside.table.table in
    let short = c.self.inside.short.items in
    let needs = c.args.needs.now in
    ok_each c.labels_of.result (λ l e.
    let same = e ∙ ap (λ (ms : List IndexedLabel). map (priced_label needs) ms) c.deref.ensures.value in
    let all = subst (λ (xs : List Label). AreLabelsOf table (map (unpriced_in table) short) xs) (sym same)
    (labels_at table needs short c.self.invariant) in
    subst (λ (v : UnpricedPool). AreLabelsOf v.table v.items l.items) c.self.view_is all) c.labels_of.ensures.labels

pub returns-clause-costs : goal.returns-clause-costs
returns-clause-costs c = ok_each c.labels_of.result (λ l e.
    subst (λ (xs : List Label). Priced c.args.needs.now xs) (sym e) (priced_at c.args.needs.now c.deref.result.now))
    c.labels_of.ensures.labels

pub labels_of-requires-clause-deep : goal.labels_of-requires-clause-deep
labels_of-requires-clause-deep c =
    let table = c.self.inside.table.table in
    let short = c.self.inside.short.items in
    let few = shallow_marks table 8 short
    (subst (λ (v : UnpricedPool). IsDeepAtMost 8 v.items) (sym c.self.view_is) c.requires.deep) in
    subst (λ (ms : List IndexedLabel). AreShallow 8 ms) (sym c.deref.ensures.value) few
