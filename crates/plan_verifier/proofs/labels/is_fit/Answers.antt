use Rattle.plan_verifier.proofs.Words.{◌∙◌, Configuration, IndexedFlow, Known, List, ap, declared_by, flow_at, flow_of}
use Rattle.plan_verifier.proofs.Words.{flow_of_label, known_at, known_of}
use Rattle.plan_verifier.specs.Walking.{fits_swap}
use Rattle.plan_verifier.proofs.Finding.{swap_alone}
use Rattle.plan_verifier.proofs.Answering.{fit_counters, fit_no_counters}
use Rattle.plan_verifier.proofs.labels.is_fit.Goals as goal

pub returns-then-includes : goal.returns-then-includes
returns-then-includes g c = λ allowance.
    let t : Known = record (known_of g.S.Store.content c.args.state.now) { allowance = allowance } in
    let label = c.args.label.now in
    let fits = c.fits.ensures.value
    ∙ ap (λ (f : IndexedFlow). fits_swap t.pending f.pending (known_at (flow_of t))
    (known_at (flow_at c.configs.result.now f))) c.flow_of.ensures
    ∙ ap (λ (table : List Configuration). fits_swap t.pending label.pending (known_at (flow_of t))
    (known_at (flow_at table (flow_of_label label)))) c.configs.ensures.value
    ∙ swap_alone t.pending label.pending t (declared_by c.args.code.now label) in
    fit_counters _ _ t (declared_by c.args.code.now label) c.includes.ensures c.if-includes.true fits

pub returns-else-includes : goal.returns-else-includes
returns-else-includes g c = λ allowance.
    let t : Known = record (known_of g.S.Store.content c.args.state.now) { allowance = allowance } in
    fit_no_counters _ t (declared_by c.args.code.now c.args.label.now) c.includes.ensures c.if-includes.false
