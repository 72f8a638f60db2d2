use Rattle.mux_config.proofs.Words.{◌∙◌, ConfigFault, Option, ap, false≢true, first_of_two, other_fault, sym}
use Rattle.mux_config.proofs.Sounding.{crowded_found, not_crowded, stays_first}
use Rattle.mux_config.proofs.soundness_test.first_fault.Goals as goal

pub returns-then-crowded-clause-value : goal.returns-then-crowded-clause-value
returns-then-crowded-clause-value g c =
    let k = g.S.Store.content c.args.store.now in
    c.first_overlap.ensures.value ∙ stays_first _ (other_fault k)
    (crowded_found k (c.crowded.ensures.value.0 c.if-crowded.true))

pub returns-clause-value : goal.returns-clause-value
returns-clause-value g c =
    let k = g.S.Store.content c.args.store.now in
    let none = not_crowded k c.crowded.ensures.configuration
    (λ h. false≢true (sym c.if-crowded.false ∙ c.crowded.ensures.value.1 h)) in
    c.other_fault.ensures ∙ ap (λ (o : Option ConfigFault). first_of_two o (other_fault k)) (sym none)
