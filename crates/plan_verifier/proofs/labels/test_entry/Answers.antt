use Rattle.plan_verifier.proofs.Words.{◌∙◌, known_of, sym}
use Rattle.plan_verifier.proofs.Answering.{label_fits}
use Rattle.plan_verifier.proofs.labels.test_entry.Goals as goal

pub returns-then-allowance-label-clause-tracked : goal.returns-then-allowance-label-clause-tracked
returns-then-allowance-label-clause-tracked g c =
    let fits = label_fits c.args.code.now c.args.label.now c.flow_of.result
    (known_of g.S.Store.content c.args.state.now) c.flow_of.ensures c.requires.within
    (sym (c.is_fit.ensures c.args.state.now.allowance) ∙ c.if-not-is_fit.false) in
    c.note_fit.ensures.tracked c.args.code.now.configurations fits.0 fits.1

pub returns-clause-tracked : goal.returns-clause-tracked
returns-clause-tracked g c =
    let fits = label_fits c.args.code.now c.args.label.now c.flow_of.result
    (known_of g.S.Store.content c.args.state.now) c.flow_of.ensures c.requires.within
    (sym (c.is_fit.ensures c.args.state.now.allowance) ∙ c.if-not-is_fit.false) in
    c.note_fit.ensures.tracked c.args.code.now.configurations fits.0 fits.1
