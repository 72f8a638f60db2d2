use Rattle.plan_verifier.proofs.Words.{◌∙◌, ap, known_of, unless}
use Rattle.plan_verifier.proofs.Finding.{flow_alone}
use Rattle.plan_verifier.proofs.step.advance.Goals as goal

pub returns-clause-cause : goal.returns-clause-cause
returns-clause-cause g c = c.apply.ensures.cause ∙ ap unless
    (flow_alone c.args.plan.now c.args.instr (known_of g.S.Store.content c.args.state.now))
