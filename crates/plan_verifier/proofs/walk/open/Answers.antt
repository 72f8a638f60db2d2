use Rattle.plan_verifier.proofs.Words.{◌∙◌, sym}
use Rattle.plan_verifier.proofs.Stepping.{opening_refused}
use Rattle.plan_verifier.proofs.walk.open.Goals as goal

pub returns-in-Some-clause-refused : goal.returns-in-Some-clause-refused
returns-in-Some-clause-refused g c =
    opening_refused c.args.code.now c.in-Some.label _ c.test_first.result (sym c.label_at.ensures.value ∙ c.in-Some.is)
    c.take.ensures.value c.test_first.ensures
