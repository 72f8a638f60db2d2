use Rattle.plan_verifier.proofs.OneVerdict.{codes_have_one_verdict}
use Rattle.plan_verifier.proofs.laws.verdicts.Goals as goal

pub returns : goal.returns
returns c = codes_have_one_verdict
