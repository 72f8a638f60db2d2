use Rattle.stream_check.proofs.Agreement.{agreeing_has_none}
use Rattle.stream_check.proofs.laws.agreement.Goals as goal

pub returns : goal.returns
returns c = agreeing_has_none
