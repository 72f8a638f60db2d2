use Rattle.stream_check.proofs.PartCount.{is_the_most}
use Rattle.stream_check.proofs.laws.parts.Goals as goal

pub returns : goal.returns
returns c = is_the_most
