use Rattle.stream_laws.proofs.Kept.{current_is_kept}
use Rattle.stream_laws.proofs.laws.current.Goals as goal

pub returns : goal.returns
returns c = current_is_kept
