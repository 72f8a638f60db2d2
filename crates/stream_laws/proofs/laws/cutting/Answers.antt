use Rattle.stream_laws.proofs.Framing.{frames_are_of_bytes}
use Rattle.stream_laws.proofs.laws.cutting.Goals as goal

pub returns : goal.returns
returns c = frames_are_of_bytes
