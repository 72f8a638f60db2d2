use Rattle.stream_check.proofs.Seeing.{all_read}
use Rattle.stream_check.proofs.laws.reading.Goals as goal

pub returns : goal.returns
returns c = all_read c.reading.ensures.apart c.reading.ensures.either
