use Rattle.cli_streams.proofs.OneAnswer.{one_answer}
use Rattle.cli_streams.proofs.laws.streams.Goals as goal

pub returns : goal.returns
returns c = one_answer c.one_list.ensures c.reading.ensures.apart
