use Rattle.stream_laws.proofs.Bytes.{fib_laws}
use Rattle.stream_laws.proofs.RunningOn.{counts_run_on}
use Rattle.stream_laws.proofs.laws.running_counts.Goals as goal

pub returns : goal.returns
returns c =
    counts_run_on (fib_laws c.one_list.ensures c.fib_length.ensures c.spelling.ensures.is_spelled c.ensemble.ensures)
