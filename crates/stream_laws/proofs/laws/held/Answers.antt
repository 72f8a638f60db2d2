use Rattle.stream_laws.proofs.Bytes.{fib_laws}
use Rattle.stream_laws.proofs.Held.{whole_notices_are_held, counts_are_held}
use Rattle.stream_laws.proofs.laws.held.Goals as goal

pub returns-clause-whole : goal.returns-clause-whole
returns-clause-whole c =
    let laws = fib_laws c.one_list.ensures c.fib_length.ensures c.spelling.ensures.is_spelled c.ensemble.ensures in
    whole_notices_are_held laws c.parts.ensures

pub returns-clause-counts : goal.returns-clause-counts
returns-clause-counts c =
    counts_are_held
    (fib_laws c.one_list.ensures c.fib_length.ensures c.spelling.ensures.is_spelled c.ensemble.ensures)
