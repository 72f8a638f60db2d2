use Rattle.stream_laws.proofs.Bytes.{fib_laws}
use Rattle.stream_laws.proofs.Announced.{changes_are_announced}
use Rattle.stream_laws.proofs.laws.notices.Goals as goal

pub returns : goal.returns
returns c =
    let fibs = fib_laws c.one_list.ensures c.fib_length.ensures c.spelling.ensures.is_spelled c.ensemble.ensures in
    changes_are_announced fibs c.parts.ensures
