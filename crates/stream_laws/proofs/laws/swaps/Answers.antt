use Rattle.stream_laws.proofs.Bytes.{fib_laws}
use Rattle.stream_laws.proofs.Announced.{Laws, swaps_are_announced}
use Rattle.stream_laws.proofs.laws.swaps.Goals as goal

pub returns : goal.returns
returns c =
    let laws : Laws = record {
      fibs = fib_laws c.one_list.ensures c.fib_length.ensures c.spelling.ensures.is_spelled c.ensemble.ensures;
      tells = c.spelling.ensures.tells;
      change = c.changes.ensures;
      most = c.parts.ensures;
    } in
    swaps_are_announced laws
