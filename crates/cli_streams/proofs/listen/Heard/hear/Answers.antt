use Rattle.cli_streams.proofs.Words.{arith}
use Rattle.cli_streams.proofs.Hearing.{one_heard, one_damaged}
use Rattle.cli_streams.proofs.listen.Heard.hear.Goals.{in-Ok, in-Err-Fib}
use Rattle.cli_streams.proofs.listen.Heard.hear.Goals as goal

pub loop-fib-preserved : goal.loop-fib-preserved
loop-fib-preserved c = elim c.match-hear.branch [
  | in-Ok w ↦ rw w.self-is (record {
    on = λ given rest. c.loop-fib.invariant.on given
        (one_heard _ _ _ _ given c.loop-fib-test.true w.in-Ok.ensures.answer rest);
    counted = omega arith;
    few = omega arith;
  })
  | in-Err-Fib w ↦ rw w.self-is (record {
    on = λ given rest. c.loop-fib.invariant.on given
        (one_damaged _ _ _ _ _ _ _ given c.loop-fib-test.true w.other_so_far-seen.ensures w.in-Err-Fib.field-0-is
        w.in-Err-Fib.ensures.answer rest);
    counted = omega arith;
    few = omega arith;
  })
]
