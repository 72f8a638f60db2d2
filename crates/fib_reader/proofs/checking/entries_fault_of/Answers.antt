use Rattle.fib_reader.proofs.Words.{◌<◌, arith, length, number_of}
use Rattle.fib_reader.proofs.FaultSteps.{next_entry, missing_bytes, no_entries, some_left, none_left}
use Rattle.fib_reader.proofs.Lengths.{some_bytes}
use Rattle.fib_reader.proofs.checking.entries_fault_of.Goals as goal

pub returns-then-rest-len : goal.returns-then-rest-len
returns-then-rest-len c =
    let some : 0 < length c.loop-rest.rest.now = some_left _ _ c.is_empty.ensures c.loop-rest-test.true in
    missing_bytes _ _ _ _ _ c.loop-rest.invariant.same some (omega arith)

pub loop-rest-preserved : goal.loop-rest-preserved
loop-rest-preserved c =
    let some : 0 < length c.loop-rest.rest.now = some_left _ _ c.is_empty.ensures c.loop-rest-test.true in
    record {
      place = omega arith;
      same = rw (c.split_at.ensures.back, c.entry_len_of-len.ensures)
          (next_entry _ _ _ _ _ c.loop-rest.invariant.same some (omega arith));
    }

pub loop-rest-smaller : goal.loop-rest-smaller
loop-rest-smaller c =
    omega (arith, some_bytes (number_of c.args.extension) c.args.long c.loop-rest.rest.now)

pub returns : goal.returns
returns c = no_entries _ _ _ _ _ c.loop-rest.invariant.same (none_left _ _ c.is_empty.ensures c.loop-rest-test.false)
