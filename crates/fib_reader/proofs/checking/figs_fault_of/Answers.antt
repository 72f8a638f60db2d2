use Rattle.fib_reader.proofs.Words.{◌<◌, ◌∙◌, ◌≡◌, None, Some, arith, drop, fig_fault, get_or, length, sym}
use Rattle.fib_reader.proofs.FaultSteps.{next_fig, at_marker, fault_here, no_figs, some_left, none_left}
use Rattle.fib_reader.proofs.checking.figs_fault_of.Goals as goal

pub returns-then-header : goal.returns-then-header
returns-then-header c =
    at_marker _ _ _ c.loop-rest.invariant.same (some_left _ _ c.is_empty.ensures c.loop-rest-test.true) (omega arith)

pub returns-in-Some : goal.returns-in-Some
returns-in-Some c =
    let some : 0 < length c.loop-rest.rest.now = some_left _ _ c.is_empty.ensures c.loop-rest-test.true in
    let found : fig_fault c.loop-rest.at (get_or c.loop-rest.rest.now 0 0) (drop 1 c.loop-rest.rest.now)
    ≡ Some c.in-Some.fault =
    rw (← c.byte_at-header.ensures, ← c.split_at.ensures.back) (sym c.fig_fault_of.ensures ∙ c.in-Some.is) in
    fault_here _ _ _ _ c.loop-rest.invariant.same some (omega arith) found

pub loop-rest-preserved : goal.loop-rest-preserved
loop-rest-preserved c =
    let some : 0 < length c.loop-rest.rest.now = some_left _ _ c.is_empty.ensures c.loop-rest-test.true in
    let fine : fig_fault c.loop-rest.at (get_or c.loop-rest.rest.now 0 0) (drop 1 c.loop-rest.rest.now) ≡ None =
    rw (← c.byte_at-header.ensures, ← c.split_at.ensures.back) (sym c.fig_fault_of.ensures ∙ c.in_default.is) in
    record {
      place = omega arith;
      same = rw (
        c.split_at-in-loop-rest.ensures.back,
        c.split_at.ensures.back,
        c.from-len.ensures,
        c.byte_at-header.ensures,
      )
          (next_fig _ _ _ c.loop-rest.invariant.same some (omega arith) fine);
    }

pub returns : goal.returns
returns c = no_figs _ _ _ c.loop-rest.invariant.same (none_left _ _ c.is_empty.ensures c.loop-rest-test.false)
