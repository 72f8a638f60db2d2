use Rattle.fig_merge.proofs.Words.{◌++◌, ◌+◌, ◌-◌, ◌<◌, ◌∙◌, ◌≡◌, ◌≤◌, List, arith, drop, false, fig_agrees, get_or}
use Rattle.fig_merge.proofs.Words.{length, sym, take, true, ℕ}
use Rattle.fig_merge.proofs.Carrying.{step_over, step_in, step_by, written_behind, written_length, same_at}
use Rattle.fig_merge.proofs.queue.Queue.carry.Goals.{then-len-used, else-len-used+then-agrees}
use Rattle.fig_merge.proofs.queue.Queue.carry.Goals.{else-len-used+else-agrees}
use Rattle.fig_merge.proofs.queue.Queue.carry.Goals as goal

pub loop-preserved : goal.loop-preserved
loop-preserved c =
    let ok = fig_agrees c.args.current.now in
    let figs : List (List ℕ) = c.loop.self-inside.figs.items in
    let h = c.loop.invariant in
    let fig = c.index-deref-at.result in
    let lt : c.loop.at < length figs = omega (arith, h.ahead, c.loop-test.true, c.loop.auto) in
    let is : fig ≡ get_or figs c.loop.at fig = rw (← c.deref.ensures.0) c.index-deref-at.is in
    elim c.if-len-used.branch [
      | then-len-used w ↦ rw (w.self-inside-is, w.at-is, w.figs-is, w.stale-is, w.used-is, w.fib-is) (record {
        passed = step_over ok _ _ fig _ figs _ _ c.loop.at c.loop.figs c.loop.stale lt is
            (omega (arith, w.if-len-used.true, c.len.ensures.value)) h.passed;
        ahead = omega (arith, h.ahead);
        few = omega (arith, h.few);
        within = h.within;
        whole = h.whole;
      })
      | else-len-used+then-agrees w ↦
          let gone = w.remove-fig.ensures.value ∙ same_at figs c.loop.at w.remove-fig.result fig lt ∙ sym is in
          let size : w.len-used.result ≡ length fig = rw (← gone) w.len-used.ensures.value in
          let room : length fig ≤ 30 - c.loop.used = omega (arith, w.if-len-used.false, c.len.ensures.value) in
          let fits : c.loop.used + length fig ≤ length c.loop.fib = omega (arith, room, h.within, h.whole) in
          let agreed : ok fig ≡ true = rw (← gone, ← w.as_slice.ensures.value) (sym w.agrees.ensures ∙ w.if-agrees.true)
          in
          let written : w.write_at.new.fib ≡ take c.loop.used c.loop.fib ++
          (fig ++ drop (c.loop.used + length fig) c.loop.fib) = rw (← w.as_slice-then-agrees.ensures.value ∙ gone)
          w.write_at.ensures in
          let all = written_behind c.loop.fib w.write_at.new.fib fig c.loop.used fits written in
          let left : 30 - (c.loop.used + length fig) ≡ 30 - c.loop.used - length fig = omega (arith, room, h.within) in
          rw (w.self-inside-is, w.at-is, w.figs-is, w.stale-is, w.used-is, w.fib-is, size) (record {
            passed = rw (all, left) (step_in ok _ _ fig _ figs w.remove-fig.new.self.items _ _ c.loop.at c.loop.figs
                c.loop.stale lt is room w.remove-fig.ensures.items h.passed agreed);
            ahead = omega (arith, h.ahead, w.remove-fig.ensures.len);
            few = omega (arith, h.few);
            within = omega (arith, room, h.within);
            whole = written_length c.loop.fib w.write_at.new.fib fig c.loop.used fits written ∙ h.whole;
          })
      | else-len-used+else-agrees w ↦
          let gone : w.remove-fig.result ≡ fig = w.remove-fig.ensures.value
          ∙ same_at figs c.loop.at w.remove-fig.result fig lt ∙ sym is in
          let differs : ok fig ≡ false = rw (← gone, ← w.as_slice.ensures.value)
          (sym w.agrees.ensures ∙ w.if-agrees.false) in
          rw (w.self-inside-is, w.at-is, w.figs-is, w.stale-is, w.used-is, w.fib-is) (record {
            passed = step_by ok _ _ fig _ figs w.remove-fig.new.self.items _ _ c.loop.at c.loop.figs c.loop.stale lt is
                (omega (arith, w.if-len-used.false, c.len.ensures.value)) w.remove-fig.ensures.items h.passed differs;
            ahead = omega (arith, h.ahead, w.remove-fig.ensures.len);
            few = omega (arith, h.few);
            within = h.within;
            whole = h.whole;
          })
    ]
