use Rattle.fig_merge.proofs.Words.{◌≡◌, false, take, waits}
use Rattle.fig_merge.proofs.queue.Queue.has.Given as goal

abbrev pub invariant-loop-waiting : goal.invariant-loop-waiting
invariant-loop-waiting l = waits l.fig (take l.waiting-index l.waiting-items) ≡ false
