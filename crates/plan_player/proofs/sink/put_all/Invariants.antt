use Rattle.plan_player.proofs.Words.{◌-◌, ◌≡◌, ◌≤◌, Appends, false, length, take}
use Rattle.plan_player.proofs.sink.put_all.Given as goal

abbrev pub invariant-loop-taken : goal.invariant-loop-taken
invariant-loop-taken g l = record {
  within : l.taken ≤ length l.bytes;
  taken : Appends (g.K.Sink.taken l.initial.sink) (g.K.Sink.taken l.sink) (take l.taken l.bytes);
  works : g.K.Sink.has_failed l.sink ≡ false;
}

abbrev pub decreases-loop-taken : goal.decreases-loop-taken
decreases-loop-taken g l = length l.bytes - l.taken
