use Rattle.plan_player.proofs.Words.{◌≡◌, false}
use Rattle.plan_player.proofs.Delivering.{Delivered}
use Rattle.plan_player.proofs.delivery.play.Given as goal

abbrev pub invariant-loop-event : goal.invariant-loop-event
invariant-loop-event g l = record {
  done : Delivered l.initial.player l.player l.events l.event-index (g.K.Sink.taken l.initial.sink)
      (g.K.Sink.taken l.sink) l.frames;
  works : g.K.Sink.has_failed l.sink ≡ false;
}
