use Rattle.plan_session.proofs.Words.{◌*◌, ◌++◌, ◌+◌, ◌<◌, ◌≡◌, ◌≤◌, ◌⊎◌, Delivered, List, ListsSteps, Step, bytes_left}
use Rattle.plan_session.proofs.Words.{events_of, false}
use Rattle.plan_session.proofs.playing.play_list.Given as goal

-- the steps so far were played
abbrev pub invariant-loop-step : goal.invariant-loop-step
invariant-loop-step g l = record {
  few : l.frames + bytes_left l.steps * 3600000 ≤ bytes_left l.initial.steps * 3600000;
  delivered : (all : List Step) → ListsSteps l.initial.steps all → (done : List Step) × (rest : List Step)
      × (all ≡ done ++ rest) × ListsSteps l.steps rest
      × Delivered l.initial.player l.player (events_of done) (g.K.Sink.taken l.initial.sink) (g.K.Sink.taken l.sink)
      l.frames;
  begun : (l.steps ≡ l.initial.steps) ⊎ (bytes_left l.initial.steps < 18446744073709551616);
  works : g.K.Sink.has_failed l.sink ≡ false;
}

abbrev pub decreases-loop-step : goal.decreases-loop-step
decreases-loop-step g l = bytes_left l.steps
