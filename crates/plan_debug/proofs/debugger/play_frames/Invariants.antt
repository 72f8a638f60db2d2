use Rattle.plan_debug.proofs.Words.{◌-◌, ◌≡◌, most_frames}
use Rattle.plan_debug.proofs.Stretches.{IsStretch}
use Rattle.plan_debug.proofs.debugger.play_frames.Given as goal

abbrev pub invariant-loop-frames : goal.invariant-loop-frames
invariant-loop-frames g l = record {
  most_is : l.most ≡ most_frames l.command;
  played : IsStretch l.initial.player l.initial.log l.stop l.command l.frames l.player l.log l.last l.ended;
}

abbrev pub decreases-loop-frames : goal.decreases-loop-frames
decreases-loop-frames g l = l.most - l.frames
