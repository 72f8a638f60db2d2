use Rattle.plan_player.proofs.Words.{◌%◌, ◌+◌, ◌-◌, ◌≡◌, ◌≤◌, AreAlike, COUNTS, State, concat, count_step, layout_mode}
use Rattle.plan_player.proofs.Words.{length, notice_frames}
use Rattle.plan_player.proofs.Alike.{mixed}
use Rattle.plan_player.proofs.recount.recount_frames.Given as goal

abbrev pub invariant-loop-at : goal.invariant-loop-at
invariant-loop-at l = record {
  near : l.at ≤ l.frames + 4;
  number : l.number ≡ (l.count + l.at) % COUNTS;
  on_step : l.number % count_step (layout_mode l.plan.layout) ≡ 0;
  whole : length l.bytes ≡ length l.initial.bytes;
  bytes : (s t : State) → AreAlike l.plan l.header l.frames s t → t.count ≡ l.count
      → l.initial.bytes ≡ concat (notice_frames l.plan l.frames s)
      → l.bytes ≡ mixed l.plan l.frames (l.frames - (l.frames - l.at)) s t;
}

abbrev pub decreases-loop-at : goal.decreases-loop-at
decreases-loop-at l = l.frames + 8 - l.at
