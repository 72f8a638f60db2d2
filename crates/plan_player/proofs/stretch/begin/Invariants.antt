use Rattle.plan_player.proofs.Words.{◌*◌, ◌-◌, ◌≡◌, ◌≤◌, State, concat, counted_on, length, notice_frames, state_of}
use Rattle.plan_player.proofs.stretch.begin.Given as goal

abbrev pub invariant-loop-done : goal.invariant-loop-done
invariant-loop-done g l =
    let s : State = state_of g.S.Store.content l.machine in
    let t : State = counted_on l.plan l.done s in
    record {
      within : l.done ≤ l.count;
      page_index : l.page_index ≡ t.page_index;
      number : l.number ≡ t.count;
      bytes : l.batch ≡ concat (notice_frames l.plan l.done s);
      room : length l.batch ≤ 128 * l.done;
    }

abbrev pub decreases-loop-done : goal.decreases-loop-done
decreases-loop-done g l = l.count - l.done
