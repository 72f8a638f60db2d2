use Rattle.plan_player.proofs.Words.{◌%◌, ◌-◌, ◌<◌, ◌≡◌, ◌≤◌, concat, count_step, layout_mode, notice_frames, state_of}
use Rattle.plan_player.proofs.stretch.repeat.Given as goal

abbrev pub invariant-loop-done : goal.invariant-loop-done
invariant-loop-done g l =
    record {
      some : 1 ≤ l.done;
      within : l.done ≤ l.count;
      pages : l.done < l.count → l.done % l.pages.made ≡ 0;
      steps : l.done < l.count → l.done % count_step (layout_mode l.plan.layout) ≡ 0;
      bytes : l.batch ≡ concat (notice_frames l.plan l.done (state_of g.S.Store.content l.machine));
    }

abbrev pub decreases-loop-done : goal.decreases-loop-done
decreases-loop-done g l = l.count - l.done
