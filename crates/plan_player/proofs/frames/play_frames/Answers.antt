use Rattle.plan_player.proofs.Words.{◌-◌, Frame, arith, replicate}
use Rattle.plan_player.proofs.Joining.{joined_frames, stopped_frames, few_frames}
use Rattle.plan_player.proofs.frames.play_frames.Goals as goal

pub overflow_add-done-in-Err : goal.overflow_add-done-in-Err
overflow_add-done-in-Err g c =
    let few = few_frames _ _ (c.args.count - c.loop-done.done) _ _ _ _ c.in-Err.ensures.stopped in
    omega (arith, few, c.loop-done.invariant.within, c.ranges.count.fits)

pub returns-in-Err-clause-stopped : goal.returns-in-Err-clause-stopped
returns-in-Err-clause-stopped g c =
    rw (c.from.ensures) (stopped_frames _ _ _ _ _ _ c.loop-done.done c.args.count _ _
    (omega (arith, c.loop-done-test.true)) c.loop-done.invariant.delivered c.in-Err.ensures.stopped)

pub loop-done-preserved : goal.loop-done-preserved
loop-done-preserved g c =
    let h = c.in-Ok.ensures in
    record {
      within = omega (arith, h.some, c.loop-done-test.true);
      delivered = joined_frames _ _ _ _ _ _ c.loop-done.done c.in-Ok.made c.loop-done.invariant.delivered h.done;
      works = h.works;
    }

pub returns-in-Err-clause-headline : goal.returns-in-Err-clause-headline
returns-in-Err-clause-headline g c = c.promise.ensures (replicate c.args.count Frame)

pub returns-clause-headline : goal.returns-clause-headline
returns-clause-headline g c = c.promise.ensures (replicate c.args.count Frame)
