use Rattle.plan_live.proofs.Words.{◌∙◌, ◌≡◌, Event, Frame, List, Playing, Streamed, Went, arith, replicate}
use Rattle.plan_live.proofs.Words.{streams_at, subst, sym, ℕ}
use Rattle.plan_live.proofs.Going.{went_join}
use Rattle.plan_live.proofs.Steps.{replicate_more}
use Rattle.plan_live.proofs.frames.play_frames.Goals as goal

pub loop-done-preserved : goal.loop-done-preserved
loop-done-preserved g c =
    let at = streams_at g.E.Ends.left g.E.Ends.written in
    let a : Streamed = at c.args.ends.now in
    let b : Streamed = at c.loop-done.ends in
    let d : Streamed = at c.play_some.new.ends in
    let skip : ℕ = c.args.options.skip in
    let p : Playing = c.args.player.now in
    let n : ℕ = c.args.made.now in
    let k : ℕ = c.loop-done.done in
    let more : ℕ = c.in-Ok.played in
    let h = c.in-Ok.ensures in
    let both = went_join skip p c.loop-done.player c.play_some.new.player n c.loop-done.made c.play_some.new.made
    (replicate k Frame) (replicate more Frame) a b d c.loop-done.invariant.went h.went in
    record {
      within = omega (arith, c.loop-done.invariant.within, h.some);
      went = subst (λ (l : List Event). Went skip p n l c.play_some.new.player c.play_some.new.made a d)
          (sym (replicate_more k more)) both;
      moments = h.moments ∙ c.loop-done.invariant.moments;
    }
