use Rattle.plan_live.proofs.Words.{[], ◌++◌, ◌+◌, ◌∙◌, ◌∷◌, ◌≡◌, Event, List, Playing, Step, Streamed, Went, ap}
use Rattle.plan_live.proofs.Words.{events_of, events_of_step, streams_at, subst, sym, take, take_more, ℕ}
use Rattle.plan_live.proofs.Going.{went_join}
use Rattle.plan_live.proofs.Steps.{events_more}
use Rattle.plan_live.proofs.frames.play_steps.Goals as goal

pub loop-step-preserved : goal.loop-step-preserved
loop-step-preserved g c =
    let at = streams_at g.E.Ends.left g.E.Ends.written in
    let a : Streamed = at c.args.ends.now in
    let b : Streamed = at c.loop-step.ends in
    let d : Streamed = at c.play_step.new.ends in
    let skip : ℕ = c.args.options.skip in
    let p : Playing = c.args.player.now in
    let n : ℕ = c.args.made.now in
    let steps : List Step = c.args.steps.now in
    let i : ℕ = c.loop-step.step-index in
    let step : Step = c.step-item.result in
    let more : take (i + 1) steps ≡ take i steps ++ step ∷ [] =
    take_more steps i step c.loop-step-test.true ∙ ap (λ (x : Step). take i steps ++ x ∷ []) (sym c.step-item.is) in
    let both = went_join skip p c.loop-step.player c.play_step.new.player n c.loop-step.made c.play_step.new.made
    (events_of (take i steps)) (events_of_step step) a b d c.loop-step.invariant.went
    c.in_ok-play_step.ensures.went in
    record {
      went = subst (λ (l : List Event). Went skip p n l c.play_step.new.player c.play_step.new.made a d)
          (sym (events_more steps i step more)) both;
      moments = c.in_ok-play_step.ensures.moments ∙ c.loop-step.invariant.moments;
    }
