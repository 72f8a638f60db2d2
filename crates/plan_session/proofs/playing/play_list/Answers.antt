use Rattle.plan_session.proofs.Words.{[], ◌++◌, ◌+◌, ◌∙◌, ◌∷◌, ◌≡◌, Delivered, Event, List, Option, Step, TakesStep, ap}
use Rattle.plan_session.proofs.Words.{append-nil, append_assoc, arith, events_of, events_of_step, few_delivered}
use Rattle.plan_session.proofs.Words.{few_stopped, inr, joined, stopped_before, stopped_later, subst, sym}
use Rattle.plan_session.proofs.Steps.{events_more, events_cut, few_events, first_bound}
use Rattle.plan_session.proofs.playing.play_list.Goals as goal

pub overflow_add-frames : goal.overflow_add-frames
overflow_add-frames g c =
    let step : Step = c.in-Some.step in
    let taken = g.K.Sink.taken in
    let t = subst (λ (o : Option Step). TakesStep c.loop-step.steps c.next.new.self o) c.in-Some.is c.next.ensures in
    let few = few_delivered _ _ _ _ _ _ c.in-Ok.ensures.done in
    let bound = first_bound c.loop-step.steps c.args.steps.now c.loop-step.invariant.begun t.bound in
    omega (arith, few, few_events step t.in_range, c.loop-step.invariant.few, t.bytes, bound)

pub overflow_add-result : goal.overflow_add-result
overflow_add-result g c =
    let step : Step = c.in-Some.step in
    let taken = g.K.Sink.taken in
    let t = subst (λ (o : Option Step). TakesStep c.loop-step.steps c.next.new.self o) c.in-Some.is c.next.ensures in
    let few = few_stopped _ _ _ _ _ _ _ c.in-Err.ensures.stopped in
    let bound = first_bound c.loop-step.steps c.args.steps.now c.loop-step.invariant.begun t.bound in
    omega (arith, few, few_events step t.in_range, c.loop-step.invariant.few, t.bytes, bound)

pub returns-in-Err-clause-stopped : goal.returns-in-Err-clause-stopped
returns-in-Err-clause-stopped g c = λ all lists.
    let step : Step = c.in-Some.step in
    let taken = g.K.Sink.taken in
    let t = subst (λ (o : Option Step). TakesStep c.loop-step.steps c.next.new.self o) c.in-Some.is c.next.ensures in
    let so_far = c.loop-step.invariant.delivered all lists in
    let done : List Step = so_far.0 in
    let on = t.on so_far.1 so_far.3 in
    let whole : done ++ step ∷ on.0 ≡ all = ap (λ (l : List Step). done ++ l) (sym on.1) ∙ sym so_far.2 in
    let here = stopped_later _ _ _ _ _ _ _ _ _ _ _ so_far.4 c.in-Err.ensures.stopped in
    let later = stopped_before c.args.player.now c.play_step.new.player (events_of done ++ events_of_step step)
    (events_of on.0) (taken c.args.sink.now) (taken c.play_step.new.sink)
    (c.loop-step.frames + c.in-Err.cut.frames) c.in-Err.cut.bytes here in
    let cut = events_cut done step on.0 ∙ ap (λ (l : List Step). events_of l) whole in
    rw (← cut) later

pub loop-step-preserved : goal.loop-step-preserved
loop-step-preserved g c =
    let step : Step = c.in-Some.step in
    let taken = g.K.Sink.taken in
    let t = subst (λ (o : Option Step). TakesStep c.loop-step.steps c.next.new.self o) c.in-Some.is c.next.ensures in
    let few = few_delivered _ _ _ _ _ _ c.in-Ok.ensures.done in
    record {
      few = omega (arith, few, few_events step t.in_range, t.bytes, c.loop-step.invariant.few);
      delivered = λ all lists.
          let so_far = c.loop-step.invariant.delivered all lists in
          let done : List Step = so_far.0 in
          let on = t.on so_far.1 so_far.3 in
          let both = joined c.args.player.now c.loop-step.player c.play_step.new.player (events_of done)
          (events_of_step step) (taken c.args.sink.now) (taken c.loop-step.sink) (taken c.play_step.new.sink)
          c.loop-step.frames c.in-Ok.made so_far.4 c.in-Ok.ensures.done in (
            done ++ step ∷ [],
            on.0,
            so_far.2 ∙ ap (λ (l : List Step). done ++ l) on.1 ∙ sym (append_assoc done (step ∷ []) on.0),
            on.2,
            subst (λ (l : List Event). Delivered c.args.player.now c.play_step.new.player l (taken c.args.sink.now)
                (taken c.play_step.new.sink) (c.loop-step.frames + c.in-Ok.made)) (events_more done step) both,
          );
      begun = inr (first_bound c.loop-step.steps c.args.steps.now c.loop-step.invariant.begun t.bound);
      works = c.in-Ok.ensures.works;
    }

pub returns-clause-done : goal.returns-clause-done
returns-clause-done g c = λ all lists.
    let taken = g.K.Sink.taken in
    let t = subst (λ (o : Option Step). TakesStep c.loop-step.steps c.next.new.self o) c.in_default.is c.next.ensures in
    let so_far = c.loop-step.invariant.delivered all lists in
    let whole = sym (so_far.2 ∙ ap (λ (l : List Step). so_far.0 ++ l) (t so_far.1 so_far.3) ∙ append-nil so_far.0) in
    rw (← whole) so_far.4
