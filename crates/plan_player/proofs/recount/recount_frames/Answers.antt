use Rattle.plan_player.proofs.Words.{◌%◌, ◌*◌, ◌+◌, ◌-◌, ◌∙◌, ◌≡◌, COUNTS, List, ap, arith, count_step}
use Rattle.plan_player.proofs.Words.{frame_fibs, layout_mode, mod-add-mod, refl, ℕ}
use borrow.Rule.Slice.PartMut.{put_mid, mid_of, same_len_mid}
use Rattle.plan_player.proofs.Alike.{mixed_all, first_on_step, next_on_step, entered, continued}
use Rattle.plan_player.proofs.recount.recount_frames.Goals as goal

pub loop-at-init : goal.loop-at-init
loop-at-init c =
    let plan = c.args.plan.now in
    let count : ℕ = c.args.count in
    let step : ℕ = c.step-step.result in
    let at : ℕ = c.before_step-at.result in
    let is_step : step ≡ count_step (layout_mode plan.layout) = rw (← c.mode.ensures) c.step-step.ensures.value in
    let by_mode : at ≡ (count_step (layout_mode plan.layout) - count % count_step (layout_mode plan.layout)) %
    count_step (layout_mode plan.layout) = rw (← is_step) c.before_step-at.ensures in
    record {
      near = omega arith;
      number = c.count_later-number.ensures;
      on_step = ap (λ (n : ℕ). n % count_step (layout_mode plan.layout))
          (c.count_later-number.ensures ∙ ap (λ (a : ℕ). (count + a) % COUNTS) by_mode) ∙ first_on_step _ _;
      whole = refl;
      bytes = λ s t alike counts is. entered plan c.args.header c.args.frames count at step s t c.args.bytes.now alike
          counts c.requires.count is_step c.before_step-at.ensures is;
    }

pub loop-at-preserved : goal.loop-at-preserved
loop-at-preserved c =
    let plan = c.args.plan.now in
    let count : ℕ = c.args.count in
    let step : ℕ = c.step-step.result in
    let at : ℕ = c.loop-at.at in
    let number : ℕ = c.loop-at.number in
    let size : ℕ = 32 * c.fibs-size.result in
    let offset : ℕ = c.from.result * size in
    let width : ℕ = offset + 32 - offset in
    let bytes : List ℕ = c.loop-at.bytes in
    let new : List ℕ = c.recount.new.fib in
    let before = c.loop-at.invariant in
    let is_step : step ≡ count_step (layout_mode plan.layout) = rw (← c.mode.ensures) c.step-step.ensures.value in
    let is_size : size ≡ 32 * frame_fibs plan.layout = rw (c.fibs-size.ensures.value) refl in
    let at_offset : offset ≡ at * size = rw (c.from.ensures) refl in
    let later = c.count_later-number-in-loop-at.ensures in
    record {
      near = omega (arith, c.loop-at-test.true, c.step-step.ensures.in_range);
      number = later ∙ ap (λ (n : ℕ). (n + step) % COUNTS) before.number ∙ mod-add-mod (count + at) COUNTS step
          ∙ ap (λ (n : ℕ). n % COUNTS) (omega arith);
      on_step = ap (λ (n : ℕ). n % count_step (layout_mode plan.layout))
          (later ∙ ap (λ (m : ℕ). (number + m) % COUNTS) is_step) ∙ next_on_step _ _ before.on_step;
      whole = same_len_mid offset width bytes new c.recount.ensures.size ∙ before.whole;
      bytes = λ s t alike counts is.
          continued plan c.args.header c.args.frames count at number step size offset width c.high.result (number % 250)
          s t bytes (mid_of offset width bytes) new (put_mid offset width bytes new)
          alike counts c.requires.count is_step is_size c.loop-at-test.true before.number before.on_step at_offset
          (omega arith) c.high.ensures refl
          (before.bytes s t alike counts is) refl c.recount.ensures.bytes refl;
    }

pub returns-clause-frames : goal.returns-clause-frames
returns-clause-frames c = λ s t alike counts is.
    c.loop-at.invariant.bytes s t alike counts is
    ∙ mixed_all c.args.plan.now c.args.frames (c.args.frames - (c.args.frames - c.loop-at.at)) s t
    (omega (arith, c.loop-at-test.false))
