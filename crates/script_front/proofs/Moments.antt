-- The frames of the day of moments; and small cases, computed by the checker: examples that hold and that fail.
use Rattle.std.proofs.Common.{◌≡◌, ◌+◌, ◌-◌, ◌%◌, ◌<◌, ℕ, arith, refl}
use Rattle.plan_code.specs.declared.limits.TheConstants.{FRAMES_A_DAY}
use Rattle.script_tokens.specs.FirstFrames.{HasFrame}
use Rattle.script_tokens.specs.Times.{frame_at}
use Rattle.script_tokens.proofs.FirstFrames.{times_are_first_frames}
use Rattle.script_front.specs.declared.moment.MomentForm.TheVariants.{At, Early}
use Rattle.script_front.specs.Moments.{IsFrameOf, MomentsAreFrames}

later_again : (first frames : ℕ) → first < FRAMES_A_DAY → frames < 65536
    → ((first + FRAMES_A_DAY - frames) % FRAMES_A_DAY + frames) % FRAMES_A_DAY ≡ first
later_again first frames of_day few = omega (arith, of_day, few)

pub moments_are_frames : MomentsAreFrames
moments_are_frames (At time) within =
    let h : HasFrame time (frame_at time) = times_are_first_frames time within in
    (h.first, h.of_the_day)
moments_are_frames (Early time frames) within =
    let h : HasFrame time (frame_at time) = times_are_first_frames time within.0 in (
      record { first = frame_at time; of_time = h.first; later = later_again _ frames h.of_the_day within.2 },
      omega arith,
    )

-- ---- small cases: a frame before midnight, and one too late

a_frame_before_midnight : IsFrameOf (Early 0 1) 3599999
a_frame_before_midnight = record {
  first = 0;
  of_time = (times_are_first_frames 0 (omega arith)).first;
  later = refl;
}

no_frame_before : IsFrameOf (Early 0 1) 0 → ⊥
no_frame_before h = let least = h.of_time.first 0 (omega arith) in omega (arith, h.later, least)
