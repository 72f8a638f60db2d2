-- The frame of a time of day is the first one that does not begin before it; and small cases of that, computed by the
-- checker: examples that hold and that fail.
use Rattle.std.proofs.Common.{◌≡◌, ◌≤◌, arith, refl}
use Rattle.script_tokens.specs.FirstFrames.{IsFirstFrame, TimesAreFirstFrames}
use Rattle.script_tokens.specs.Times.{frame_at}

pub times_are_first_frames : TimesAreFirstFrames
times_are_first_frames second within = record {
  first = record { not_before = omega arith; first = λ other later. omega (arith, later) };
  of_the_day = omega (arith, within);
}

-- ---- small cases

midnight : IsFirstFrame 0 0
midnight = record { not_before = omega arith; first = λ other later. omega arith }

-- after a second, 41 frames have begun before it, and frame 42 begins 8 ms later
a_second : IsFirstFrame 1000 42
a_second = record { not_before = omega arith; first = λ other later. omega (arith, later) }

not_the_frame_before : IsFirstFrame 1000 41 → ⊥
not_the_frame_before h = omega (arith, h.not_before)

not_the_frame_after : IsFirstFrame 1000 43 → ⊥
not_the_frame_after h = let least : 43 ≤ 42 = h.first 42 (omega arith) in omega (arith, least)

the_last_second : frame_at 86399 ≡ 3599959
the_last_second = refl
