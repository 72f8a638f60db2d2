-- Moments of the day, and the alternatives of a `wait`: how many there can be, and which of them beside each other.
use Rattle.std.specs.Prelude.{◌≡◌, ℕ, ◌+◌, ◌-◌, ◌%◌, ◌<◌, ◌≤◌, Bool, true, false, not, List, length}
use Rattle.std.specs.List.{AllByRecursion, filter, list_any}
use Rattle.plan_code.specs.declared.limits.TheConstants.{FRAMES_A_DAY}
use Rattle.script_tokens.specs.Times.{frame_at}
use Rattle.script_front.specs.declared.moment.MomentForm.{MomentForm as Moment}
use Rattle.script_front.specs.declared.moment.MomentForm.TheVariants.{At, Early}
use Rattle.script_front.specs.declared.alternatives.Alternative.{Alternative}
use Rattle.script_front.specs.declared.alternatives.Alternative.TheVariants.{Contact, Until, Frames}

-- ---- moments

-- the frame of the day of a moment, over midnight too
abbrev pub moment_frame : Moment → ℕ
moment_frame (At time) = frame_at time
moment_frame (Early time frames) = (frame_at time + FRAMES_A_DAY - frames) % FRAMES_A_DAY

abbrev pub IsMoment : Moment → Type 0
IsMoment (At time) = time < 86400
IsMoment (Early time frames) = (time < 86400) × (1 ≤ frames) × (frames < 65536)

-- ---- alternatives

abbrev pub IsAlternative : Alternative → Type 0
IsAlternative (Contact contact closed) = contact < 16
IsAlternative (Until moment) = IsMoment moment
IsAlternative (Frames frames) = (1 ≤ frames) × (frames < 65536)

abbrev pub is_moment : Alternative → Bool
is_moment (Until moment) = true
is_moment _ = false

abbrev pub is_frames : Alternative → Bool
is_frames (Frames frames) = true
is_frames _ = false

-- 2 to 8 alternatives in range, of which at most one is a moment, and at most one a number of frames
pub record AreAlternatives (alternatives : List Alternative) : Type 0 where
  pub several : 2 ≤ length alternatives
  pub few : length alternatives ≤ 8
  pub each : AllByRecursion IsAlternative alternatives
  pub one_moment : length (filter is_moment alternatives) ≤ 1
  pub one_number : length (filter is_frames alternatives) ≤ 1

-- whether this alternative can be beside these
abbrev pub may_follow : List Alternative → Alternative → Bool
may_follow before (Contact contact closed) = true
may_follow before (Until moment) = not (list_any is_moment before)
may_follow before (Frames frames) = not (list_any is_frames before)
