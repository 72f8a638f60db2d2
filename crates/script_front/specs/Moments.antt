-- The law of moments: a time is the first frame that does not begin before it, and a moment before a time is as many
-- frames earlier, over midnight too.
use Rattle.std.specs.Prelude.{◌≡◌, ℕ, ◌+◌, ◌*◌, ◌%◌, ◌<◌}
use Rattle.plan_code.specs.declared.limits.TheConstants.{FRAMES_A_DAY}
use Rattle.script_tokens.specs.FirstFrames.{IsFirstFrame}
use Rattle.script_front.specs.declared.moment.MomentForm.{MomentForm as Moment}
use Rattle.script_front.specs.declared.moment.MomentForm.TheVariants.{At, Early}
use Rattle.script_front.specs.Waits.{IsMoment, moment_frame}

-- from this frame of the day it takes so many frames to the first frame of a time, in seconds
pub record IsEarly (second frames day : ℕ) : Type 0 where
  pub first : ℕ
  pub of_time : IsFirstFrame (1000 * second) first
  pub later : (day + frames) % FRAMES_A_DAY ≡ first

abbrev pub IsFrameOf : Moment → ℕ → Type 0
IsFrameOf (At time) day = IsFirstFrame (1000 * time) day
IsFrameOf (Early time frames) day = IsEarly time frames day

abbrev pub MomentsAreFrames : Type 0
MomentsAreFrames = (m : Moment) → IsMoment m → IsFrameOf m (moment_frame m) × (moment_frame m < FRAMES_A_DAY)
