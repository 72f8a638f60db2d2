-- The law of times of day: a time is the first frame that does not begin before it.
use Rattle.std.specs.Prelude.{ℕ, ◌*◌, ◌<◌, ◌≤◌}
use Rattle.plan_code.specs.declared.limits.TheConstants.{FRAMES_A_DAY}
use Rattle.script_tokens.specs.Times.{frame_at}

-- this frame of the day begins at this millisecond or after it, and no earlier frame does: frame n begins 24 n
-- milliseconds after midnight
pub record IsFirstFrame (millisecond frame : ℕ) : Type 0 where
  pub not_before : millisecond ≤ 24 * frame
  pub first : (other : ℕ) → millisecond ≤ 24 * other → frame ≤ other

-- a time of day in seconds has a frame of the day
pub record HasFrame (second frame : ℕ) : Type 0 where
  pub first : IsFirstFrame (1000 * second) frame
  pub of_the_day : frame < FRAMES_A_DAY

abbrev pub TimesAreFirstFrames : Type 0
TimesAreFirstFrames = (second : ℕ) → second < 86400 → HasFrame second (frame_at second)
