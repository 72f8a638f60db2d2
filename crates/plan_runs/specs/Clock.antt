-- The counts and the contacts along a run.
use Rattle.std.specs.Prelude.{◌≡◌, ℕ, ◌+◌, ◌%◌, ◌<◌, ◌==◌, Bool, if◌then◌else◌, List, [], ◌∷◌, length}
use Rattle.std.specs.List.{AllByRecursion}
use Rattle.mux_types.specs.declared.limits.TheConstants.{COUNTS}
use Rattle.plan_code.specs.declared.limits.TheConstants.{FRAMES_A_DAY}
use Rattle.plan_code.specs.Flags.{is_closed}
use Rattle.plan_code.specs.Program.{Program}
use Rattle.plan_code.specs.Machine.{State}
use Rattle.plan_runs.specs.declared.event.Event.{Event}
use Rattle.plan_runs.specs.declared.event.Event.TheVariants.{Contact, Frame}
use Rattle.plan_runs.specs.declared.event.Start.{Start}
use Rattle.plan_runs.specs.Runs.{StartIsInRange, IsStart, IsEvent, run, run_frames}

-- this many frames after the start, the CIF count and the frame of the day have advanced by that number
pub record IsCounted (start : Start) (frames : ℕ) (s : State) : Type 0 where
  pub count : s.count ≡ (start.count + frames) % COUNTS
  pub day : s.day ≡ (start.day + frames) % FRAMES_A_DAY

abbrev pub FramesAreCounted : Type 0
FramesAreCounted =
    (p : Program) (start : Start) (first : State) (events : List Event) → StartIsInRange start → IsStart p start first
    → IsCounted start (length (run_frames p first events)) (run p first events)

-- whether the contact is closed after these events: as the last of them that sets it says, or else as before them
abbrev pub level_after : ℕ → Bool → List Event → Bool
level_after contact before [] = before
level_after contact before (Contact c closed ∷ es) = level_after contact (if c == contact then closed else before) es
level_after contact before (Frame ∷ es) = level_after contact before es

abbrev pub ContactsAreAsSet : Type 0
ContactsAreAsSet =
    (p : Program) (s : State) (contact : ℕ) (events : List Event) → contact < 16 → AllByRecursion IsEvent events
    → is_closed (run p s events).contacts contact ≡ level_after contact (is_closed s.contacts contact) events
