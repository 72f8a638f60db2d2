-- Contact settings between frames: only the last level of each contact counts.
use Rattle.std.specs.Prelude.{◌≡◌, ℕ, ◌<◌, ◌^◌, ◌==◌, Bool, if◌then◌else◌, List, [], ◌∷◌, ◌++◌, Option, Some, None}
use Rattle.std.specs.List.{AllByRecursion}
use Rattle.plan_code.specs.Program.{Program}
use Rattle.plan_code.specs.Machine.{State}
use Rattle.plan_runs.specs.declared.event.Event.{Event}
use Rattle.plan_runs.specs.declared.event.Event.TheVariants.{Contact, Frame}
use Rattle.plan_runs.specs.Runs.{run, run_frames, run_states}

-- a contact and its new level, closed or open
pub record Setting : Type 0 where
  pub contact : ℕ
  pub closed : Bool

abbrev pub IsSetting : Setting → Type 0
IsSetting x = x.contact < 16

-- the last level that the settings give a contact, if any
abbrev pub last_of : Option Bool → Option Bool → Option Bool
last_of earlier None = earlier
last_of earlier (Some closed) = Some closed

abbrev pub level_by : ℕ → Setting → Option Bool
level_by contact x = if x.contact == contact then Some x.closed else None

abbrev pub last_level : ℕ → List Setting → Option Bool
last_level contact [] = None
last_level contact (x ∷ xs) = last_of (level_by contact x) (last_level contact xs)

-- settings with the same last level for each contact
abbrev pub AgreeOnContacts : List Setting → List Setting → Type 0
AgreeOnContacts xs ys = (contact : ℕ) → last_level contact xs ≡ last_level contact ys

abbrev pub AreAllAlike : List (List Setting) → List (List Setting) → Type 0
AreAllAlike [] [] = Unit {0}
AreAllAlike [] (y ∷ ys) = ⊥
AreAllAlike (x ∷ xs) [] = ⊥
AreAllAlike (x ∷ xs) (y ∷ ys) = AgreeOnContacts x y × AreAllAlike xs ys

-- the settings as events; below, frames with settings before each of them and after the last
abbrev pub set_events : List Setting → List Event
set_events [] = []
set_events (x ∷ xs) = Contact x.contact x.closed ∷ set_events xs

abbrev pub schedule : List (List Setting) → List Setting → List Event
schedule [] last = set_events last
schedule (xs ∷ more) last = set_events xs ++ Frame ∷ schedule more last

-- lists of events that differ only in contact settings between two frames, with the same last level for each contact,
-- give the same bytes, the same states before and after each frame, and the same final state
abbrev pub LastLevelsCount : Type 0
LastLevelsCount =
    (p : Program) (s : State) (these those : List (List Setting)) (last other : List Setting)
    → s.contacts.0 < 2 ^ 16
    → AllByRecursion (AllByRecursion IsSetting) these → AllByRecursion (AllByRecursion IsSetting) those
    → AllByRecursion IsSetting last → AllByRecursion IsSetting other
    → AreAllAlike these those → AgreeOnContacts last other
    → (run_frames p s (schedule these last) ≡ run_frames p s (schedule those other))
    × (run_states p s (schedule these last) ≡ run_states p s (schedule those other))
    × (run p s (schedule these last) ≡ run p s (schedule those other))
