-- Runs: the states and the bytes over a list of events, and that there is no trap.
use Rattle.std.specs.Prelude.{◌≡◌, ℕ, ◌<◌, List, [], ◌∷◌, Some, None, slice_get, replicate}
use Rattle.std.specs.List.{AllByRecursion}
use Rattle.mux_types.specs.declared.limits.TheConstants.{COUNTS}
use Rattle.plan_code.specs.declared.limits.TheConstants.{FRAMES_A_DAY}
use Rattle.plan_code.specs.declared.hold.Hold.TheVariants.{Running}
use Rattle.plan_code.specs.declared.label.Label.{Label}
use Rattle.plan_code.specs.Flags.{with_contact}
use Rattle.plan_code.specs.Program.{Program, label_at}
use Rattle.plan_code.specs.Machine.{State}
use Rattle.plan_runs.specs.declared.event.Event.{Event}
use Rattle.plan_runs.specs.declared.event.Event.TheVariants.{Contact, Frame}
use Rattle.plan_runs.specs.declared.event.Start.{Start}
use Rattle.plan_runs.specs.Frames.{after_frame, frame_bytes, FrameIsAllowed}

-- ---- starts and events within the ranges of their types

pub record StartIsInRange (start : Start) : Type 0 where
  pub eid : start.eid < 65536
  pub count : start.count < COUNTS
  pub day : start.day < FRAMES_A_DAY
  pub contacts : start.contacts.0 < 65536

abbrev pub IsEvent : Event → Type 0
IsEvent (Contact c closed) = c < 16
IsEvent Frame = Unit {0}

-- the state in which a code starts: the configuration of its first label is current and next, no swap is pending, the
-- machine is running and no counter is set
pub record IsStart (p : Program) (start : Start) (s : State) : Type 0 where
  pub label : Label
  pub first : label_at p 0 ≡ Some label
  pub current : slice_get p.configurations label.cur ≡ Some s.current
  pub next : s.next ≡ s.current
  pub left : s.left ≡ None
  pub pc : s.pc ≡ 0
  pub hold : s.hold ≡ Running
  pub counters : s.counters ≡ replicate 8 0
  pub contacts : s.contacts ≡ start.contacts
  pub count : s.count ≡ start.count
  pub day : s.day ≡ start.day
  pub eid : s.eid ≡ start.eid
  pub page_index : s.page_index ≡ 0

-- ---- runs

-- a contact event sets one contact, and a frame event makes one whole frame
abbrev pub happens : Program → State → Event → State
happens p s (Contact c closed) = record s { contacts = with_contact c closed s.contacts }
happens p s Frame = after_frame p s

-- the state after all events
abbrev pub run : Program → State → List Event → State
run p s [] = s
run p s (e ∷ es) = run p (happens p s e) es

-- the bytes of each frame, in order
abbrev pub run_frames : Program → State → List Event → List (List ℕ)
run_frames p s [] = []
run_frames p s (Contact c closed ∷ es) = run_frames p (happens p s (Contact c closed)) es
run_frames p s (Frame ∷ es) = frame_bytes p s ∷ run_frames p (after_frame p s) es

-- the states before and after each frame
abbrev pub run_states : Program → State → List Event → List State
run_states p s [] = []
run_states p s (Contact c closed ∷ es) = run_states p (happens p s (Contact c closed)) es
run_states p s (Frame ∷ es) = s ∷ after_frame p s ∷ run_states p (after_frame p s) es

-- no frame has a trap; whether a swap was announced is not considered
abbrev pub EventIsAllowed : Program → State → Event → Type 0
EventIsAllowed p s (Contact c closed) = Unit {0}
EventIsAllowed p s Frame = FrameIsAllowed p s

abbrev pub RunIsAllowed : Program → State → List Event → Type 0
RunIsAllowed p s [] = Unit {0}
RunIsAllowed p s (e ∷ es) = EventIsAllowed p s e × RunIsAllowed p (happens p s e) es

-- ---- states that a run reaches

-- some start in range and some events reach the state: so the states of a player at any time
pub record IsReached (p : Program) (s : State) : Type 0 where
  pub start : Start
  pub first : State
  pub events : List Event
  pub in_range : StartIsInRange start
  pub started : IsStart p start first
  pub within : AllByRecursion IsEvent events
  pub leads : run p first events ≡ s
