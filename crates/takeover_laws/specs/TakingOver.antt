-- A plan that takes over: until the first swap what was on air stays, and from the frame of that swap on the plan is
-- played as if it were started in that frame.
use Rattle.std.specs.Prelude.{◌≡◌, ℕ, ◌+◌, ◌-◌, ◌/◌, ◌≤◌, true, false, List, [], ◌∷◌, Some, length, slice_get}
use Rattle.std.specs.List.{AllByRecursion}
use Rattle.fib_codec.specs.Layouts.{layout_mode}
use Rattle.fib_codec.specs.Modes.{count_step}
use Rattle.mux_types.specs.Configuration.{Configuration}
use Rattle.plan_code.specs.declared.label.Label.{Label}
use Rattle.plan_code.specs.declared.plan.Plan.{Plan}
use Rattle.plan_code.specs.Program.{Program, IsProgram, label_at}
use Rattle.plan_code.specs.Machine.{State}
use Rattle.plan_runs.specs.declared.event.Event.{Event}
use Rattle.plan_runs.specs.declared.event.Event.TheVariants.{Contact, Frame}
use Rattle.plan_runs.specs.declared.event.Start.{Start}
use Rattle.plan_runs.specs.Frames.{after_frame, is_due, ready}
use Rattle.plan_runs.specs.Runs.{IsEvent, IsStart, StartIsInRange, happens, run}
use Rattle.plan_takeover.specs.Takeover.{IsTakeover}
use Rattle.script_config.specs.Differences.{edits_between}
use Rattle.takeover_laws.specs.Moved.{IsMovedBy, PlayAlike, lead}

-- the code begins with this configuration: that of its first label
pub record BeginsWith (code : Program) (config : Configuration) : Type 0 where
  pub label : Label
  pub first : label_at code 0 ≡ Some label
  pub there : slice_get code.configurations label.cur ≡ Some config

-- no swap is made in the frames of these events
abbrev pub MakesNoSwap : Program → State → List Event → Type 0
MakesNoSwap p s [] = Unit {0}
MakesNoSwap p s (Contact c closed ∷ es) = MakesNoSwap p (happens p s (Contact c closed)) es
MakesNoSwap p s (Frame ∷ es) = (is_due s.left ≡ false) × MakesNoSwap p (after_frame p s) es

-- a start in the frame of this state
abbrev pub start_in : State → Start
start_in s = record { eid = s.eid; count = s.count; day = s.day; contacts = s.contacts }

-- a frame begins in this state of the code that takes over. Once its swap is made, the state is that in which the plan
-- starts in this frame, in range, but for the pc; and from this frame on the two codes play alike
pub record HandsOver (by : ℕ) (old new : Program) (to : Configuration) (s : State) : Type 0 where
  pub begun : State
  pub in_range : StartIsInRange (start_in s)
  pub starts : IsStart old (start_in s) begun
  pub opens : begun.current ≡ to
  pub made : IsMovedBy by begun (ready s)
  pub onward : (more : List Event) → PlayAlike by old new begun s (Frame ∷ more)

-- after these events, in which no swap was made
pub record TakesOver (by : ℕ) (old new : Program) (from to : Configuration) (s : State) : Type 0 where
  pub until_then : s.current ≡ from
  pub from_then : is_due s.left ≡ true → HandsOver by old new to s

-- ---- when the swap comes

abbrev pub frame_count : List Event → ℕ
frame_count [] = 0
frame_count (Contact c closed ∷ es) = frame_count es
frame_count (Frame ∷ es) = frame_count es + 1

-- at most so many frames come before that of the swap: those that the edits fill, the notice, and those up to the next
-- CIF count on which a swap can fall
abbrev pub most_before : Plan → (from to : Configuration) → ℕ
most_before plan from to =
    length (edits_between from to) / (plan.budget - 1) + (plan.notice + (count_step (layout_mode plan.layout) - 1))

-- ---- the laws

abbrev pub PlansTakeOver : Type 0
PlansTakeOver =
    (line : ℕ) (old new : Program) (from to : Configuration)
    → IsProgram old → IsProgram new → BeginsWith old to → IsTakeover line old from to new
    → (start : Start) (first : State) (events : List Event)
    → StartIsInRange start → IsStart new start first → AllByRecursion IsEvent events → MakesNoSwap new first events
    → TakesOver (lead old line from to) old new from to (run new first events)

-- so the swap comes
abbrev pub PlansTakeOverInTime : Type 0
PlansTakeOverInTime =
    (line : ℕ) (old new : Program) (from to : Configuration)
    → IsProgram old → IsProgram new → BeginsWith old to → IsTakeover line old from to new → 2 ≤ old.plan.budget
    → (start : Start) (first : State) (events : List Event) → IsStart new start first → MakesNoSwap new first events
    → frame_count events ≤ most_before old.plan from to
