-- A plan's own instructions do what they did, wherever they stand in a code that takes over.
use Rattle.std.specs.Prelude.{◌≡◌, ℕ, ◌+◌, List, length}
use Rattle.mux_types.specs.Configuration.{Configuration}
use Rattle.plan_code.specs.Program.{Program}
use Rattle.plan_code.specs.Machine.{State}
use Rattle.plan_runs.specs.declared.event.Event.{Event}
use Rattle.plan_runs.specs.Runs.{run, run_frames}
use Rattle.plan_takeover.specs.Takeover.{IsTakeover, leading}

-- two states that differ in the pc alone: in the second one it is so many instructions further on
abbrev pub IsMovedBy : ℕ → State → State → Type 0
IsMovedBy by s t = t ≡ record s { pc = s.pc + by }

-- over these events two codes send the same bytes, and come to states that differ in the pc alone
pub record PlayAlike (by : ℕ) (old new : Program) (s t : State) (events : List Event) : Type 0 where
  pub bytes : run_frames new t events ≡ run_frames old s events
  pub states : IsMovedBy by (run old s events) (run new t events)

-- the number of instructions that lead to the plan
abbrev pub lead : Program → (line : ℕ) → (from to : Configuration) → ℕ
lead old line from to = length (leading old.plan line from to)

-- ---- the law

abbrev pub PlansPlayOn : Type 0
PlansPlayOn =
    (line : ℕ) (old new : Program) (from to : Configuration) → IsTakeover line old from to new
    → (s t : State) (events : List Event) → IsMovedBy (lead old line from to) s t
    → PlayAlike (lead old line from to) old new s t events
