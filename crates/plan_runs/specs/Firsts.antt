-- The instructions that a frame executes, and the first frame of a run with a property.
use Rattle.std.specs.Prelude.{◌≡◌, ◌⊎◌, ℕ, ◌+◌, ◌<◌, Bool, true, false, nat_le, List, [], ◌∷◌, Some}
use Rattle.plan_code.specs.declared.instr.Instr.{Instr}
use Rattle.plan_code.specs.Program.{Program, instr_at}
use Rattle.plan_code.specs.Machine.{State}
use Rattle.plan_runs.specs.declared.event.Event.{Event}
use Rattle.plan_runs.specs.declared.event.Event.TheVariants.{Contact, Frame}
use Rattle.plan_runs.specs.Frames.{ready, burst, frame_steps, after_frame}
use Rattle.plan_runs.specs.Runs.{happens}

-- the frame from this state executes an instruction
abbrev pub is_active : Program → State → Bool
is_active p s = nat_le 1 (frame_steps p s)

-- this instruction is one of those that the frame executes: the k-th of them, from 0
abbrev pub CarriesOut : Program → State → Instr → Type 0
CarriesOut p s i = (k : ℕ) × (k < frame_steps p s) × (instr_at p (burst k p (ready s)).pc ≡ Some i)

-- the frames of these events are numbered, starting with this number: the first frame where `does` is true is the first
-- where `Is` holds
abbrev pub IsFirstWhere : (State → Bool) → (ℕ → State → Type 0) → ℕ → Program → State → List Event → Type 0
IsFirstWhere does Is number p s [] = Unit {0}
IsFirstWhere does Is number p s (Contact c closed ∷ es) =
    IsFirstWhere does Is number p (happens p s (Contact c closed)) es
IsFirstWhere does Is number p s (Frame ∷ es) =
    ((does s ≡ true) × Is number s)
    ⊎ ((does s ≡ false) × (Is number s → ⊥) × IsFirstWhere does Is (number + 1) p (after_frame p s) es)
