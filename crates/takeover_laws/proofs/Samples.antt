-- What vectors speak of: a plan that stays at 128 kbit/s, and the code that takes over to it from 96 kbit/s.
use Rattle.takeover_laws.proofs.Words.{[], ◌∷◌, BeginsWith, Configuration, Event, Frame, IsTakeover, Joins, List}
use Rattle.takeover_laws.proofs.Words.{Program, Some, State, WaitsSwap, beginning, refl, suc, zero, ℕ}
use Rattle.mux_config.specs.declared.edit.Edit.TheVariants.{RateSub}
use Rattle.plan_code.specs.declared.instr.Instr.TheVariants.{CommitIn as CommitsIn, Edit as EditsBy, Jump}
use Rattle.plan_code.specs.declared.instr.Instr.TheVariants.{Wait as WaitsFor}
use Rattle.plan_runs.proofs.Samples.{code_from, first_state, label, line, one_sub, plan, with_sub}

abbrev pub lower : Configuration
lower = with_sub 96

-- `wait 1`, and that again
abbrev pub old : Program
old = code_from one_sub (label 0 2 ∷ []) (line (WaitsFor 1) ∷ line (Jump 0) ∷ [])

-- `rate sub 1 128`, `commit in 24`, `join`, and then those of the plan
abbrev pub new : Program
new = record {
  plan = plan;
  configurations = one_sub ∷ lower ∷ [];
  labels = beginning 1 3 ∷ label 3 2 ∷ [];
  lines =
      line (EditsBy (RateSub 1 128))
      ∷ line (CommitsIn 24) ∷ line Joins ∷ line (WaitsFor 1) ∷ line (Jump 3) ∷ [];
}

pub takes_over : IsTakeover 1 old lower one_sub new
takes_over = record { plan = refl; lines = refl; index = 1; cost = 3; begins = refl; labels = refl }

pub begins : BeginsWith old one_sub
begins = record { label = label 0 2; first = refl; there = refl }

-- at this pc, with this configuration on air; below, in the frame of the swap to another one
abbrev pub at_pc : ℕ → Configuration → State
at_pc pc c = record (first_state c 24) { pc = pc }

abbrev pub due_at : ℕ → Configuration → State
due_at pc next = record (at_pc pc lower) { next = next; left = Some 0; hold = WaitsSwap }

abbrev pub frames : ℕ → List Event
frames zero = []
frames (suc n) = Frame ∷ frames n
