-- Codes that wait for a time of day first.
use Rattle.std.specs.Prelude.{◌≡◌, ℕ, List, [], ◌∷◌, ◌++◌, Option, Some, None}
use Rattle.std.specs.List.{AllByRecursion}
use Rattle.plan_code.specs.declared.instr.Instr.{Instr}
use Rattle.plan_code.specs.declared.instr.Instr.TheVariants.{Until, Edit, Set}
use Rattle.plan_code.specs.declared.instr.Line.{Line}
use Rattle.plan_explain.specs.declared.beginning.FirstWait.{FirstWait}

-- nothing is seen of it in any frame: an edit before its commit, or a counter
abbrev pub IsQuiet : Instr → Type 0
IsQuiet (Edit e) = Unit {0}
IsQuiet (Set k n) = Unit {0}
IsQuiet _ = ⊥

-- the code waits for this frame of the day before anything is seen of it
pub record WaitsFirst (lines : List Line) (w : FirstWait) : Type 0 where
  pub front : List Line
  pub rest : List Line
  pub is : lines ≡ front ++ record { number = w.line; instr = Until w.frame } ∷ rest
  pub quiet : AllByRecursion (λ l. IsQuiet l.instr) front

-- ---- as a function

abbrev pub wait_at : ℕ → Instr → Option FirstWait → Option FirstWait
wait_at line (Edit e) later = later
wait_at line (Set k n) later = later
wait_at line (Until t) later = Some (record { line = line; frame = t })
wait_at line _ later = None

abbrev pub first_wait : List Line → Option FirstWait
first_wait [] = None
first_wait (l ∷ ls) = wait_at l.number l.instr (first_wait ls)
