-- A script that is refused is not accepted; why, and at which line.
use Rattle.script_compiler.proofs.Words.{◌≡◌, ◌≢◌, Before, Block, Cause, CompileFault, Configuration, Err, IfErr}
use Rattle.script_compiler.proofs.Words.{IfRefused, IsDone, IsOpeningRefused, List, Memory, None, Ok, Option, Plan}
use Rattle.script_compiler.proofs.Words.{Refused, Result, Some, Statement, Statement-F, before, statement_step, subst}
use Rattle.script_compiler.proofs.Words.{sym, ℕ}
use Rattle.plan_verifier.specs.Tests.{unless, start_cause}
use Rattle.plan_verifier.proofs.DecidingFlows.{Computes, computes_some, computes_where, computes_orelse, decides_lt}
use Rattle.script_compiler.proofs.Trees.{by_step}

-- ---- a block's statements

step_not_done : (table : List Block) (x : Statement-F Before) (rest : Block) → IsDone (statement_step table x rest) → ⊥
step_not_done table (Statement-F.Act line act) rest h = h
step_not_done table (Statement-F.End line) rest h = h
step_not_done table (Statement-F.If line condition first) rest h = h
step_not_done table (Statement-F.IfElse line condition first second) rest h = h
step_not_done table (Statement-F.Repeat line times body) rest h = h
step_not_done table (Statement-F.Forever line body) rest h = h
step_not_done table (Statement-F.Apply line block) rest h = h

-- a statement is no end of a block
pub not_done : (table : List Block) (s : Statement) (rest : Block) → IsDone (before table s rest) → ⊥
not_done table s rest = by_step table (λ f. IsDone (f rest) → ⊥) (λ x. step_not_done table x rest) s

-- ---- why a script is refused, and at which line

-- two facts about a fault
pub err_two : {T : Type 0} (x : Result T CompileFault) {P Q R : CompileFault → Type 0}
    → ((y : CompileFault) → P y → Q y → R y) → IfErr x P → IfErr x Q → IfErr x R
err_two (Ok f) m h k = h
err_two (Err y) m h k = m y h k

pub refused_map : (e : CompileFault) {P Q : ℕ → Cause → Type 0} → ((at : ℕ) (given : Cause) → P at given → Q at given)
    → IfRefused e P → IfRefused e Q
refused_map (Refused at given) m h = m at given h
refused_map _ m h = tt

-- a refusal is not `Memory`
pub refused_but_memory : (e : CompileFault) {P Q : ℕ → Cause → Type 0}
    → ((at : ℕ) (given : Cause) → e ≢ Memory → P at given → Q at given) → IfRefused e P → IfRefused e Q
refused_but_memory (Refused at given) m h = m at given (λ is. cc) h
refused_but_memory _ m h = tt

pub refused_here : (e : CompileFault) (line : ℕ) (cause : Cause) (P : ℕ → Cause → Type 0) → e ≡ Refused line cause
    → P line cause → IfRefused e P
refused_here e line cause P is h = subst (λ (x : CompileFault). IfRefused x P) (sym is) h

-- ---- why the opening of a script is refused, from the cause found

opening_computes : (plan : Plan) (c : Configuration) → Computes (start_cause plan c) (IsOpeningRefused plan c)
opening_computes plan c = computes_orelse _ _ _ _ (computes_some _ _) (computes_where _ _ _ (decides_lt _ _))

found_by : (o : Option Cause) (cause : Cause) → unless o ≡ Err cause → o ≡ Some cause
found_by None cause e = absurd cc
found_by (Some other) cause e = cc

pub opening_why : (plan : Plan) (c : Configuration) (cause : Cause) → unless (start_cause plan c) ≡ Err cause
    → IsOpeningRefused plan c cause
opening_why plan c cause e = (opening_computes plan c).told cause (found_by (start_cause plan c) cause e)
