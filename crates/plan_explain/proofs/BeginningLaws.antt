-- The first wait that is found of a code is the one before which nothing is seen of it.
use Rattle.std.proofs.Common.{◌≡◌, ℕ, List, [], ◌∷◌, ◌++◌, Option, Some, refl, ap, subst, ◌∙◌}
use Rattle.std.specs.List.{AllByRecursion}
use Rattle.plan_code.specs.declared.instr.Instr.{Instr}
use Rattle.plan_code.specs.declared.instr.Instr.TheVariants.{Wait, Until, WaitContact, WaitAny, CommitIn, CommitAt}
use Rattle.plan_code.specs.declared.instr.Instr.TheVariants.{Join, Settle, End, Edit, Test, TestTime, Jump, Set, Loop}
use Rattle.plan_code.specs.declared.instr.Line.{Line}
use Rattle.plan_explain.specs.declared.beginning.FirstWait.{FirstWait}
use Rattle.plan_explain.specs.Beginnings.{IsQuiet, WaitsFirst, wait_at, first_wait}

here : (line frame : ℕ) (ls : List Line) (w : FirstWait) → Some (record { line = line; frame = frame }) ≡ Some w
    → WaitsFirst (record { number = line; instr = Until frame } ∷ ls) w
here line frame ls w e =
    let v : FirstWait = record { line = line; frame = frame } in
    let same : v ≡ w = cc in
    subst (λ (x : FirstWait). WaitsFirst (record { number = line; instr = Until frame } ∷ ls) x) same
    (record { front = []; rest = ls; is = refl; quiet = tt })

later : (l : Line) (ls : List Line) (w : FirstWait) → IsQuiet l.instr → WaitsFirst ls w → WaitsFirst (l ∷ ls) w
later l ls w quiet h = record {
  front = l ∷ h.front;
  rest = h.rest;
  is = ap (λ (xs : List Line). l ∷ xs) h.is;
  quiet = (quiet, h.quiet);
}

at_instr : (line : ℕ) (i : Instr) (ls : List Line) (w : FirstWait) → (first_wait ls ≡ Some w → WaitsFirst ls w)
    → wait_at line i (first_wait ls) ≡ Some w → WaitsFirst (record { number = line; instr = i } ∷ ls) w
at_instr line (Edit e) ls w rest h = later (record { number = line; instr = Edit e }) ls w tt (rest h)
at_instr line (Set k n) ls w rest h = later (record { number = line; instr = Set k n }) ls w tt (rest h)
at_instr line (Until t) ls w rest h = here line t ls w h
at_instr line (Wait n) ls w rest h = absurd cc
at_instr line (WaitContact k b) ls w rest h = absurd cc
at_instr line (WaitAny closed opened until frames) ls w rest h = absurd cc
at_instr line (CommitIn d) ls w rest h = absurd cc
at_instr line (CommitAt n) ls w rest h = absurd cc
at_instr line Join ls w rest h = absurd cc
at_instr line Settle ls w rest h = absurd cc
at_instr line End ls w rest h = absurd cc
at_instr line (Test k t) ls w rest h = absurd cc
at_instr line (TestTime from to t) ls w rest h = absurd cc
at_instr line (Jump t) ls w rest h = absurd cc
at_instr line (Loop k t) ls w rest h = absurd cc

pub waits_first : (ls : List Line) (w : FirstWait) → first_wait ls ≡ Some w → WaitsFirst ls w
waits_first [] w h = absurd cc
waits_first (l ∷ ls) w h = at_instr l.number l.instr ls w (waits_first ls w) h

passed : (line : ℕ) (i : Instr) (later : Option FirstWait) → IsQuiet i → wait_at line i later ≡ later
passed line (Edit e) later quiet = refl
passed line (Set k n) later quiet = refl
passed line (Until t) later quiet = absurd quiet
passed line (Wait n) later quiet = absurd quiet
passed line (WaitContact k b) later quiet = absurd quiet
passed line (WaitAny closed opened until frames) later quiet = absurd quiet
passed line (CommitIn d) later quiet = absurd quiet
passed line (CommitAt n) later quiet = absurd quiet
passed line Join later quiet = absurd quiet
passed line Settle later quiet = absurd quiet
passed line End later quiet = absurd quiet
passed line (Test k t) later quiet = absurd quiet
passed line (TestTime from to t) later quiet = absurd quiet
passed line (Jump t) later quiet = absurd quiet
passed line (Loop k t) later quiet = absurd quiet

found_behind : (front : List Line) (w : FirstWait) (rest : List Line) → AllByRecursion (λ l. IsQuiet l.instr) front
    → first_wait (front ++ record { number = w.line; instr = Until w.frame } ∷ rest) ≡ Some w
found_behind [] w rest quiet = refl
found_behind (l ∷ ls) w rest quiet = passed l.number l.instr _ quiet.0 ∙ found_behind ls w rest quiet.1

pub is_found : (ls : List Line) (w : FirstWait) → WaitsFirst ls w → first_wait ls ≡ Some w
is_found ls w h = ap first_wait h.is ∙ found_behind h.front w h.rest h.quiet
