-- The blocks that are found unreached are those of which a code has nothing.
use Rattle.std.proofs.Common.{◌≡◌, ◌≢◌, ℕ, Bool, true, false, if◌then◌else◌, List, [], ◌∷◌, ◌++◌, Contains, Option}
use Rattle.std.proofs.Common.{Some, None, refl, sym, ap, subst, ◌∙◌}
use Rattle.std.specs.Prelude.{◌==◌}
use Rattle.std.specs.List.{AllByRecursion, list_any}
use Rattle.std.proofs.lemmas.Bool.{false≢true, eqb-true, eq-eqb}
use Rattle.mux_types.proofs.Elements.{contains_first, contains_none}
use Rattle.plan_code.specs.declared.instr.Line.{Line}
use Rattle.script_front.specs.declared.tree.Statement.{Statement}
use Rattle.plan_explain.specs.Blocks.{own_line, IsUnreached, or_later, first_line, unless_line, unreached_of, unreached}
use Rattle.plan_explain.proofs.Lists.{from_flat, to_flat, from_one, from_any, from_none}

pub record IsFirstLine (block : List Statement) (line : ℕ) : Type 0 where
  pub front : List Statement
  pub statement : Statement
  pub rest : List Statement
  pub is : block ≡ front ++ statement ∷ rest
  pub before : AllByRecursion (λ s. own_line s ≡ None) front
  pub first : own_line statement ≡ Some line

first_at : (s : Statement) (ss : List Statement) (line : ℕ) (o : Option ℕ) → own_line s ≡ o
    → (first_line ss ≡ Some line → IsFirstLine ss line) → or_later o (first_line ss) ≡ Some line
    → IsFirstLine (s ∷ ss) line
first_at s ss line None e later h =
    let rest = later h in
    record {
      front = s ∷ rest.front;
      statement = rest.statement;
      rest = rest.rest;
      is = ap (λ (xs : List Statement). s ∷ xs) rest.is;
      before = (e, rest.before);
      first = rest.first;
    }
first_at s ss line (Some k) e later h =
    record { front = []; statement = s; rest = ss; is = refl; before = tt; first = e ∙ h }

first_of : (block : List Statement) (line : ℕ) → first_line block ≡ Some line → IsFirstLine block line
first_of [] line h = absurd cc
first_of (s ∷ ss) line h = first_at s ss line (own_line s) refl (first_of ss line) h

behind : (front : List Statement) (s : Statement) (rest : List Statement) (line : ℕ)
    → AllByRecursion (λ x. own_line x ≡ None) front → own_line s ≡ Some line
    → first_line (front ++ s ∷ rest) ≡ Some line
behind [] s rest line before first = ap (λ (o : Option ℕ). or_later o (first_line rest)) first
behind (x ∷ xs) s rest line before first = ap (λ (o : Option ℕ). or_later o (first_line (xs ++ s ∷ rest))) before.0
    ∙ behind xs s rest line before.1 first

absent_at : (lines : List Line) (number : ℕ) → list_any (λ l. l.number == number) lines ≡ false → (l : Line)
    → Contains lines l → l.number ≢ number
absent_at lines number e l there same =
    let off = from_none (λ (x : Line). x.number == number) lines l e there in
    false≢true (sym off ∙ eq-eqb l.number number same)

unreached_at : (lines : List Line) (blocks : List (List Statement)) (block : List Statement) (number line : ℕ)
    (b : Bool) → list_any (λ l. l.number == number) lines ≡ b → Contains blocks block
    → first_line block ≡ Some number → Contains (if b then [] else number ∷ []) line → IsUnreached lines blocks line
unreached_at lines blocks block number line true e there first h = absurd (contains_none line h)
unreached_at lines blocks block number line false e there first h =
    let same : number ≡ line = from_one number line h in
    let at = first_of block number first in
    subst (λ (n : ℕ). IsUnreached lines blocks n) same (record {
      block = block;
      defined = there;
      front = at.front;
      statement = at.statement;
      rest = at.rest;
      is = at.is;
      before = at.before;
      first = at.first;
      absent = absent_at lines number e;
    })

unreached_in : (lines : List Line) (blocks : List (List Statement)) (block : List Statement) (line : ℕ) (o : Option ℕ)
    → first_line block ≡ o → Contains blocks block → Contains (unless_line lines o) line → IsUnreached lines blocks line
unreached_in lines blocks block line None e there h = absurd (contains_none line h)
unreached_in lines blocks block line (Some number) e there h =
    unreached_at lines blocks block number line (list_any (λ l. l.number == number) lines) refl there e h

pub is_unreached : (lines : List Line) (blocks : List (List Statement)) (line : ℕ)
    → Contains (unreached lines blocks) line → IsUnreached lines blocks line
is_unreached lines blocks line h =
    let from = from_flat (unreached_of lines) blocks line h in
    unreached_in lines blocks from.source line (first_line from.source) refl from.there from.has

-- ---- and back

line_listed : (lines : List Line) (line : ℕ) (b : Bool) → list_any (λ l. l.number == line) lines ≡ b
    → ((l : Line) → Contains lines l → l.number ≢ line) → Contains (if b then [] else line ∷ []) line
line_listed lines line true e absent =
    let l = from_any (λ (x : Line). x.number == line) lines e in
    absurd (absent l.element l.there (eqb-true l.element.number line l.passes))
line_listed lines line false e absent = contains_first line []

pub unreached_listed : (lines : List Line) (blocks : List (List Statement)) (line : ℕ) → IsUnreached lines blocks line
    → Contains (unreached lines blocks) line
unreached_listed lines blocks line h =
    let first : first_line h.block ≡ Some line = ap first_line h.is
    ∙ behind h.front h.statement h.rest line h.before h.first in
    let here : Contains (unless_line lines (Some line)) line =
    line_listed lines line (list_any (λ l. l.number == line) lines) refl h.absent in
    let at : Contains (unreached_of lines h.block) line =
    subst (λ (o : Option ℕ). Contains (unless_line lines o) line) (sym first) here in
    to_flat (unreached_of lines) blocks h.block line h.defined at
