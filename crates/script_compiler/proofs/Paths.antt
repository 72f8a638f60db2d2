-- Paths of a code: `longest` is the length of the longest one, which is followed from need to need.
use Rattle.script_compiler.proofs.Words.{[], ◌++◌, ◌+◌, ◌-◌, ◌<◌, ◌∙◌, ◌∷◌, ◌≡◌, ◌≤◌, Bool, HasPath, Instr, IsNeed}
use Rattle.script_compiler.proofs.Words.{IsSome, IsWithinBudget, Line, List, LongestPathIsLeastBudget, None, Option}
use Rattle.script_compiler.proofs.Words.{RunsTo, Some, StepsTo, ap, arith, cases_lt, continues, false, get_or}
use Rattle.script_compiler.proofs.Words.{get_or_append_left, get_or_past, get_or_push, if◌then◌else◌, inl, inr}
use Rattle.script_compiler.proofs.Words.{instrs_of, length, longest, max, need_at, need_to, refl, rules, slice_get}
use Rattle.script_compiler.proofs.Words.{slice_get_past, subst, suc, suspends, sym, target_of, true, zero, ℕ}

-- ---- `longest` is the length of a path of at most `n` instructions, and no such path is longer

module _ (code : List Instr) where
  -- one instruction before a path
  extend : (i : Instr) (to m pc : ℕ) → slice_get code pc ≡ Some i → StepsTo i pc to → HasPath code to m
      → HasPath code pc (m + 1)
  extend i to zero pc e g h = subst (λ (o : Option Instr). IsSome o) (sym e) (search rules)
  extend i to (suc m) pc e g h = let f : suc m + 1 ≡ suc (suc m) = omega arith in
      subst (λ n. HasPath code pc n) (sym f) (i, to, e, g, h)

  one : (i : Instr) (pc : ℕ) → slice_get code pc ≡ Some i → HasPath code pc 1
  one i pc e = subst (λ (o : Option Instr). IsSome o) (sym e) (search rules)

  longer_of : (pc x y : ℕ) → HasPath code pc (x + 1) → HasPath code pc (y + 1) → HasPath code pc (1 + max x y)
  longer_of pc x y h k = elim (cases_lt x y) [
    | inl lt ↦ let e : y + 1 ≡ 1 + max x y = omega (arith, lt) in subst (λ n. HasPath code pc n) e k
    | inr le ↦ let e : x + 1 ≡ 1 + max x y = omega (arith, le) in subst (λ n. HasPath code pc n) e h
  ]

  on_path : (i : Instr) (pc n : ℕ) → slice_get code pc ≡ Some i → suspends i ≡ false
      → ((to : ℕ) → HasPath code to (longest code n to)) → (b : Bool) → continues i ≡ b
      → HasPath code pc ((if b then longest code n (pc + 1) else 0) + 1)
  on_path i pc n e s ih true c = extend i (pc + 1) (longest code n (pc + 1)) pc e (s, inl (c, refl)) (ih (pc + 1))
  on_path i pc n e s ih false c = one i pc e

  target_path : (i : Instr) (pc n : ℕ) → slice_get code pc ≡ Some i → suspends i ≡ false
      → ((to : ℕ) → HasPath code to (longest code n to)) → (o : Option ℕ) → target_of i ≡ o
      → HasPath code pc (need_to (λ to. longest code n to) o + 1)
  target_path i pc n e s ih None t = one i pc e
  target_path i pc n e s ih (Some to) t = extend i to (longest code n to) pc e (s, inr t) (ih to)

  path_at : (i : Instr) (pc n : ℕ) → slice_get code pc ≡ Some i → ((to : ℕ) → HasPath code to (longest code n to))
      → (b : Bool) → suspends i ≡ b
      → HasPath code pc (if b then 1 else 1 + max (if continues i then longest code n (pc + 1) else 0)
      (need_to (λ to. longest code n to) (target_of i)))
  path_at i pc n e ih true s = one i pc e
  path_at i pc n e ih false s = longer_of _ _ _ (on_path _ _ _ e s ih _ refl) (target_path _ _ _ e s ih _ refl)

  path_from : (pc n : ℕ) → ((to : ℕ) → HasPath code to (longest code n to)) → (o : Option Instr) → slice_get code pc ≡ o
      → HasPath code pc (need_at o pc (λ to. longest code n to))
  path_from pc n ih None e = tt
  path_from pc n ih (Some i) e = path_at i pc n e ih (suspends i) refl

  pub has_longest : (n pc : ℕ) → HasPath code pc (longest code n pc)
  has_longest zero pc = tt
  has_longest (suc n) pc = path_from pc n (λ to. has_longest n to) (slice_get code pc) refl

  -- ---- and no other is longer

  at_least_one : (i : Instr) (pc : ℕ) (further : ℕ → ℕ) (b : Bool) → suspends i ≡ b
      → 1 ≤ (if b then 1 else 1 + max (if continues i then further (pc + 1) else 0) (need_to further (target_of i)))
  at_least_one i pc further true e = omega arith
  at_least_one i pc further false e = omega arith

  some_at_least : (o : Option Instr) (pc : ℕ) (further : ℕ → ℕ) → IsSome o → 1 ≤ need_at o pc further
  some_at_least None pc further h = absurd (search (rules, h))
  some_at_least (Some i) pc further h = at_least_one i pc further (suspends i) refl

  goes_least : (i : Instr) (pc to : ℕ) (further : ℕ → ℕ) → StepsTo i pc to
      → further to + 1 ≤ need_at (Some i) pc further
  goes_least i pc to further g =
      let whole : need_at (Some i) pc further ≡ 1 + max (if continues i then further (pc + 1) else 0)
      (need_to further (target_of i)) =
      ap (λ b. if b then 1 else 1 + max (if continues i then further (pc + 1) else 0) (need_to further (target_of i)))
      g.0 in
      elim g.1 [
        | inl h ↦
            let e = ap (λ b. if b then further (pc + 1) else 0) h.0 ∙ ap further (sym h.1) in
            omega (arith, whole, e)
        | inr h ↦ let e : need_to further (target_of i) ≡ further to = ap (λ o. need_to further o) h in
            omega (arith, whole, e)
      ]

  pub longest_most : (n m pc : ℕ) → HasPath code pc m → m ≤ n → m ≤ longest code n pc
  longest_most n zero pc h le = omega arith
  longest_most zero (suc m) pc h le = absurd (omega arith)
  longest_most (suc n) (suc zero) pc h le = some_at_least (slice_get code pc) pc (λ to. longest code n to) h
  longest_most (suc n) (suc (suc m)) pc h le =
      let ih = longest_most n (suc m) h.1 h.4 (omega arith) in
      let least = goes_least h.0 pc h.1 (λ to. longest code n to) h.3 in
      omega (arith, ih, least, ap (λ o. need_at o pc (λ to. longest code n to)) h.2)

  -- ---- if every path is within the budget

  pub one_least : (budget pc : ℕ) (i : Instr) → slice_get code pc ≡ Some i → 1 ≤ longest code (budget + 1) pc
  one_least budget pc i e = longest_most (budget + 1) 1 pc (one i pc e) (omega arith)

  pub need_most : (budget pc : ℕ) → IsWithinBudget budget code → longest code (budget + 1) pc ≤ budget
  need_most budget pc w = w pc _ (has_longest (budget + 1) pc)

  pub need_onward : (budget pc to : ℕ) (i : Instr) → IsWithinBudget budget code → slice_get code pc ≡ Some i
      → StepsTo i pc to → longest code (budget + 1) to + 1 ≤ longest code (budget + 1) pc
  need_onward budget pc to i w e g =
      let path = extend i to (longest code (budget + 1) to) pc e g (has_longest (budget + 1) to) in
      longest_most (budget + 1) (longest code (budget + 1) to + 1) pc path (omega (arith, w pc _ path))

  -- what is computed is the need
  pub is_need : (budget pc : ℕ) → IsWithinBudget budget code → IsNeed code pc (longest code (budget + 1) pc)
  is_need budget pc w = record {
    path = has_longest (budget + 1) pc;
    longest = λ n h. let most = w pc n h in longest_most (budget + 1) n pc h (omega (arith, most));
  }

  pub shorter : (m n pc : ℕ) → m ≤ n → HasPath code pc n → HasPath code pc m
  shorter zero n pc le h = tt
  shorter (suc zero) (suc zero) pc le h = h
  shorter (suc zero) (suc (suc n)) pc le h = one h.0 pc h.2
  shorter (suc (suc m)) (suc (suc n)) pc le h = (h.0, h.1, h.2, h.3, shorter (suc m) (suc n) h.1 (omega arith) h.4)
  shorter _ _ pc le h = absurd (omega arith)

  -- and if what is computed is within the budget, so is every path
  pub within_from : (budget : ℕ) → ((pc : ℕ) → longest code (budget + 1) pc ≤ budget) → IsWithinBudget budget code
  within_from budget h pc n p = elim (cases_lt budget n) [
    | inl lt ↦ let most = longest_most (budget + 1) (budget + 1) pc (shorter (budget + 1) n pc (omega arith) p)
        (omega arith) in absurd (omega (arith, most, h pc))
    | inr le ↦ le
  ]

-- ---- iteration by iteration

need_least_from : (i : Instr) (pc n : ℕ) (further : ℕ → ℕ) → ((to : ℕ) → further to ≤ n) → (b : Bool) → suspends i ≡ b
    → (if b then 1 else 1 + max (if continues i then further (pc + 1) else 0) (need_to further (target_of i))) ≤ n + 1
need_least_from i pc n further h true e = omega arith
need_least_from i pc n further h false e =
    let on : (b : Bool) → (if b then further (pc + 1) else 0) ≤ n =
    λ b. elim b as (λ c. (if c then further (pc + 1) else 0) ≤ n) [ true ↦ h (pc + 1) | false ↦ omega arith ] in
    let back : (o : Option ℕ) → need_to further o ≤ n =
    λ o. elim o as (λ x. need_to further x ≤ n) [ None ↦ omega arith | Some to ↦ h to ] in
    omega (arith, on (continues i), back (target_of i))

pub longest_bound : (code : List Instr) (n pc : ℕ) → longest code n pc ≤ n
longest_bound code zero pc = omega arith
longest_bound code (suc n) pc = by (slice_get code pc) (λ to. longest_bound code n to)
  where
    by : (o : Option Instr) → ((to : ℕ) → longest code n to ≤ n) → need_at o pc (λ to. longest code n to) ≤ suc n
    by None ih = omega arith
    by (Some i) ih = let h = need_least_from i pc n (λ to. longest code n to) ih (suspends i) refl in omega (arith, h)

pub each_round : (code : List Instr) (further next : List ℕ) → length next ≡ length code
    → ((k : ℕ) → k < length code → get_or next k 0 ≡ need_at (slice_get code k) k (λ to. get_or further to 0))
    → (pc : ℕ) → get_or next pc 0 ≡ need_at (slice_get code pc) pc (λ to. get_or further to 0)
each_round code further next long each pc = elim (cases_lt pc (length code)) [
  | inl lt ↦ each pc lt
  | inr le ↦
      let none = slice_get_past code pc le in
      get_or_past next pc 0 (omega (arith, long, le)) ∙ sym (ap (λ o. need_at o pc (λ to. get_or further to 0)) none)
]

pub need_same : (o : Option Instr) (pc : ℕ) (f g : ℕ → ℕ) → ((to : ℕ) → f to ≡ g to) → need_at o pc f ≡ need_at o pc g
need_same None pc f g h = refl
need_same (Some i) pc f g h =
    let back : (t : Option ℕ) → need_to f t ≡ need_to g t =
    λ t. elim t as (λ x. need_to f x ≡ need_to g x) [ None ↦ refl | Some to ↦ h to ] in
    cc (h (pc + 1), back (target_of i))

pub next_round : (code : List Instr) (further next : List ℕ) (n : ℕ)
    → ((pc : ℕ) → get_or further pc 0 ≡ longest code n pc)
    → ((pc : ℕ) → get_or next pc 0 ≡ need_at (slice_get code pc) pc (λ to. get_or further to 0)) → (pc : ℕ)
    → get_or next pc 0 ≡ longest code (n + 1) pc
next_round code further next n h k pc =
    let e : suc n ≡ n + 1 = omega arith in
    cc (k pc, need_same (slice_get code pc) pc (λ to. get_or further to 0) (λ to. longest code n to) h, e)

-- once an iteration changes nothing, later ones do not either
pub longest_stays : (code : List Instr) (n k : ℕ) → ((pc : ℕ) → longest code (n + 1) pc ≡ longest code n pc) → (pc : ℕ)
    → longest code (k + n) pc ≡ longest code n pc
longest_stays code n zero same pc = let e : 0 + n ≡ n = omega arith in ap (λ m. longest code m pc) e
longest_stays code n (suc k) same pc =
    let e : n + 1 ≡ suc n = omega arith in
    let f : suc k + n ≡ suc (k + n) = omega arith in
    ap (λ m. longest code m pc) f ∙ need_same (slice_get code pc) pc (λ to. longest code (k + n) to)
    (λ to. longest code n to) (λ to. longest_stays code n k same to) ∙ ap (λ m. longest code m pc) (sym e) ∙ same pc

pub round_last : (code : List Instr) (further next : List ℕ) (n most : ℕ) → n ≤ most
    → ((pc : ℕ) → get_or further pc 0 ≡ longest code n pc) → ((pc : ℕ) → get_or next pc 0 ≡ longest code (n + 1) pc)
    → next ≡ further → (pc : ℕ) → get_or next pc 0 ≡ longest code most pc
round_last code further next n most le before after same pc =
    let e : (most - n) + n ≡ most = omega (arith, le) in
    let stays : (to : ℕ) → longest code (n + 1) to ≡ longest code n to =
    λ to. sym (after to) ∙ ap (λ xs. get_or xs to 0) same ∙ before to in
    after pc ∙ stays pc ∙ sym (longest_stays code n (most - n) stays pc) ∙ ap (λ m. longest code m pc) e

-- ---- lines

-- an instruction has one need
pub one_need : (code : List Instr) (pc a b : ℕ) → IsNeed code pc a → IsNeed code pc b → a ≡ b
one_need code pc a b h k = let x = k.longest a h.path in let y = h.longest b k.path in omega (arith, x, y)

pub instrs_length : (lines : List Line) → length (instrs_of lines) ≡ length lines
instrs_length [] = refl
instrs_length (l ∷ lines) = omega (arith, instrs_length lines)

pub instr_at : (lines : List Line) (k : ℕ) (d : Line) → d ≡ get_or lines k d → k < length lines
    → slice_get (instrs_of lines) k ≡ Some d.instr
instr_at [] k d is lt = absurd (omega (arith, lt))
instr_at (l ∷ lines) zero d is lt = ap (λ (x : Line). Some x.instr) (sym is)
instr_at (l ∷ lines) (suc k) d is lt = instr_at lines k d is (omega (arith, lt))

-- one more pc of an iteration
pub round_each : (lines : List Line) (further : ℕ → ℕ) (next more : List ℕ) (pc need : ℕ) (line : Line)
    → line ≡ get_or lines pc line → pc < length lines → more ≡ next ++ need ∷ [] → length next ≡ pc
    → need ≡ need_at (Some line.instr) pc further
    → ((k : ℕ) → k < pc → get_or next k 0 ≡ need_at (slice_get (instrs_of lines) k) k further) → (k : ℕ) → k < pc + 1
    → get_or more k 0 ≡ need_at (slice_get (instrs_of lines) k) k further
round_each lines further next more pc need line is lt e long needs each k below = elim (cases_lt k pc) [
  | inl less ↦ ap (λ xs. get_or xs k 0) e ∙ get_or_append_left next (need ∷ []) 0 k (omega (arith, less, long))
      ∙ each k less
  | inr ge ↦
      let point_here : pc ≡ k = omega (arith, ge, below) in
      ap (λ xs. get_or xs k 0) e ∙ get_or_push next need 0 k (long ∙ point_here) ∙ needs
      ∙ ap (λ o. need_at o pc further) (sym (instr_at lines pc line is lt))
      ∙ ap (λ n. need_at (slice_get (instrs_of lines) n) n further) point_here
]

-- ---- the longest path that can run in one frame: it is followed from need to need

module _ (code : List Instr) where
  pub runs_path : (n pc last : ℕ) → RunsTo code pc n last → HasPath code pc n
  runs_path zero pc last h = tt
  runs_path (suc zero) pc last h = h.0
  runs_path (suc (suc n)) pc last h = (h.0, h.1, h.2, h.3, runs_path (suc n) h.1 last h.4)

  first_more : (pc at to : ℕ) (i : Instr) → at ≡ pc → slice_get code at ≡ Some i → StepsTo i at to
      → IsSome (slice_get code to) → RunsTo code pc 2 to
  first_more pc at to i same e g s =
      (i, to, subst (λ k. slice_get code k ≡ Some i) same e, subst (λ k. StepsTo i k to) same g, (s, refl))

  -- one more instruction at the end
  pub runs_more : (n pc at to : ℕ) (i : Instr) → RunsTo code pc n at → slice_get code at ≡ Some i → StepsTo i at to
      → IsSome (slice_get code to) → RunsTo code pc (suc n) to
  runs_more zero pc at to i h e g s = absurd h
  runs_more (suc zero) pc at to i h e g s = first_more pc at to i h.1 e g s
  runs_more (suc (suc n)) pc at to i h e g s = (h.0, h.1, h.2, h.3, runs_more (suc n) h.1 at to i h.4 e g s)

  -- ---- needs

  none_longest : (n pc : ℕ) → length code ≤ pc → longest code n pc ≡ 0
  none_longest zero pc le = refl
  none_longest (suc n) pc le = ap (λ o. need_at o pc (λ to. longest code n to)) (slice_get_past code pc le)

  longest_stays_within : (budget : ℕ) → ((pc : ℕ) → longest code (budget + 1) pc ≤ budget) → (pc : ℕ)
      → longest code (budget + 1) pc ≡ longest code budget pc
  longest_stays_within budget h pc =
      let le = h pc in
      let b = longest_most code (budget + 1) (longest code budget pc) pc (has_longest code budget pc)
      (omega (arith, longest_bound code budget pc)) in
      omega (arith, longest_most code budget (longest code (budget + 1) pc) pc (has_longest code (budget + 1) pc) le, b)

  -- if all are within the budget, each is one more than the greatest that can follow
  pub needs_follow : (budget : ℕ) → ((pc : ℕ) → longest code (budget + 1) pc ≤ budget) → (pc : ℕ)
      → longest code (budget + 1) pc ≡ need_at (slice_get code pc) pc (λ to. longest code (budget + 1) to)
  needs_follow budget h pc =
      let e : budget + 1 ≡ suc budget = omega arith in
      ap (λ m. longest code m pc) e ∙ need_same _ _ (λ to. longest code budget to) (λ to. longest code (budget + 1) to)
      (λ to. sym (longest_stays_within _ h _))

  -- and no path has more instructions than the greatest of them
  pub none_longer : (budget first : ℕ) → ((pc : ℕ) → longest code (budget + 1) pc ≤ budget)
      → ((k : ℕ) → k < length code → longest code (budget + 1) k ≤ longest code (budget + 1) first)
      → IsWithinBudget (longest code (budget + 1) first) code
  none_longer budget first h greatest pc n path =
      let most = longest_most code (budget + 1) n pc path (omega (arith, within_from code budget h pc n path)) in
      elim (cases_lt pc (length code)) [
        | inl lt ↦ let g = greatest pc lt in omega (arith, most, g)
        | inr ge ↦ let none = none_longest (budget + 1) pc ge in omega (arith, most, none)
      ]

  none_is_some : (o : Option Instr) → o ≡ None → IsSome o → ⊥
  none_is_some None e h = search (rules, h)
  none_is_some (Some i) e h = cc

  pub some_within : (k : ℕ) → IsSome (slice_get code k) → k < length code
  some_within k s = elim (cases_lt k (length code)) [
    | inl lt ↦ lt
    | inr le ↦ absurd (none_is_some (slice_get code k) (slice_get_past code k le) s)
  ]

  pub need_somewhere : (o : Option Instr) (pc : ℕ) (further : ℕ → ℕ) → 0 < need_at o pc further → IsSome o
  need_somewhere None pc further h = absurd (omega (arith, h))
  need_somewhere (Some i) pc further h = search rules

pub least_budget : LongestPathIsLeastBudget
least_budget lines p h budget = (
  λ within. within h.from p.instructions (runs_path (instrs_of lines) p.instructions h.from h.to h.runs),
  λ le pc n path. let most = h.longest pc n path in omega (arith, most, le),
)
