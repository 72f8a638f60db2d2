-- The cost of the first label is the length of the longest path from there, as far as that is within the budget.
use Rattle.std.proofs.Common.{◌+◌, ◌∙◌, ◌∷◌, ◌≡◌, ◌≤◌, [], Bool, List, None, Option, Some, ap, arith, false}
use Rattle.std.proofs.Common.{if◌then◌else◌, inl, inr, length, max, min, refl, rules, slice_get, subst, suc, sym}
use Rattle.std.proofs.Common.{true, zero, ℕ}
use Rattle.std.specs.Prelude.{IsSome, slice_index}
use Rattle.std.proofs.lemmas.Bool.{cases_lt}
use Rattle.plan_code.specs.declared.instr.Instr.{Instr}
use Rattle.plan_code.specs.declared.instr.Line.{Line}
use Rattle.plan_takeover.specs.Refusals.{IsPriced}
use Rattle.plan_verifier.specs.Rules.{continues, suspends, target_of}
use Rattle.script_compiler.specs.Compiled.{instrs_of}
use Rattle.script_compiler.specs.Longest.{longest, need_at, need_to}
use Rattle.script_compiler.specs.Need.{HasPath, StepsTo}

-- ---- the longest of the paths of at most so many instructions

module _ (code : List Instr) where
  extend : (i : Instr) (to m pc : ℕ) → slice_get code pc ≡ Some i → StepsTo i pc to → HasPath code to m
      → HasPath code pc (m + 1)
  extend i to zero pc e g h = subst (λ (o : Option Instr). IsSome o) (sym e) (search rules)
  extend i to (suc m) pc e g h = let f : suc m + 1 ≡ suc (suc m) = omega arith in
      subst (λ n. HasPath code pc n) (sym f) (i, to, e, g, h)

  one : (i : Instr) (pc : ℕ) → slice_get code pc ≡ Some i → HasPath code pc 1
  one i pc e = subst (λ (o : Option Instr). IsSome o) (sym e) (search rules)

  longer_of : (pc x y : ℕ) → HasPath code pc (x + 1) → HasPath code pc (y + 1) → HasPath code pc (1 + max x y)
  longer_of pc x y h k = elim (cases_lt x y) [
    | inl lt ↦ let e : y + 1 ≡ 1 + max x y = omega (arith, lt) in subst (λ n. HasPath code pc n) e k
    | inr le ↦ let e : x + 1 ≡ 1 + max x y = omega (arith, le) in subst (λ n. HasPath code pc n) e h
  ]

  on_path : (i : Instr) (pc n : ℕ) → slice_get code pc ≡ Some i → suspends i ≡ false
      → ((to : ℕ) → HasPath code to (longest code n to)) → (b : Bool) → continues i ≡ b
      → HasPath code pc ((if b then longest code n (pc + 1) else 0) + 1)
  on_path i pc n e s ih true c = extend i (pc + 1) (longest code n (pc + 1)) pc e (s, inl (c, refl)) (ih (pc + 1))
  on_path i pc n e s ih false c = one i pc e

  target_path : (i : Instr) (pc n : ℕ) → slice_get code pc ≡ Some i → suspends i ≡ false
      → ((to : ℕ) → HasPath code to (longest code n to)) → (o : Option ℕ) → target_of i ≡ o
      → HasPath code pc (need_to (λ to. longest code n to) o + 1)
  target_path i pc n e s ih None t = one i pc e
  target_path i pc n e s ih (Some to) t = extend i to (longest code n to) pc e (s, inr t) (ih to)

  path_at : (i : Instr) (pc n : ℕ) → slice_get code pc ≡ Some i → ((to : ℕ) → HasPath code to (longest code n to))
      → (b : Bool) → suspends i ≡ b
      → HasPath code pc (if b then 1 else 1 + max (if continues i then longest code n (pc + 1) else 0)
      (need_to (λ to. longest code n to) (target_of i)))
  path_at i pc n e ih true s = one i pc e
  path_at i pc n e ih false s = longer_of _ _ _ (on_path _ _ _ e s ih _ refl) (target_path _ _ _ e s ih _ refl)

  path_from : (pc n : ℕ) → ((to : ℕ) → HasPath code to (longest code n to)) → (o : Option Instr) → slice_get code pc ≡ o
      → HasPath code pc (need_at o pc (λ to. longest code n to))
  path_from pc n ih None e = tt
  path_from pc n ih (Some i) e = path_at i pc n e ih (suspends i) refl

  pub has_longest : (n pc : ℕ) → HasPath code pc (longest code n pc)
  has_longest zero pc = tt
  has_longest (suc n) pc = path_from pc n (λ to. has_longest n to) (slice_get code pc) refl

  -- ---- no other is longer

  at_least_one : (i : Instr) (pc : ℕ) (further : ℕ → ℕ) (b : Bool) → suspends i ≡ b
      → 1 ≤ (if b then 1 else 1 + max (if continues i then further (pc + 1) else 0) (need_to further (target_of i)))
  at_least_one i pc further true e = omega arith
  at_least_one i pc further false e = omega arith

  some_at_least : (o : Option Instr) (pc : ℕ) (further : ℕ → ℕ) → IsSome o → 1 ≤ need_at o pc further
  some_at_least None pc further h = absurd (search (rules, h))
  some_at_least (Some i) pc further h = at_least_one i pc further (suspends i) refl

  goes_least : (i : Instr) (pc to : ℕ) (further : ℕ → ℕ) → StepsTo i pc to
      → further to + 1 ≤ need_at (Some i) pc further
  goes_least i pc to further g =
      let whole : need_at (Some i) pc further ≡ 1 + max (if continues i then further (pc + 1) else 0)
      (need_to further (target_of i)) =
      ap (λ b. if b then 1 else 1 + max (if continues i then further (pc + 1) else 0) (need_to further (target_of i)))
      g.0 in
      elim g.1 [
        | inl h ↦
            let e = ap (λ b. if b then further (pc + 1) else 0) h.0 ∙ ap further (sym h.1) in
            omega (arith, whole, e)
        | inr h ↦ let e : need_to further (target_of i) ≡ further to = ap (λ o. need_to further o) h in
            omega (arith, whole, e)
      ]

  longest_most : (n m pc : ℕ) → HasPath code pc m → m ≤ n → m ≤ longest code n pc
  longest_most n zero pc h le = omega arith
  longest_most zero (suc m) pc h le = absurd (omega arith)
  longest_most (suc n) (suc zero) pc h le = some_at_least (slice_get code pc) pc (λ to. longest code n to) h
  longest_most (suc n) (suc (suc m)) pc h le =
      let ih = longest_most n (suc m) h.1 h.4 (omega arith) in
      let least = goes_least h.0 pc h.1 (λ to. longest code n to) h.3 in
      omega (arith, ih, least, ap (λ o. need_at o pc (λ to. longest code n to)) h.2)

  shorter : (m n pc : ℕ) → m ≤ n → HasPath code pc n → HasPath code pc m
  shorter zero n pc le h = tt
  shorter (suc zero) (suc zero) pc le h = h
  shorter (suc zero) (suc (suc n)) pc le h = one h.0 pc h.2
  shorter (suc (suc m)) (suc (suc n)) pc le h = (h.0, h.1, h.2, h.3, shorter (suc m) (suc n) h.1 (omega arith) h.4)
  shorter _ _ pc le h = absurd (omega arith)

  -- within a budget, the longest of those that are one longer at most is the longest of all
  pub longest_of_all : (budget pc : ℕ) → longest code (budget + 1) pc ≤ budget → (n : ℕ) → HasPath code pc n
      → n ≤ longest code (budget + 1) pc
  longest_of_all budget pc within n path = elim (cases_lt budget n) [
    | inl lt ↦ let most = longest_most (budget + 1) (budget + 1) pc (shorter (budget + 1) n pc (omega arith) path)
        (omega arith) in absurd (omega (arith, most, within))
    | inr le ↦ longest_most (budget + 1) n pc path (omega (arith, le))
  ]

-- ---- the cost of the first label

pub priced_by : (lines : List Line) (budget : ℕ) (needs : List ℕ) (cost : ℕ) → budget ≤ 255
    → ((pc : ℕ) → slice_index needs pc ≡ longest (instrs_of lines) (budget + 1) pc)
    → cost ≡ min 255 (slice_index needs 0) → IsPriced budget lines cost
priced_by lines budget needs cost few each is =
    let code : List Instr = instrs_of lines in
    let need : ℕ = longest code (budget + 1) 0 in
    let first : slice_index needs 0 ≡ need = each 0 in
    elim (cases_lt budget need) [
      | inl lt ↦ inr (need, lt, has_longest code (budget + 1) 0)
      | inr le ↦
          let same : need ≡ cost = omega (arith, is, first, le, few) in
          inl (record {
            path = subst (λ n. HasPath code 0 n) same (has_longest code (budget + 1) 0);
            longest = λ n path. let most = longest_of_all code budget 0 le n path in omega (arith, most, same);
          })
    ]

pub some_cost : (lines : List Line) (budget : ℕ) (needs : List ℕ) (cost : ℕ) → 1 ≤ length lines
    → ((pc : ℕ) → slice_index needs pc ≡ longest (instrs_of lines) (budget + 1) pc)
    → cost ≡ min 255 (slice_index needs 0) → 1 ≤ cost
some_cost [] budget needs cost some each is = absurd (omega (arith, some))
some_cost (line ∷ lines) budget needs cost some each is =
    let code : List Instr = instrs_of (line ∷ lines) in
    let least = longest_most code (budget + 1) 1 0 (one code line.instr 0 refl) (omega arith) in
    let first = each 0 in omega (arith, is, first, least)
