-- The reading of a header: what is read is spelled so, and what is spelled so is read. Its mode and its reserved FIBs
-- may be left out.
use Rattle.script_front.proofs.Words.{[], ◌++◌, ◌-◌, ◌<◌, ◌∙◌, ◌∷◌, ◌≡◌, ◌≤◌, FrameLayout, I, II, III, IV, IsPlan, Mode}
use Rattle.script_front.proofs.Words.{Plan, ReadsAsSpelled, ReserveOne, ReserveTwo, Some, Spelled, Whole, ap}
use Rattle.script_front.proofs.Words.{append_assoc, arith, bind_some, built, decimal, eid_at, either_given, false}
use Rattle.script_front.proofs.Words.{finish, header_lexemes, hex_text, inl, inr, is_next, keyed, keyed_law}
use Rattle.script_front.proofs.Words.{layout_mode, letters, limits_lexemes, made_found, made_given, mode_lexemes}
use Rattle.script_front.proofs.Words.{next_itself, number_at, other_next, refl, reserve_lexemes, suc, sym}
use Rattle.script_front.proofs.Words.{values_are_read, zero, ℕ}
use Rattle.fib_codec.specs.Modes.{fib_count}
use Rattle.plan_code.specs.Reading.{mode_of, reserving}
use Rattle.script_front.specs.Readers.{mode_at, layout_at, header_at}
use Rattle.script_tokens.specs.declared.keyword.Keyword.TheVariants as the

-- ---- modes

mode_text : (n : ℕ) → (2 ≤ n) × (n ≤ 4) → mode_lexemes (mode_of n) ≡ letters the.Mode ∷ decimal n ∷ []
mode_text zero h = absurd (let f = h.0 in omega (arith, f))
mode_text (suc zero) h = absurd (let f = h.0 in omega (arith, f))
mode_text (suc (suc zero)) h = refl
mode_text (suc (suc (suc zero))) h = refl
mode_text (suc (suc (suc (suc zero)))) h = refl
mode_text (suc (suc (suc (suc (suc n))))) h = absurd (let f = h.1 in omega (arith, f))

mode_given : (ws : Spelled) (x : Mode × Spelled) → mode_at ws ≡ Some x → ws ≡ mode_lexemes x.0 ++ x.1
unfolding mode_at
mode_given ws x e = elim (either_given the.Mode (built mode_of (number_at 2 4)) (λ vs. Some (I, vs)) ws x e) [
  | inl h ↦ h.0 ∙ (made_given _ _ _ (values_are_read.numbers 2 4 (omega arith)) mode_of (λ m. Unit {0}) mode_lexemes
      (letters the.Mode ∷ []) (λ n is. tt) mode_text _ x h.1).1
  | inr h ↦ finish (λ y. ws ≡ mode_lexemes y.0 ++ y.1) (I, ws) x h.1 refl
]

mode_found : (m : Mode) (rest : Spelled) → is_next the.Mode rest ≡ false
    → mode_at (mode_lexemes m ++ rest) ≡ Some (m, rest)
unfolding mode_at
mode_found I rest none = rw (none) refl
mode_found II rest none = rw (next_itself the.Mode (decimal 2 ∷ rest))
    (made_found _ _ _ (values_are_read.numbers 2 4 (omega arith)) mode_of 2 rest (omega arith, omega arith))
mode_found III rest none = rw (next_itself the.Mode (decimal 3 ∷ rest))
    (made_found _ _ _ (values_are_read.numbers 2 4 (omega arith)) mode_of 3 rest (omega arith, omega arith))
mode_found IV rest none = rw (next_itself the.Mode (decimal 4 ∷ rest))
    (made_found _ _ _ (values_are_read.numbers 2 4 (omega arith)) mode_of 4 rest (omega arith, omega arith))

-- ---- reserved FIBs

three_or_four : (mode : Mode) → (3 ≤ fib_count mode) × (fib_count mode ≤ 4)
three_or_four I = (omega arith, omega arith)
three_or_four II = (omega arith, omega arith)
three_or_four III = (omega arith, omega arith)
three_or_four IV = (omega arith, omega arith)

reserve_law : (mode : Mode) → ReadsAsSpelled (number_at 1 (fib_count mode - 2))
    (λ n. (1 ≤ n) × (n ≤ fib_count mode - 2)) (λ n. decimal n ∷ [])
reserve_law mode = values_are_read.numbers 1 (fib_count mode - 2) (let f = (three_or_four mode).1 in omega (arith, f))

abbrev IsReserved : Mode → ℕ → Type 0
IsReserved mode n = (1 ≤ n) × (n ≤ fib_count mode - 2)

reserved_mode : (mode : Mode) (n : ℕ) → IsReserved mode n → layout_mode (reserving mode n) ≡ mode
reserved_mode mode zero h = absurd (let f = h.0 in omega (arith, f))
reserved_mode mode (suc zero) h = refl
reserved_mode I (suc (suc n)) h = absurd (let f = h.1 in omega (arith, f))
reserved_mode II (suc (suc n)) h = absurd (let f = h.1 in omega (arith, f))
reserved_mode IV (suc (suc n)) h = absurd (let f = h.1 in omega (arith, f))
reserved_mode III (suc (suc zero)) h = refl
reserved_mode III (suc (suc (suc n))) h = absurd (let f = h.1 in omega (arith, f))

reserved_text : (mode : Mode) (n : ℕ) → IsReserved mode n
    → reserve_lexemes (reserving mode n) ≡ letters the.Reserve ∷ decimal n ∷ []
reserved_text mode zero h = absurd (let f = h.0 in omega (arith, f))
reserved_text mode (suc (suc (suc n))) h = absurd (let f = h.1 in let g = (three_or_four mode).1 in omega (arith, f, g))
reserved_text mode _ h = refl

layout_given : (mode : Mode) (ws : Spelled) (x : FrameLayout × Spelled) → layout_at mode ws ≡ Some x
    → (layout_mode x.0 ≡ mode) × (ws ≡ reserve_lexemes x.0 ++ x.1)
unfolding layout_at
layout_given mode ws x e = elim (either_given the.Reserve (built (reserving mode) (number_at 1 (fib_count mode - 2)))
    (λ vs. Some (Whole mode, vs)) ws x e) [
      | inl h ↦ (
          let g = made_given _ _ _ (reserve_law mode) (reserving mode) (λ l. layout_mode l ≡ mode) reserve_lexemes
          (letters the.Reserve ∷ []) (reserved_mode mode) (reserved_text mode) _ x h.1 in
          (g.0, h.0 ∙ g.1)
          )
      | inr h ↦ finish (λ y. (layout_mode y.0 ≡ mode) × (ws ≡ reserve_lexemes y.0 ++ y.1)) (Whole mode, ws) x h.1
          (refl, refl)
    ]

layout_found : (l : FrameLayout) (rest : Spelled) → is_next the.Reserve rest ≡ false
    → layout_at (layout_mode l) (reserve_lexemes l ++ rest) ≡ Some (l, rest)
unfolding layout_at
layout_found (Whole mode) rest none = rw (none) refl
layout_found (ReserveOne mode) rest none =
    rw (next_itself the.Reserve (decimal 1 ∷ rest))
    (made_found _ _ _ (reserve_law mode) (reserving mode) 1 rest
    (omega arith, (let f = (three_or_four mode).0 in omega (arith, f))))
layout_found ReserveTwo rest none =
    rw (next_itself _ _) (made_found _ _ _ (reserve_law III) _ 2 rest (omega arith, omega arith))

-- ---- a whole header

ensemble_law : ReadsAsSpelled (keyed the.Ensemble eid_at) (λ n. n < 65536) (λ n. letters the.Ensemble ∷ hex_text n ∷ [])
ensemble_law = keyed_law the.Ensemble eid_at (λ n. n < 65536) (λ n. hex_text n ∷ []) values_are_read.eids

period_law : ReadsAsSpelled (keyed the.Period (number_at 1 60)) (λ n. (1 ≤ n) × (n ≤ 60))
    (λ n. letters the.Period ∷ decimal n ∷ [])
period_law = keyed_law _ _ (λ n. (1 ≤ n) × (n ≤ 60)) (λ n. decimal n ∷ []) (values_are_read.numbers 1 60 (omega arith))

notice_law : ReadsAsSpelled (keyed the.Notice (number_at 12 248)) (λ n. (12 ≤ n) × (n ≤ 248))
    (λ n. letters the.Notice ∷ decimal n ∷ [])
notice_law = keyed_law the.Notice (number_at 12 248) (λ n. (12 ≤ n) × (n ≤ 248)) (λ n. decimal n ∷ [])
    (values_are_read.numbers 12 248 (omega arith))

budget_law : ReadsAsSpelled (keyed the.Budget (number_at 1 255)) (λ n. (1 ≤ n) × (n ≤ 255))
    (λ n. letters the.Budget ∷ decimal n ∷ [])
budget_law = keyed_law the.Budget (number_at 1 255) (λ n. (1 ≤ n) × (n ≤ 255)) (λ n. decimal n ∷ [])
    (values_are_read.numbers 1 255 (omega arith))

-- the tokens of a header after its EId
mode_then : (h : Plan) (rest : Spelled)
    → (mode_lexemes (layout_mode h.layout) ++ limits_lexemes h (reserve_lexemes h.layout)) ++ rest
    ≡ mode_lexemes (layout_mode h.layout) ++ limits_lexemes h (reserve_lexemes h.layout ++ rest)
mode_then h rest = append_assoc (mode_lexemes (layout_mode h.layout)) (limits_lexemes h (reserve_lexemes h.layout)) rest

pub header_given : (ws : Spelled) (x : Plan × Spelled) → header_at ws ≡ Some x → IsPlan x.0
    × (ws ≡ header_lexemes x.0 ++ x.1)
unfolding header_at
header_given ws x e =
    let a = bind_some (keyed the.Ensemble eid_at ws) _ x e in
    let fa = ensemble_law.given ws a.x a.first in
    let m = bind_some (mode_at a.x.1) _ x a.second in
    let p = bind_some (keyed the.Period (number_at 1 60) m.x.1) _ x m.second in
    let fp = period_law.given m.x.1 p.x p.first in
    let n = bind_some (keyed the.Notice (number_at 12 248) p.x.1) _ x p.second in
    let fn = notice_law.given p.x.1 n.x n.first in
    let b = bind_some (keyed the.Budget (number_at 1 255) n.x.1) _ x n.second in
    let fb = budget_law.given n.x.1 b.x b.first in
    let l = bind_some (layout_at m.x.0 b.x.1) _ x b.second in
    let fl = layout_given m.x.0 b.x.1 l.x l.first in
    let plan : Plan = record { eid = a.x.0; layout = l.x.0; period = p.x.0; notice = n.x.0; budget = b.x.0 } in
    let limits : m.x.1 ≡ limits_lexemes plan (reserve_lexemes l.x.0 ++ l.x.1) =
    fp.1 ∙ ap (λ (vs : Spelled). letters the.Period ∷ decimal p.x.0 ∷ vs)
    (fn.1 ∙ ap (λ (vs : Spelled). letters the.Notice ∷ decimal n.x.0 ∷ vs) (
    fb.1 ∙ ap (λ (vs : Spelled). letters the.Budget ∷ decimal b.x.0 ∷ vs) fl.1)) in
    let whole : ws ≡ header_lexemes plan ++ l.x.1 =
    fa.1 ∙ ap (λ (vs : Spelled). letters the.Ensemble ∷ hex_text a.x.0 ∷ vs)
    ((mode_given a.x.1 m.x m.first) ∙ ap (λ (vs : Spelled). mode_lexemes m.x.0 ++ vs) limits
    ∙ ap (λ k. mode_lexemes k ++ limits_lexemes plan (reserve_lexemes l.x.0 ++ l.x.1)) (sym fl.0)
    ∙ sym (mode_then plan l.x.1)) in
    finish (λ y. IsPlan y.0 × (ws ≡ header_lexemes y.0 ++ y.1)) (plan, l.x.1) x l.second (
      record {
        ensemble = fa.0;
        period_from = fp.0.0;
        period_to = fp.0.1;
        notice_from = fn.0.0;
        notice_to = fn.0.1;
        budget_from = fb.0.0;
        budget_to = fb.0.1;
      },
      whole,
    )

pub header_found : (h : Plan) (rest : Spelled) → IsPlan h → is_next the.Reserve rest ≡ false
    → header_at (header_lexemes h ++ rest) ≡ Some (h, rest)
unfolding header_at
header_found h rest is none =
    let tail : Spelled = reserve_lexemes h.layout ++ rest in
    let eid = ensemble_law.found h.eid (mode_lexemes (layout_mode h.layout) ++ limits_lexemes h tail) is.ensemble in
    let mode = mode_found (layout_mode h.layout) (limits_lexemes h tail) (other_next the.Period the.Mode _ (λ e. cc)) in
    let period = period_law.found h.period (letters the.Notice ∷ decimal h.notice ∷ letters the.Budget
    ∷ decimal h.budget ∷ tail) (is.period_from, is.period_to) in
    let notice = notice_law.found h.notice (letters the.Budget ∷ decimal h.budget ∷ tail)
    (is.notice_from, is.notice_to) in
    let budget = budget_law.found h.budget tail (is.budget_from, is.budget_to) in
    rw (mode_then h rest, eid, mode, period, notice, budget, (layout_found h.layout rest none)) refl
