-- The paced edits of a plan.
use Rattle.script_config.proofs.Words.{[], ◌%◌, ◌*◌, ◌++◌, ◌+◌, ◌-◌, ◌<◌, ◌==◌, ◌∙◌, ◌∷◌, ◌≡◌, ◌≤◌, Act, All}
use Rattle.script_config.proofs.Words.{AllByRecursion, Bool, Configuration, Edit, FitFrames, IsAct, IsConfiguration}
use Rattle.script_config.proofs.Words.{IsEdit, IsPlan, List, Plan, SizesGrow, Transform, Wait, ap, append-nil}
use Rattle.script_config.proofs.Words.{append_assoc, arith, cases_eq, committed, edits_between, edits_in, eq-eqb}
use Rattle.script_config.proofs.Words.{eqb-true, false, get_or, if◌then◌else◌, inl, inr, length, length-append}
use Rattle.script_config.proofs.Words.{length-take-le, mod-eq_of_lt, mod-lt, mod_self, paced, pause_after, plan_acts}
use Rattle.script_config.proofs.Words.{refl, subst, suc, suc-mod, sym, take, take_more, true, ℕ}
use Rattle.std.proofs.Math.Numerals.{suc-eq-add-one}
use Rattle.script_front.specs.declared.tree.Act.TheVariants.{Edit as Edits}
use Rattle.script_config.proofs.FewEdits.{between_few}
use Rattle.script_config.proofs.Members.{both, each_at}
use Rattle.script_config.proofs.Transforming.{between_formed}

-- ---- appending one

pub paced_more : (full n : ℕ) (es : List Edit) (e : Edit) → paced full n (es ++ e ∷ []) ≡ paced full n es
    ++ (Edits e ∷ pause_after full (n + length es))
paced_more full n [] e =
    let same : n ≡ n + 0 = omega arith in
    ap (λ (acts : List Act). Edits e ∷ acts) (append-nil (pause_after full n) ∙ ap (λ (k : ℕ). pause_after full k) same)
paced_more full n (f ∷ es) e =
    let rest = paced_more full (n + 1) es e in
    let same : (n + 1) + length es ≡ n + length (f ∷ es) = omega arith in
    ap (λ (acts : List Act). Edits f ∷ (pause_after full n ++ acts))
    (rest ∙ ap (λ (k : ℕ). paced full (n + 1) es ++ (Edits e ∷ pause_after full k)) same)
    ∙ ap (λ (acts : List Act). Edits f ∷ acts)
    (sym (append_assoc (pause_after full n) (paced full (n + 1) es)
    (Edits e ∷ pause_after full (n + length (f ∷ es)))))

pub record PacedSoFar (full : ℕ) (es : List Edit) (i now : ℕ) (out : List Act) : Type 0 where
  pub number : now ≡ i + 1
  pub so_far : out ≡ paced full 1 (take i es)

pub one_paced : (full : ℕ) (es : List Edit) (i now : ℕ) (e : Edit) (out : List Act) → i < length es → e ≡ get_or es i e
    → PacedSoFar full es i now out
    → PacedSoFar full es (i + 1) (now + 1) (out ++ (Edits e ∷ pause_after full now))
one_paced full es i now e out lt same h =
    let more : take (i + 1) es ≡ take i es ++ e ∷ [] =
    take_more es i e lt ∙ ap (λ (x : Edit). take i es ++ x ∷ []) (sym same) in
    let size : length (take i es) ≡ i = length-take-le i es (omega (arith, lt)) in
    let at = h.number in
    let long : 1 + length (take i es) ≡ now = omega (arith, size, at) in
    record {
      number = omega (arith, at);
      so_far = sym (ap (paced full 1) more ∙ paced_more full 1 (take i es) e
          ∙ ap (λ (k : ℕ). paced full 1 (take i es) ++ (Edits e ∷ pause_after full k)) long
          ∙ ap (λ (acts : List Act). acts ++ (Edits e ∷ pause_after full now)) (sym h.so_far));
    }

-- ---- their edits

in_both : (acts others : List Act) (b : Bool) → edits_in ((if b then Wait 1 ∷ [] else []) ++ acts) ≡ edits_in acts
in_both acts others true = refl
in_both acts others false = refl

pub edits_paced : (full n : ℕ) (es : List Edit) (acts : List Act) → edits_in (paced full n es ++ acts) ≡ es
    ++ edits_in acts
edits_paced full n [] acts = refl
edits_paced full n (e ∷ es) acts =
    ap (λ (xs : List Edit). e ∷ xs) (ap edits_in (append_assoc (pause_after full n) (paced full (n + 1) es) acts)
    ∙ in_both (paced full (n + 1) es ++ acts) [] (n % full == 0) ∙ edits_paced full (n + 1) es acts)

few_if : (b : Bool) → length (if b then Wait 1 ∷ [] else []) ≤ 1
few_if true = omega arith
few_if false = omega arith

pub few_paced : (full n : ℕ) (es : List Edit) → length (paced full n es) ≤ 2 * length es
few_paced full n [] = omega arith
few_paced full n (e ∷ es) =
    let pause = few_if (n % full == 0) in
    let rest = few_paced full (n + 1) es in
    let size = length-append (pause_after full n) (paced full (n + 1) es) in
    omega (arith, pause, rest, size)

-- ---- in range

pause_formed : (b : Bool) → AllByRecursion IsAct (if b then Wait 1 ∷ [] else [])
pause_formed true = ((omega arith, omega arith), tt)
pause_formed false = tt

paced_formed : (full n : ℕ) (es : List Edit) → AllByRecursion IsEdit es → AllByRecursion IsAct (paced full n es)
paced_formed full n [] h = tt
paced_formed full n (e ∷ es) h = (
  h.0,
  both IsAct (pause_after full n) (paced full (n + 1) es) (pause_formed (n % full == 0))
      (paced_formed full (n + 1) es h.1),
)

pub acts_formed : (header : Plan) (full n : ℕ) (es : List Edit) → IsPlan header → AllByRecursion IsEdit es
    → All IsAct (paced full n es ++ committed header)
acts_formed header full n es headed h =
    let from = headed.notice_from in
    let to = headed.notice_to in
    each_at IsAct (paced full n es ++ committed header)
    (both IsAct (paced full n es) (committed header) (paced_formed full n es h)
    ((omega (arith, from), omega (arith, to)), (tt, tt)))

-- ---- frame by frame

after_pause : (b : Bool) (most left : ℕ) (acts : List Act) → 1 ≤ left → (b ≡ true → FitFrames most most acts)
    → (b ≡ false → FitFrames most left acts)
    → FitFrames most left ((if b then Wait 1 ∷ [] else []) ++ acts)
after_pause true most left acts one paused on = (one, paused refl)
after_pause false most left acts one paused on = on refl

is_zero : (n : ℕ) → (n == 0) ≡ true → n ≡ 0
is_zero n e = eqb-true n 0 e

-- an edit that does not fill the frame adds one to the edits in it
used_next : (full m : ℕ) → 0 < full → ((m + 1) % full == 0) ≡ false → (m + 1) % full ≡ m % full + 1
used_next full m some e =
    let below : m % full < full = mod-lt m some in
    let step : (m + 1) % full ≡ suc (m % full) % full =
    ap (λ (n : ℕ). n % full) (sym (suc-eq-add-one m)) ∙ suc-mod m full in
    elim (cases_eq (suc (m % full)) full) [
      | inl same ↦
          let zero_then : (m + 1) % full ≡ 0 = step ∙ ap (λ (n : ℕ). n % full) same ∙ mod_self full in
          let yes : ((m + 1) % full == 0) ≡ true = eq-eqb ((m + 1) % full) 0 zero_then in
          absurd (cc)
      | inr other ↦
          let less : suc (m % full) < full = omega (arith, below, other) in
          step ∙ mod-eq_of_lt less ∙ suc-eq-add-one (m % full)
    ]

pub fits : (full m : ℕ) (es : List Edit) (header : Plan) → 0 < full
    → FitFrames (full + 1) ((full + 1) - m % full) (paced full (m + 1) es ++ committed header)
fits full m [] header some =
    let below : m % full < full = mod-lt m some in
    (omega (arith, below), (omega (arith, below), tt))
fits full m (e ∷ es) header some =
    let below : m % full < full = mod-lt m some in
    let next = fits full (m + 1) es header some in
    let left = (full + 1) - m % full in
    let acts : List Act = paced full ((m + 1) + 1) es ++ committed header in (
      omega (arith, below),
      subst (FitFrames (full + 1) (left - 1))
          (sym (append_assoc (pause_after full (m + 1)) (paced full ((m + 1) + 1) es) (committed header)))
          (after_pause ((m + 1) % full == 0) (full + 1) (left - 1) acts (omega (arith, below))
          (λ yes. let none : (m + 1) % full ≡ 0 = is_zero ((m + 1) % full) yes in
          let whole : (full + 1) - (m + 1) % full ≡ full + 1 = omega (arith, none) in
          subst (λ (n : ℕ). FitFrames (full + 1) n acts) whole next)
          (λ no. let more = used_next full m some no in
          let less : (full + 1) - (m + 1) % full ≡ left - 1 = omega (arith, more, below) in
          subst (λ (n : ℕ). FitFrames (full + 1) n acts) less next)),
    )

-- ---- a whole plan

pub plan_formed : SizesGrow → (header : Plan) (from to : Configuration) → IsPlan header → IsConfiguration from
    → IsConfiguration to → All IsAct (plan_acts header from to)
plan_formed grow header from to headed is_from is_to =
    acts_formed header (header.budget - 1) 1 (edits_between from to) headed (between_formed grow from to is_from is_to)

pub plan_few : (header : Plan) (from to : Configuration) → IsConfiguration from → IsConfiguration to
    → length (plan_acts header from to) ≤ 7000
plan_few header from to is_from is_to =
    let edits = between_few from to is_from is_to in
    let few = few_paced (header.budget - 1) 1 (edits_between from to) in
    let size = length-append (paced (header.budget - 1) 1 (edits_between from to)) (committed header) in
    omega (arith, edits, few, size)

pub plan_leads : (header : Plan) (from to : Configuration) → Transform (edits_between from to) from to
    → Transform (edits_in (plan_acts header from to)) from to
plan_leads header from to h =
    let same : edits_in (plan_acts header from to) ≡ edits_between from to =
    edits_paced (header.budget - 1) 1 (edits_between from to) (committed header) ∙ append-nil (edits_between from to) in
    subst (λ (es : List Edit). Transform es from to) (sym same) h

pub plan_fits : (header : Plan) (from to : Configuration) → 2 ≤ header.budget
    → FitFrames header.budget header.budget (plan_acts header from to)
plan_fits header from to two =
    let full = header.budget - 1 in
    let some : 0 < full = omega (arith, two) in
    let whole : full + 1 ≡ header.budget = omega (arith, two) in
    let none : 0 % full ≡ 0 = mod-eq_of_lt some in
    let left : (full + 1) - 0 % full ≡ header.budget = omega (arith, none, whole) in
    subst (λ (n : ℕ). FitFrames n header.budget (plan_acts header from to)) whole
    (subst (λ (n : ℕ). FitFrames (full + 1) n (plan_acts header from to)) left
    (fits full 0 (edits_between from to) header some))
