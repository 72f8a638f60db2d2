-- The tops of a code, and its labels.
use Rattle.schedule_verifier.proofs.Words.{[], ◌+◌, ◌<◌, ◌==◌, ◌∷◌, ◌≡◌, ◌≢◌, ◌≤◌, Bool, Configuration, IsKeptFrom}
use Rattle.schedule_verifier.proofs.Words.{IsTop}
use Rattle.schedule_verifier.proofs.Words.{Label, LeadsOn, List, Names, None, Option, Program, ReturnsFrom, Some}
use Rattle.schedule_verifier.proofs.Words.{Throughout}
use Rattle.schedule_verifier.proofs.Words.{Tree, arith, cases_lt, cond, eqb, eqb-true, everything, false, find, inl}
use Rattle.schedule_verifier.proofs.Words.{inr}
use Rattle.schedule_verifier.proofs.Words.{is_rest, length, moment, option_map, refl, slice_get, subst, suc, sym, true}
use Rattle.schedule_verifier.proofs.Words.{ℕ}
use Rattle.std.proofs.lemmas.Option.{slice_get_within, slice_get-get_or}
use Rattle.schedule_verifier.proofs.Words.{get_or}
use Rattle.plan_code.specs.declared.instr.Line.{Line}
use Rattle.schedule_verifier.proofs.Regions.{everywhere}

-- ---- where a code goes on

rest_by : (code : Program) (from : ℕ) (o : Option Line) → slice_get code.lines from ≡ o
    → is_rest (option_map (λ (l : Line). l.instr) o) ≡ true → from < length code.lines
rest_by code from None e rests = absurd cc
rest_by code from (Some l) e rests = slice_get_within code.lines from l e

-- where none of the instructions returns to a pc other than the first, it is no top
pub no_top : (code : Program) (pc n : ℕ) → length code.lines ≤ n → pc ≢ 0
    → ((from : ℕ) → from < n → ReturnsFrom code from pc → ⊥) → IsTop code pc → ⊥
no_top code pc n all apart none (inl first) = apart first
no_top code pc n all apart none (inr (from, returns)) =
    let low : from < length code.lines = rest_by code from (slice_get code.lines from) refl returns.rests in
    none from (omega (arith, low, all)) returns

-- one more instruction
pub one_more_from : (code : Program) (pc n : ℕ) → ((from : ℕ) → from < n → ReturnsFrom code from pc → ⊥)
    → (ReturnsFrom code n pc → ⊥) → (from : ℕ) → from < n + 1 → ReturnsFrom code from pc → ⊥
one_more_from code pc n so_far here from lt returns = elim (cases_lt from n) [
  | inl before ↦ so_far from before returns
  | inr after ↦
      let same : from ≡ n = omega (arith, lt, after) in
      here (subst (λ (k : ℕ). ReturnsFrom code k pc) same returns)
]

-- ---- labels

pub record IsAt (labels : List Label) (pc : ℕ) (label : Label) : Type 0 where
  pub index : ℕ
  pub within : index < length labels
  pub there : slice_get labels index ≡ Some label
  pub placed : label.pc ≡ pc

find_by : (l : Label) (ls : List Label) (pc : ℕ) (label : Label) (b : Bool) → eqb l.pc pc ≡ b
    → (find (λ (x : Label). x.pc == pc) ls ≡ Some label → IsAt ls pc label)
    → cond b (Some l) (find (λ (x : Label). x.pc == pc) ls) ≡ Some label → IsAt (l ∷ ls) pc label
find_by l ls pc label true e rest h =
    let same : l ≡ label = cc h in
    record {
      index = 0;
      within = omega arith;
      there = h;
      placed = subst (λ (x : Label). x.pc ≡ pc) same (eqb-true l.pc pc e);
    }
find_by l ls pc label false e rest h =
    let later = rest h in
    record {
      index = suc later.index;
      within = omega (arith, later.within);
      there = later.there;
      placed = later.placed;
    }

find_at : (ls : List Label) (pc : ℕ) (label : Label) → find (λ (x : Label). x.pc == pc) ls ≡ Some label
    → IsAt ls pc label
find_at [] pc label h = absurd cc
find_at (l ∷ ls) pc label h = find_by l ls pc label (eqb l.pc pc) refl (find_at ls pc label) h

-- what the label at an index needs
abbrev pub IsLabelKept : Tree → Program → Label → Type 0
IsLabelKept s code label =
    IsTop code label.pc → (c : Configuration) → slice_get code.configurations label.cur ≡ Some c
    → IsKeptFrom s code label.pc c

abbrev pub AreKeptBelow : Tree → Program → ℕ → Type 0
AreKeptBelow s code n =
    (k : ℕ) (label : Label) → k < n → slice_get code.labels k ≡ Some label → IsLabelKept s code label

pub none_below : (s : Tree) (code : Program) → AreKeptBelow s code 0
none_below s code k label lt at = absurd (omega (arith, lt))

same_label : (ls : List Label) (k : ℕ) (a b : Label) → slice_get ls k ≡ Some a → slice_get ls k ≡ Some b → a ≡ b
same_label ls k a b e f = cc (e, f)

pub one_more_label : (s : Tree) (code : Program) (n : ℕ) (one : Label) → slice_get code.labels n ≡ Some one
    → AreKeptBelow s code n → IsLabelKept s code one → AreKeptBelow s code (n + 1)
one_more_label s code n one there so_far here k label lt at = elim (cases_lt k n) [
  | inl before ↦ so_far k label before at
  | inr after ↦
      let same : n ≡ k = omega (arith, lt, after) in
      let now : slice_get code.labels k ≡ Some one =
      subst (λ (j : ℕ). slice_get code.labels j ≡ Some one) same there in
      subst (IsLabelKept s code) (same_label code.labels k one label now at) here
]

pub one_more_item : (s : Tree) (code : Program) (n : ℕ) (labels : List Label) (d : Label) → labels ≡ code.labels
    → n < length labels → AreKeptBelow s code n → IsLabelKept s code (get_or labels n d)
    → AreKeptBelow s code (n + 1)
one_more_item s code n labels d same lt so_far here =
    one_more_label s code n (get_or labels n d)
    (subst (λ (ls : List Label). slice_get ls n ≡ Some (get_or labels n d)) same (slice_get-get_or labels n d lt))
    so_far here

pub same_config : (o : Option Configuration) (a b : Configuration) → Some a ≡ o → o ≡ Some b → a ≡ b
same_config o a b e f = cc (e, f)

pub all_labels : (s : Tree) (code : Program) (n : ℕ) → length code.labels ≤ n → AreKeptBelow s code n
    → (pc : ℕ) (c : Configuration) → IsTop code pc → Names code pc c → IsKeptFrom s code pc c
all_labels s code n all kept pc c top names =
    let at = find_at code.labels pc names.label names.there in
    subst (λ (k : ℕ). IsKeptFrom s code k c) at.placed
    (kept at.index names.label (omega (arith, at.within, all)) at.there
    (subst (IsTop code) (sym at.placed) top) c names.current)

-- what holds in all regions is kept
pub kept_everywhere : (s : Tree) (code : Program) (pc : ℕ) (config c : Configuration) → config ≡ c
    → Throughout everything (λ contacts day. LeadsOn (moment s code config contacts day) pc config)
    → IsKeptFrom s code pc c
kept_everywhere s code pc config c same all =
    subst (IsKeptFrom s code pc) same (λ contacts day low. all contacts day (everywhere contacts day low))
