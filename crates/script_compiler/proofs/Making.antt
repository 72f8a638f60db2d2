-- A script has one code, is accepted if it has one, and the parts from which it is made.
use Rattle.script_compiler.proofs.Words.{[], ◌+◌, ◌<◌, ◌∙◌, ◌∷◌, ◌≡◌, ◌≤◌, ◌⊎◌, Added, AreFine, AreLabelsOf, CodeLimit}
use Rattle.script_compiler.proofs.Words.{Configuration, Contains, CostsItsNeeds, Instr, IsAccepted, IsCodeOf, IsJudged}
use Rattle.script_compiler.proofs.Words.{IsNeed, IsProgram, IsSound, IsWithin, IsWithinBudget, Item, Keeps, Label, Line}
use Rattle.script_compiler.proofs.Words.{List, Plan, Priced, Program, ScriptsHaveOneCode, Some, Swap, Tabled, Tree}
use Rattle.script_compiler.proofs.Words.{UnpricedLabel, all_places, ap, arith, beginning, body_of, get_or, inl, inr}
use Rattle.script_compiler.proofs.Words.{instrs_of, length, lines_of_placed, longest, nested, opening_of, pages_alone}
use Rattle.script_compiler.proofs.Words.{placed_instrs, refl, slice_get, slice_index, subst, suc, sym, unpriced_labels}
use Rattle.script_compiler.proofs.Words.{with_items, ℕ}
use Rattle.plan_code.specs.declared.flags.Counters.{Counters}
use Rattle.mux_config.specs.Configuration.{nothing}
use Rattle.script_compiler.proofs.Emitted.{length_lines}
use Rattle.script_compiler.proofs.Labelling.{in_more}
use Rattle.script_compiler.proofs.Rooms.{within_keeps, costs_needs}
use Rattle.script_compiler.proofs.Paths.{within_from, need_most, one_need}

-- ---- a script has at most one code whose labels cost their needs: the table has the configurations of its labels,
-- each once, so each label determines the indices

-- ---- the table

added_once : (c : Configuration) (table a b : List Configuration) → Added c table a → Added c table b → a ≡ b
added_once c table a b (inl h) (inl k) = h.1 ∙ sym k.1
added_once c table a b (inl h) (inr k) = absurd (k.0 h.0)
added_once c table a b (inr h) (inl k) = absurd (h.0 k.0)
added_once c table a b (inr h) (inr k) = h.1 ∙ sym k.1

pub tabled_once : (table : List Configuration) (ms : List UnpricedLabel) (a b : List Configuration) → Tabled table ms a
    → Tabled table ms b → a ≡ b
tabled_once table [] a b h k = h ∙ sym k
tabled_once table (m ∷ ms) a b h k =
    let one : h.0 ≡ k.0 = added_once m.flow.current table h.0 k.0 h.2 k.2 in
    let both : h.1 ≡ k.1 = added_once m.flow.next k.0 h.1 k.1 (rw (← one) h.3) k.3 in
    tabled_once k.1 ms a b (subst (λ (t : List Configuration). Tabled t ms a) both h.4) k.4

-- no configuration is in it twice
abbrev AreDistinct : List Configuration → Type 0
AreDistinct table = (i j : ℕ) (c : Configuration) → slice_get table i ≡ Some c → slice_get table j ≡ Some c → i ≡ j

distinct_none : AreDistinct []
distinct_none i j c e f = absurd (cc)

distinct_added : (c : Configuration) (table new : List Configuration) → Added c table new → AreDistinct table
    → AreDistinct new
distinct_added c table new (inl h) d = subst (λ (t : List Configuration). AreDistinct t) (sym h.1) d
distinct_added c table new (inr h) d =
    subst (λ (t : List Configuration). AreDistinct t) (sym h.1)
    (λ i j x e f. by i j x (in_more table c i x e) (in_more table c j x f))
  where
    here : (x : Configuration) (i : ℕ) → slice_get table i ≡ Some x → x ≡ c → ⊥
    here x i e same = h.0 (i, e ∙ ap (λ (y : Configuration). Some y) same)

    by : (i j : ℕ) (x : Configuration) → ((slice_get table i ≡ Some x) ⊎ ((i ≡ length table) × (x ≡ c)))
        → ((slice_get table j ≡ Some x) ⊎ ((j ≡ length table) × (x ≡ c))) → i ≡ j
    by i j x (inl e) (inl f) = d i j x e f
    by i j x (inl e) (inr f) = absurd (here x i e f.1)
    by i j x (inr e) (inl f) = absurd (here x j f e.1)
    by i j x (inr e) (inr f) = e.0 ∙ sym f.0

distinct_tabled : (table : List Configuration) (ms : List UnpricedLabel) (new : List Configuration)
    → Tabled table ms new → AreDistinct table → AreDistinct new
distinct_tabled table [] new h d = subst (λ (t : List Configuration). AreDistinct t) (sym h) d
distinct_tabled table (m ∷ ms) new h d =
    distinct_tabled h.1 ms new h.4 (distinct_added _ _ _ h.3 (distinct_added _ _ _ h.2 d))

-- ---- the labels

-- each label costs the need of its pc
abbrev AreNeeds : List Instr → List Label → Type 0
AreNeeds code ls = (l : Label) → Contains ls l → IsNeed code l.pc l.cost

first_in : (l : Label) (ls : List Label) → Contains (l ∷ ls) l
first_in l ls = (0, omega arith, refl)

later_in : (l x : Label) (ls : List Label) → Contains ls x → Contains (l ∷ ls) x
later_in l x ls h = (suc h.0, omega (arith, h.1), h.2)

label_once : (a b : Label) → a.pc ≡ b.pc → a.cur ≡ b.cur → a.next ≡ b.next → a.pending ≡ b.pending
    → a.counters ≡ b.counters → a.cost ≡ b.cost → a ≡ b
label_once a b pc cur next pending counters cost =
    ap (λ n. let l : Label = record a { pc = n } in l) pc
    ∙ ap (λ n. let l : Label = record a { pc = b.pc; cur = n } in l) cur
    ∙ ap (λ n. let l : Label = record a { pc = b.pc; cur = b.cur; next = n } in l) next
    ∙ ap (λ (p : Swap). let l : Label = record b { pending = p; counters = a.counters; cost = a.cost } in l) pending
    ∙ ap (λ (c : Counters). let l : Label = record b { counters = c; cost = a.cost } in l) counters
    ∙ ap (λ n. let l : Label = record b { cost = n } in l) cost

labels_once : (code : List Instr) (table : List Configuration) (ms : List UnpricedLabel) (ls ks : List Label)
    → AreDistinct table → AreLabelsOf table ms ls → AreLabelsOf table ms ks → AreNeeds code ls → AreNeeds code ks
    → ls ≡ ks
labels_once code table [] ls ks d h k m n = h ∙ sym k
labels_once code table (x ∷ ms) [] ks d h k m n = absurd h
labels_once code table (x ∷ ms) (a ∷ ls) [] d h k m n = absurd k
labels_once code table (x ∷ ms) (a ∷ ls) (b ∷ ks) d h k m n =
    let pc : a.pc ≡ b.pc = h.0.place ∙ sym k.0.place in
    let there : IsNeed code b.pc a.cost = subst (λ p. IsNeed code p a.cost) pc (m a (first_in a ls)) in
    let first : a ≡ b = label_once a b pc
    (d a.cur b.cur x.flow.current h.0.current k.0.current)
    (d a.next b.next x.flow.next h.0.following k.0.following)
    (h.0.pending ∙ sym k.0.pending)
    (h.0.counters ∙ sym k.0.counters)
    (one_need code b.pc a.cost b.cost there (n b (first_in b ks))) in
    let rest : ls ≡ ks = labels_once code table ms ls ks d h.1 k.1 (λ l i. m l (later_in a l ls i))
    (λ l i. n l (later_in b l ks i)) in
    ap (λ (l : Label). l ∷ ls) first ∙ ap (λ (more : List Label). b ∷ more) rest

-- ---- the code

program_once : (a b : Program) → a.plan ≡ b.plan → a.configurations ≡ b.configurations → a.labels ≡ b.labels
    → a.lines ≡ b.lines → a ≡ b
program_once a b plan configurations labels lines =
    ap (λ (x : Plan). let p : Program = record a { plan = x } in p) plan
    ∙ ap (λ (x : List Configuration). let p : Program =
    record { plan = b.plan; configurations = x; labels = a.labels; lines = a.lines } in p) configurations
    ∙ ap (λ (x : List Label). let p : Program = record b { labels = x; lines = a.lines } in p) labels
    ∙ ap (λ (x : List Line). let p : Program = record b { lines = x } in p) lines

pub scripts_have_one_code : ScriptsHaveOneCode
scripts_have_one_code s a b h k m n =
    let ms = unpriced_labels 0 (placed_instrs s) in
    let table = tabled_once [] ms a.configurations b.configurations h.table k.table in
    let lines : a.lines ≡ b.lines = h.lines ∙ sym k.lines in
    let labels = subst (λ (t : List Configuration). AreLabelsOf t ms a.labels) table h.labels in
    let needs = subst (λ (ls : List Line). AreNeeds (instrs_of ls) a.labels) lines m in
    let distinct = distinct_tabled [] ms b.configurations k.table distinct_none in
    program_once _ _ (h.plan ∙ sym k.plan) table (labels_once _ _ _ _ _ distinct labels k.labels needs n) lines

-- ---- a script that has a code is accepted

pub labels_length : (table : List Configuration) (ms : List UnpricedLabel) (ls : List Label) → AreLabelsOf table ms ls
    → length ls ≡ length ms
labels_length table [] ls h = ap length h
labels_length table (m ∷ ms) [] h = absurd h
labels_length table (m ∷ ms) (l ∷ ls) h = omega (arith, labels_length table ms ls h.1)

pub is_accepted : (s : Tree) (code : Program) → IsProgram code → IsCodeOf s code → AreFine s.items nothing
    → IsSound (opening_of s) → pages_alone s.header (opening_of s) ≤ s.header.period
    → IsJudged s.header (body_of s) (beginning (opening_of s)) → nested (body_of s) ≤ 8
    → IsWithinBudget s.header.budget (instrs_of (lines_of_placed (placed_instrs s))) → IsAccepted s
is_accepted s code formed is made sound period judged repeats within = record {
  made = made;
  sound = sound;
  within_period = period;
  judged = judged;
  instructions = let n = ap length is.lines in let m = length_lines (placed_instrs s) in
      omega (arith, n, m, formed.lines_to);
  labels = let n = labels_length code.configurations (unpriced_labels 0 (placed_instrs s)) code.labels is.labels in
      omega (arith, n, formed.labels_to);
  configurations = λ table h.
      let e = ap length (tabled_once [] (unpriced_labels 0 (placed_instrs s)) code.configurations table is.table h) in
      omega (arith, e, formed.configurations_to);
  repeats = repeats;
  within = within;
}

-- ---- the parts from which the compiler makes a code

-- the header and the opening of a script, as the compiler has them
pub record Opens (s : Tree) (plan : Plan) (config : Configuration) : Type 0 where
  pub plan_is : plan ≡ s.header
  pub config_is : config ≡ opening_of s

pub opens : (s : Tree) (plan : Plan) (config : Configuration) (items : List Item) → plan ≡ s.header
    → config ≡ with_items items nothing → items ≡ s.items → Opens s plan config
opens s plan config items plan_is made items_are =
    record { plan_is = plan_is; config_is = made ∙ ap (λ xs. with_items xs nothing) items_are }

module _ {s : Tree} {plan : Plan} {config : Configuration} (o : Opens s plan config) where
  -- what holds of them holds of the script
  pub of_script : (P : Plan → Configuration → Type 0) → P plan config → P s.header (opening_of s)
  of_script P h = subst (λ x. P s.header x) o.config_is (subst (λ (q : Plan). P q config) o.plan_is h)

  pub of_parts : (P : Plan → Configuration → Type 0) → P s.header (opening_of s) → P plan config
  of_parts P h = subst (λ x. P plan x) (sym o.config_is) (subst (λ (q : Plan). P q (opening_of s)) (sym o.plan_is) h)

  pub places_are : all_places plan s.last_line (body_of s) (beginning config) ≡ placed_instrs s
  places_are = of_script (λ q x. all_places plan s.last_line (body_of s) (beginning config)
      ≡ all_places q s.last_line (body_of s) (beginning x)) refl

  pub laid_few : (k : CodeLimit) → IsWithin k s → Keeps k (nested (body_of s))
      (all_places plan s.last_line (body_of s) (beginning config))
  laid_few k h = subst (λ ps. Keeps k (nested (body_of s)) ps) (sym places_are) (within_keeps k s h)

  pub laid_judged : IsJudged s.header (body_of s) (beginning (opening_of s))
      → IsJudged plan (body_of s) (beginning config)
  laid_judged = of_parts (λ q x. IsJudged q (body_of s) (beginning x))

  pub judged_there : IsJudged plan (body_of s) (beginning config)
      → IsJudged s.header (body_of s) (beginning (opening_of s))
  judged_there = of_script (λ q x. IsJudged q (body_of s) (beginning x))

  -- the needs of an accepted code are within the budget
  pub over_budget : (lines : List Line) (needs : List ℕ)
      → lines ≡ lines_of_placed (all_places plan s.last_line (body_of s) (beginning config))
      → ((pc : ℕ) → get_or needs pc 0 ≡ longest (instrs_of lines) (plan.budget + 1) pc) →
      (pc : ℕ) → plan.budget < get_or needs pc 0 → IsWithinBudget s.header.budget
      (instrs_of (lines_of_placed (placed_instrs s))) → ⊥
  over_budget lines needs emitted each pc over within =
      let there : IsWithinBudget plan.budget (instrs_of lines) = rw (emitted ∙ ap lines_of_placed places_are)
      (of_parts (λ q x. IsWithinBudget q.budget (instrs_of (lines_of_placed (placed_instrs s)))) within) in
      absurd (omega (arith, need_most (instrs_of lines) plan.budget pc there, over))

-- the lines of a script, their needs within the budget, and the labels with their table
pub record Parts (s : Tree) (plan : Plan) (config : Configuration) (lines : List Line) (unpriced : List UnpricedLabel)
    (needs : List ℕ) (configs : List Configuration) (labels : List Label) : Type 0 where
  pub made_from : Opens s plan config
  pub emitted : lines ≡ lines_of_placed (all_places plan s.last_line (body_of s) (beginning config))
  pub marked : unpriced ≡ unpriced_labels 0 (all_places plan s.last_line (body_of s) (beginning config))
  pub each : (pc : ℕ) → slice_index needs pc ≡ longest (instrs_of lines) (plan.budget + 1) pc
  pub within : (pc : ℕ) → slice_index needs pc ≤ plan.budget
  pub tabled : Tabled [] unpriced configs
  pub labelled : AreLabelsOf configs unpriced labels
  pub priced : Priced needs labels

abbrev pub code_from : Plan → List Configuration → List Label → List Line → Program
code_from plan configs labels lines = record { plan = plan; configurations = configs; labels = labels; lines = lines }

module _ {s : Tree} {plan : Plan} {config : Configuration} {lines : List Line} {unpriced : List UnpricedLabel}
    {needs : List ℕ} {configs : List Configuration} {labels : List Label}
    (p : Parts s plan config lines unpriced needs configs labels) where
  pub lines_are : lines ≡ lines_of_placed (placed_instrs s)
  lines_are = p.emitted ∙ ap lines_of_placed (places_are p.made_from)

  pub marks_are : unpriced ≡ unpriced_labels 0 (placed_instrs s)
  marks_are = p.marked ∙ ap (λ ps. unpriced_labels 0 ps) (places_are p.made_from)

  pub parts_code : IsCodeOf s (code_from plan configs labels lines)
  parts_code = record {
    plan = p.made_from.plan_is;
    lines = lines_are;
    table = subst (λ (ms : List UnpricedLabel). Tabled [] ms configs) marks_are p.tabled;
    labels = subst (λ (ms : List UnpricedLabel). AreLabelsOf configs ms labels) marks_are p.labelled;
  }

  pub parts_cost : CostsItsNeeds (code_from plan configs labels lines)
  parts_cost = costs_needs (code_from plan configs labels lines) lines labels needs plan.budget refl refl p.each
      p.within p.priced

  pub parts_within : IsWithinBudget s.header.budget (instrs_of (lines_of_placed (placed_instrs s)))
  parts_within =
      let all : IsWithinBudget plan.budget (instrs_of lines) =
      within_from (instrs_of lines) plan.budget (λ pc. let h = p.within pc in let e = p.each pc in
      omega (arith, h, e)) in
      of_script p.made_from (λ q x. IsWithinBudget q.budget (instrs_of (lines_of_placed (placed_instrs s))))
      (subst (λ (ls : List Line). IsWithinBudget plan.budget (instrs_of ls)) lines_are all)

  -- if they form a code, the script is accepted
  pub parts_accepted :
      IsProgram (code_from plan configs labels lines) → AreFine s.items nothing → IsSound config
      × (pages_alone plan config ≤ plan.period) → IsJudged plan (body_of s) (beginning config)
      → nested (body_of s) ≤ 8 → IsAccepted s
  parts_accepted formed fine opening judged deep =
      let there = of_script p.made_from (λ q x. IsSound x × (pages_alone q x ≤ q.period)) opening in
      is_accepted s (code_from plan configs labels lines) formed parts_code fine there.0 there.1
      (judged_there p.made_from judged) deep parts_within
