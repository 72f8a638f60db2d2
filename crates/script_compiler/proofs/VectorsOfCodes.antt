-- Test vectors: small scripts for which each definition holds, and for which it fails.
use Rattle.script_compiler.proofs.Words.{[], ◌++◌, ◌+◌, ◌∙◌, ◌∷◌, ◌≡◌, ◌≢◌, ◌≤◌, AddSub, Added, Alternative, AreFine}
use Rattle.script_compiler.proofs.Words.{AreLabelsOf, Block, Bool, BranchesAgree, Configuration, CostsItsNeeds, End}
use Rattle.script_compiler.proofs.Words.{FitsEntry, FitsFlow, Flow, IdUsed, Idle, Instr, IsAccepted, IsCodeOf, IsDone}
use Rattle.script_compiler.proofs.Words.{IsInTable, IsJudged, IsLabelOf, IsNeed, IsWithinBudget, Item, Label, List}
use Rattle.script_compiler.proofs.Words.{Loop, None, Perhaps, Program, ProgramPoint, Reached, Set, Some, StepsTo, Swap}
use Rattle.script_compiler.proofs.Words.{Tabled, Test, Tree, UnpricedLabel, Wait, WaitAny, WaysAgree, Within}
use Rattle.script_compiler.proofs.Words.{all_places, ap, arith, at_label, basic, beginning, falls_out, false, forever}
use Rattle.script_compiler.proofs.Words.{inl, inr, instrs_of, length, length-append, lines_of_placed, map, nested}
use Rattle.script_compiler.proofs.Words.{nothing, one_sub, placed_instrs, plan, point_after, refl, repeat, rules, stop}
use Rattle.script_compiler.proofs.Words.{sub, subst, suc, suspends, sym, true, unpriced_labels, widest, without_label}
use Rattle.script_compiler.proofs.Words.{zero, ℕ}
use Rattle.mux_config.proofs.Sounding.{sound_told}
use Rattle.plan_code.specs.declared.limits.TheConstants.{MOST_CONFIGURATIONS}
use Rattle.script_front.specs.declared.moment.MomentForm.TheVariants.{Early}
use Rattle.mux_config.specs.Configuration.{nothing as no_configuration}
use Rattle.script_front.specs.declared.tree.Act.TheVariants.{Wait as Waits, WaitAny as WaitsAny, Join as Joins}
use Rattle.script_front.specs.declared.alternatives.Alternative.TheVariants.{Contact as OfContact, Until as OfMoment}

-- ---- values shared by these vectors

-- what is known: the empty configuration is current, with this next one and swap
abbrev knows : Configuration → Swap → Flow
knows next pending = record { current = no_configuration; next = next; pending = pending }

abbrev start : ProgramPoint
start = beginning no_configuration

-- `wait 1` in line 3
abbrev waits : Block → Block
waits rest = basic 3 (Waits 1) rest

-- ---- steps and paths

a_test_jumps : StepsTo (Test 1 5) 0 5
a_test_jumps = (refl, inr refl)

stops : (i j : Instr) (to pc : ℕ) → suspends i ≡ true → Some i ≡ Some j → StepsTo j pc to → ⊥
stops i j to pc s e g =
    let is : j ≡ i = cc in
    let not : suspends i ≡ false = subst (λ x. suspends x ≡ false) is g.0 in
    cc

-- only an end
stays_within_one : IsWithinBudget 1 (End ∷ [])
stays_within_one pc zero h = omega arith
stays_within_one pc (suc zero) h = omega arith
stays_within_one zero (suc (suc n)) h = absurd (stops End h.0 h.1 0 refl h.2 h.3)
stays_within_one (suc pc) (suc (suc n)) h = let none : None ≡ Some h.0 = h.2 in absurd cc

-- and that is over a budget of none
is_over_none : IsWithinBudget 0 (End ∷ []) → ⊥
is_over_none h = let e : 1 ≤ 0 = h 0 1 (search rules) in omega (arith, e)

-- ---- paths that merge

one_of_them : widest Idle (Within 28 31) ≡ Perhaps 31
one_of_them = refl

fits_itself : FitsFlow (knows one_sub (Within 28 31)) (knows one_sub (Within 28 31))
fits_itself = ((refl, refl), omega arith, omega arith)

fits_no_narrower : FitsFlow (knows one_sub (Within 28 31)) (knows one_sub (Within 29 31)) → ⊥
fits_no_narrower h = let e : 29 ≤ 28 = h.1 in omega (arith, e)

ways_agree : WaysAgree (Some (at_label (knows one_sub (Within 28 31)))) (Some (at_label (knows one_sub (Within 30 33))))
ways_agree = (((refl, refl), omega arith, omega arith), ((refl, refl), omega arith, omega arith))

not_the_empty : one_sub ≢ no_configuration
not_the_empty e = let subs : sub ∷ [] ≡ [] = ap (λ (c : Configuration). c.subs) e in absurd cc

-- one path has edited the next configuration, the other has not
ways_differ : WaysAgree (Some (at_label (knows no_configuration Idle))) (Some (at_label (knows one_sub Idle))) → ⊥
ways_differ h = let e : no_configuration ≡ one_sub = h.0.1 in not_the_empty (sym e)

the_loop_comes_round : FitsEntry (Some (without_label (knows one_sub Idle))) (at_label (knows one_sub Idle))
the_loop_comes_round = (refl, refl)

the_loop_has_edited : FitsEntry (Some (without_label (knows one_sub Idle))) start → ⊥
the_loop_has_edited h = not_the_empty h.1

branches_agree : BranchesAgree None (Some start)
branches_agree = tt

branches_differ : BranchesAgree (Some (at_label (knows one_sub Idle))) (Some start) → ⊥
branches_differ h = not_the_empty (sym h.0.1)

-- ---- the judgement

none_follows : IsDone nothing
none_follows = tt

one_follows : IsDone (waits nothing) → ⊥
one_follows h = h

what_ends_leads_nowhere : Reached (point_after plan (stop 4 nothing) start) nothing (λ u. ⊥)
what_ends_leads_nowhere = tt

nothing_is_reached_after_it : Reached (point_after plan (stop 4 nothing) start) (waits nothing) (λ u. Unit {0}) → ⊥
nothing_is_reached_after_it h = h

a_wait_is_judged : IsJudged plan (waits nothing) start
a_wait_is_judged = (tt, tt)

-- no swap is pending
a_join_is_not : IsJudged plan (basic 3 Joins nothing) start → ⊥
a_join_is_not h = h.0

-- ---- the scheme

falls : falls_out (repeat 3 3 (waits nothing) nothing) ≡ true
falls = refl

falls_not : falls_out (forever 3 (waits nothing) nothing) ≡ false
falls_not = refl

-- `repeat 3 { wait 1 }`, in a text of five lines
the_lines_of_a_loop :
    lines_of_placed (all_places plan 5 (repeat 2 3 (waits nothing) nothing) start)
    ≡ record { number = 2; instr = Set 0 3 } ∷ record { number = 3; instr = Wait 1 }
    ∷ record { number = 2; instr = Loop 0 1 } ∷ record { number = 5; instr = End } ∷ []
the_lines_of_a_loop = refl

the_labels_of_a_loop : map (λ m. m.pc)
    (unpriced_labels 0 (all_places plan 5 (repeat 2 3 (waits nothing) nothing) start)) ≡ 0 ∷ 1 ∷ []
the_labels_of_a_loop = refl

-- `contact 3 closed`, `contact 3 open` and `contact 0 open`
abbrev third : Bool → Alternative
third closed = OfContact 3 closed

-- the same contact several times is in each set once; 250 frames before ten in the evening
the_same_contact_again :
    instrs_of (lines_of_placed
    (all_places plan 3 (basic 3 (WaitsAny (third true ∷ OfMoment (Early 79200 250) ∷ third true ∷ third false ∷ []))
    nothing) start))
    ≡ WaitAny (record { 0 = 8 }) (record { 0 = 8 }) (Some 3299750) None ∷ End ∷ []
the_same_contact_again = refl

two_deep : nested (repeat 2 3 (repeat 3 3 (waits nothing) nothing) nothing) ≡ 2
two_deep = refl

-- ---- labels and their configurations

abbrev mark : ℕ → Flow → UnpricedLabel
mark pc flow = record { pc = pc; flow = flow; repeats = 1 }

stands_not : IsInTable one_sub (no_configuration ∷ []) → ⊥
stands_not (zero, e) = let same : no_configuration ≡ one_sub = cc in not_the_empty (sym same)
stands_not (suc n, e) = let none : None ≡ Some one_sub = e in absurd cc

added : Added one_sub (no_configuration ∷ []) (no_configuration ∷ one_sub ∷ [])
added = inr (stands_not, refl)

added_once : Added one_sub (one_sub ∷ []) (one_sub ∷ one_sub ∷ []) → ⊥
added_once h = elim h [
  | inl same ↦ let e : length (one_sub ∷ one_sub ∷ []) ≡ 1 = ap length same.1 in omega (arith, e)
  | inr new ↦ new.0 (0, refl)
]

tabled : Tabled [] (mark 0 (knows one_sub Idle) ∷ mark 3 (knows one_sub Idle) ∷ []) (no_configuration ∷ one_sub ∷ [])
tabled = (
  no_configuration ∷ [],
  no_configuration ∷ one_sub ∷ [],
  inr (none, refl),
  inr (stands_not, refl),
  (
    no_configuration ∷ one_sub ∷ [],
    no_configuration ∷ one_sub ∷ [],
    inl ((0, refl), refl),
    inl ((1, refl), refl),
    refl,
  ),
)
  where
    none : IsInTable no_configuration [] → ⊥
    none h = let e : None ≡ Some no_configuration = h.1 in absurd cc

-- the current configuration is before the next one
tabled_in_order : Tabled [] (mark 0 (knows one_sub Idle) ∷ []) [] → ⊥
tabled_in_order h = let last : [] ≡ h.1 = h.4 in elim h.3 [
  | inl same ↦ let there : IsInTable one_sub h.0 = same.0 in let e : h.1 ≡ h.0 = same.1 in
      let none : IsInTable one_sub [] = subst (λ t. IsInTable one_sub t) (sym (last ∙ e)) there in
      let f : None ≡ Some one_sub = none.1 in absurd cc
  | inr new ↦ let e : 0 ≡ length (h.0 ++ one_sub ∷ []) = ap length last ∙ ap length new.1 in let n =
      length-append h.0 (one_sub ∷ []) in omega (arith, e, n)
]

abbrev label : ℕ → ℕ → Label
label next cost = record { pc = 3; cur = 0; next = next; pending = Idle; counters = record { 0 = 1 }; cost = cost }

is_label : IsLabelOf (no_configuration ∷ one_sub ∷ []) (mark 3 (knows one_sub Idle)) (label 1 7)
is_label = record { place = refl; current = refl; following = refl; pending = refl; counters = refl }

names_another : IsLabelOf (no_configuration ∷ one_sub ∷ []) (mark 3 (knows one_sub Idle)) (label 0 7) → ⊥
names_another h = let e : Some no_configuration ≡ Some one_sub = h.following in let same : no_configuration ≡ one_sub =
    cc in not_the_empty (sym same)

each_has_its_label : AreLabelsOf (no_configuration ∷ one_sub ∷ []) (mark 3 (knows one_sub Idle) ∷ []) (label 1 7 ∷ [])
each_has_its_label = (is_label, refl)

one_has_none : AreLabelsOf (no_configuration ∷ one_sub ∷ []) (mark 3 (knows one_sub Idle) ∷ []) [] → ⊥
one_has_none h = h

-- ---- whole scripts

abbrev item : Item
item = record { line = 2; edit = AddSub sub }

items_are_fine : AreFine (item ∷ []) no_configuration
items_are_fine = (refl, tt)

-- the same sub-channel twice
used_twice : AreFine (item ∷ item ∷ []) no_configuration → ⊥
used_twice h = let e : Some IdUsed ≡ None = h.1.0 in absurd cc

-- a script with these items that ends at once
abbrev ends : List Item → ℕ → Tree
ends items budget = record {
  header = record plan { budget = budget };
  items = items;
  names = [];
  blocks = [];
  begin_line = 2;
  statements = [];
  last_line = 2;
}

-- the code of one End, with a label of this cost
abbrev ending : ℕ → Program
ending cost = record {
  plan = plan;
  configurations = no_configuration ∷ [];
  labels = record { pc = 0; cur = 0; next = 0; pending = Idle; counters = record { 0 = 0 }; cost = cost } ∷ [];
  lines = record { number = 2; instr = End } ∷ [];
}

is_no_code : IsCodeOf (ends [] 20) (record (ending 1) { lines = [] }) → ⊥
is_no_code h = let e : [] ≡ record { number = 2; instr = End } ∷ [] = h.lines in absurd cc

costs_its_needs : CostsItsNeeds (ending 1)
costs_its_needs l (zero, lt, same) =
    subst (λ (x : Label). IsNeed (End ∷ []) x.pc x.cost) same
    (record { path = search rules; longest = λ n h. stays_within_one 0 n h })
costs_its_needs l (suc n, lt, same) = absurd (omega (arith, lt))

costs_more : CostsItsNeeds (ending 2) → ⊥
costs_more h =
    let need : IsNeed (End ∷ []) 0 2 =
    h (record { pc = 0; cur = 0; next = 0; pending = Idle; counters = record { 0 = 0 }; cost = 2 })
    (0, omega arith, refl) in
    let e : 2 ≤ 1 = stays_within_one 0 2 need.path in
    omega (arith, e)

few_configurations : (table : List Configuration) → Tabled [] (unpriced_labels 0 (placed_instrs (ends [] 20))) table
    → length table ≤ MOST_CONFIGURATIONS
few_configurations table h = let last : table ≡ h.1 = h.4 in let a = most no_configuration [] h.0 h.2 in let b =
    most no_configuration h.0 h.1 h.3 in let n = ap length last in omega (arith, a, b, n)
  where
    most : (c : Configuration) (table new : List Configuration) → Added c table new → length new ≤ length table + 1
    most c table new h = elim h [
      | inl same ↦ let e = ap length same.1 in omega (arith, e)
      | inr more ↦ let e = ap length more.1 in let n = length-append table (c ∷ []) in omega (arith, e, n)
    ]

is_accepted : IsAccepted (ends [] 20)
is_accepted = record {
  made = tt;
  sound = sound_told no_configuration refl;
  within_period = omega arith;
  judged = tt;
  instructions = omega arith;
  labels = omega arith;
  configurations = few_configurations;
  repeats = omega arith;
  within = λ pc n h. let e = stays_within_one pc n h in omega (arith, e);
}

-- even one instruction exceeds a budget of 0
without_a_budget : IsAccepted (ends [] 0) → ⊥
without_a_budget h = let e : 1 ≤ 0 = h.within 0 1 (search rules) in omega (arith, e)
