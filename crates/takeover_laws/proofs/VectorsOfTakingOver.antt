-- Taking over: for each definition, an example that holds and one that fails.
use Rattle.takeover_laws.proofs.Words.{[], ◌+◌, ◌∙◌, ◌∷◌, ◌≡◌, BeginsWith, Configuration, Contact, Frame, HandsOver}
use Rattle.takeover_laws.proofs.Words.{IsMovedBy, List, MakesNoSwap, Plan, PlayAlike, State, TakesOver, ap, arith}
use Rattle.takeover_laws.proofs.Words.{false, frame_count, is_due, most_before, refl, rules, run, slice_get, sym}
use Rattle.takeover_laws.proofs.Words.{true, ℕ}
use Rattle.mux_types.specs.declared.parts.Sub.{Sub}
use Rattle.plan_runs.proofs.Samples.{first_state, one_sub, plan}
use Rattle.takeover_laws.proofs.Handing.{hands_over, same_some}
use Rattle.takeover_laws.proofs.Moving.{is_further, plans_play_on}
use Rattle.takeover_laws.proofs.Samples.{at_pc, begins, due_at, frames, lower, new, old, takes_over}

abbrev rate_in : List Sub → ℕ
rate_in [] = 0
rate_in (s ∷ ss) = s.kbits

rates_differ : (c : Configuration) → c ≡ one_sub → c ≡ lower → ⊥
rates_differ c e f =
    let same : 128 ≡ 96 = ap (λ (d : Configuration). rate_in d.subs) (sym e ∙ f) in omega (arith, same)

-- ---- states that differ in the pc alone

moved_by_three : IsMovedBy 3 (at_pc 1 one_sub) (at_pc 4 one_sub)
moved_by_three = refl

not_by_two : IsMovedBy 2 (at_pc 1 one_sub) (at_pc 4 one_sub) → ⊥
not_by_two h = let same : 4 ≡ 3 = ap (λ (s : State). s.pc) h in omega (arith, same)

not_with_other_contacts : IsMovedBy 3 (at_pc 1 one_sub)
    (let t : State = record (at_pc 4 one_sub) { contacts = record { 0 = 8 } } in t)
    → ⊥
not_with_other_contacts h = let same : 8 ≡ 0 = ap (λ (s : State). s.contacts.0) h in omega (arith, same)

play_alike : PlayAlike 3 old new (at_pc 0 one_sub) (at_pc 3 one_sub) (Frame ∷ Contact 3 true ∷ Frame ∷ [])
play_alike = plans_play_on 1 old new lower one_sub takes_over (at_pc 0 one_sub) (at_pc 3 one_sub) _ refl

-- the code that takes over is at its edit
not_from_its_start : PlayAlike 3 old new (at_pc 0 one_sub) (at_pc 0 one_sub) [] → ⊥
not_from_its_start h = let same : 0 ≡ 3 = ap (λ (s : State). s.pc) h.states in omega (arith, same)

-- ---- the configuration with which a code begins

begins_with_it : BeginsWith new lower
begins_with_it = record { label = _; first = refl; there = refl }

not_with_the_other : BeginsWith old lower → ⊥
not_with_the_other b =
    let first = same_some _ b.label begins.label b.first begins.first in
    rates_differ lower
    (same_some _ lower one_sub b.there (ap (λ l. slice_get old.configurations l.cur) first ∙ begins.there)) refl

-- ---- runs without a swap: it falls in frame 24

no_swap_before : MakesNoSwap new (first_state lower 0) (frames 24)
no_swap_before = search rules

then_it_is_due : is_due (run new (first_state lower 0) (frames 24)).left ≡ true
then_it_is_due = refl

not_over_the_swap : MakesNoSwap new (due_at 3 one_sub) (Frame ∷ []) → ⊥
not_over_the_swap h = let due : true ≡ false = h.0 in absurd cc

counts_frames : frame_count (Frame ∷ Contact 3 true ∷ Frame ∷ []) ≡ 2
counts_frames = refl

counts_no_contacts : frame_count (Contact 3 true ∷ []) ≡ 1 → ⊥
counts_no_contacts e = omega (arith, e)

-- one edit, which fills no frame of 19; then a notice of 24, and a swap on every fourth count
most_of_all : most_before new.plan lower one_sub ≡ 27
most_of_all = refl

at_one_edit_a_frame : most_before (let p : Plan = record plan { budget = 2 } in p) lower one_sub ≡ 28
at_one_edit_a_frame = refl

-- a code that starts at count 1 swaps in frame 27
due_in_the_last : is_due (run new (first_state lower 1) (frames 27)).left ≡ true
due_in_the_last = refl

-- ---- the frame of the swap

hands_over_then : HandsOver 3 old new one_sub (due_at 3 one_sub)
hands_over_then = hands_over 3 old new one_sub (due_at 3 one_sub) (is_further 1 old new lower one_sub takes_over) begins
    (record { eid = omega arith; count = omega arith; day = omega arith; contacts = omega arith }) refl

not_before_the_join : HandsOver 3 old new one_sub (due_at 2 one_sub) → ⊥
not_before_the_join h =
    let place : 2 ≡ h.begun.pc + 3 = ap (λ (s : State). s.pc) h.made in
    let first : h.begun.pc ≡ 0 = h.starts.pc in
    omega (arith, place, first)

takes_over_then : TakesOver 3 old new lower one_sub (due_at 3 one_sub)
takes_over_then = record { until_then = refl; from_then = λ due. hands_over_then }

-- another configuration is on air before the swap, and another one comes at it
not_another_before : TakesOver 3 old new lower one_sub (at_pc 0 one_sub) → ⊥
not_another_before h = rates_differ one_sub refl h.until_then

not_another_then : TakesOver 3 old new lower one_sub (due_at 3 lower) → ⊥
not_another_then h =
    let over = h.from_then refl in
    let comes : lower ≡ over.begun.current = ap (λ (s : State). s.current) over.made in
    rates_differ lower (comes ∙ over.opens) refl
