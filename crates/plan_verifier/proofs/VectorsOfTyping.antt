-- Typed codes on a small code: for each definition, an example that holds and one that fails.
use Rattle.plan_verifier.proofs.Words.{[], ◌+◌, ◌∷◌, ◌≡◌, ◌≢◌, ◌≤◌, AddSub, CanEnter, CommitIn, Configuration, Declares}
use Rattle.plan_verifier.proofs.Words.{Edits, End, Fits, HasOpening, Idle, IsAfter, IsFine, IsInitial, IsLabelTyped}
use Rattle.plan_verifier.proofs.Words.{IsLine, IsOpening, IsProgram, IsSafe, IsSound, IsTyped, IsTyping, Join, Known}
use Rattle.plan_verifier.proofs.Words.{List, None, Option, Plan, Program, Reaches, Some, Swap, Within, ap, arith}
use Rattle.plan_verifier.proofs.Words.{false≢true, inl, inr, nothing, refl, sound_told, ℕ}
use Rattle.plan_verifier.specs.Typing.{HasRoom, CanCommit, IsCertain, HasConfigurationsOf, FitsSwap}
use Rattle.plan_verifier.proofs.Samples.{plan, sub, one_sub, many_subs, counters, label, line, line_is, code, first_is}
use Rattle.plan_verifier.proofs.DecidingFlows.{decides_room, decides_initial}
use Rattle.plan_verifier.proofs.OneVerdict.{typed_if}

-- ---- values shared by these vectors: the sub-channel of the samples, added to an empty multiplex

-- the plan of the samples, but the whole configuration goes out in each frame
abbrev pub each_frame : Plan
each_frame = record plan { period = 1 }

-- with an empty current configuration
abbrev pub knows : Configuration → Swap → ℕ → Known
knows next pending allowance =
    record { current = nothing; next = next; pending = pending; counters = counters 0; allowance = allowance }

-- adds the sub-channel, commits it, waits for the swap and ends
abbrev pub joins : Program
joins = code (label 0 3 ∷ []) (line (Edits (AddSub sub)) ∷ line (CommitIn 24) ∷ line Join ∷ line End ∷ [])

pub adds_sub : IsLine (line (Edits (AddSub sub)))
adds_sub = line_is (Edits (AddSub sub)) (grind arith)

pub joins_is : IsProgram joins
joins_is = first_is 3 joins.lines (omega arith) (omega arith)
    (adds_sub, (line_is (CommitIn 24) (omega arith, omega arith), (line_is Join tt, (line_is End tt, tt))))
    (omega arith) (omega arith)

-- what is known at each of its instructions
abbrev pub opened : Known
opened = knows nothing Idle 3

abbrev pub edited : Known
edited = knows one_sub Idle 2

abbrev pub committed : Known
committed = knows one_sub (Within 24 27) 1

abbrev pub joined : Known
joined = record { current = one_sub; next = one_sub; pending = Idle; counters = counters 0; allowance = 20 }

abbrev pub known_there : List Known
known_there = opened ∷ edited ∷ committed ∷ joined ∷ []

abbrev pending_of : Option Known → Swap
pending_of None = Idle
pending_of (Some t) = t.pending

-- ---- room for the pages of a notice

room_for_one_sub : HasRoom plan edited
room_for_one_sub = (decides_room plan edited).told refl

-- 24 small sub-channels take two pages, which need two frames
pub no_room_in_each_frame : HasRoom each_frame (knows many_subs Idle 2) → ⊥
no_room_in_each_frame h = let e : 2 ≤ 1 = h.within_period in omega (arith, e)

-- ---- commits

pub one_sub_is_sound : IsSound one_sub
one_sub_is_sound = sound_told one_sub refl

pub not_the_current : one_sub ≢ nothing
not_the_current e = let subs : sub ∷ [] ≡ [] = ap (λ (c : Configuration). c.subs) e in absurd cc

pub can_commit_one_sub : CanCommit plan edited
can_commit_one_sub = record {
  idle = refl;
  sound = one_sub_is_sound;
  changes = not_the_current;
  room = room_for_one_sub;
}

not_without_a_change : CanCommit plan opened → ⊥
not_without_a_change h = h.changes refl

-- ---- instructions and the swap: it is due in 24 to 27 frames

ends_before_the_swap : IsCertain 23 (Within 24 27)
ends_before_the_swap = inl (omega arith)

ends_among_them : IsCertain 25 (Within 24 27) → ⊥
ends_among_them h = elim h [ inl early ↦ omega (arith, early) | inr late ↦ omega (arith, late) ]

pub a_first_sub_channel : IsFine plan (Edits (AddSub sub)) opened
a_first_sub_channel = (refl, refl)

a_delay_of_the_notice : IsFine plan (CommitIn 24) edited
a_delay_of_the_notice = (can_commit_one_sub, omega arith)

a_join_of_the_swap : IsFine plan Join committed
a_join_of_the_swap = tt

pub no_join_without_a_swap : IsFine plan Join opened → ⊥
no_join_without_a_swap h = h

-- ---- labels

pub its_label_declares : Declares joins (label 0 3) opened
its_label_declares = record { current = refl; next = refl; pending = refl; counters = refl; cost = refl }

no_configuration_there : Declares joins (record (label 0 3) { next = 1 }) opened → ⊥
no_configuration_there h = let e : None ≡ Some nothing = h.next in absurd cc

another_next_one : HasConfigurationsOf opened committed → ⊥
another_next_one h = let e : nothing ≡ one_sub = h.1 in let subs : [] ≡ sub ∷ [] =
    ap (λ (c : Configuration). c.subs) e in absurd cc

-- bounds within those of the label, and bounds outside of them
narrower_bounds : FitsSwap (Within 24 27) (Within 20 30) committed committed
narrower_bounds = ((refl, refl), omega arith, omega arith)

wider_bounds : FitsSwap (Within 24 27) (Within 25 30) committed committed → ⊥
wider_bounds h = let e : 25 ≤ 24 = h.1 in omega (arith, e)

unset_counter : Fits opened (record opened { counters = counters 4 }) → ⊥
unset_counter h = false≢true (h.counters 2 refl)

pub opened_fits : Fits opened opened
opened_fits = record { swap = (refl, refl); counters = λ r set. set }

comes_to_its_label : CanEnter joins (label 0 3) opened
comes_to_its_label = record {
  declared = opened;
  declares = its_label_declares;
  fits = opened_fits;
  affords = omega arith;
}

cannot_afford_it : CanEnter joins (label 0 3) (record opened { allowance = 2 }) → ⊥
cannot_afford_it h = let e : 3 ≤ 2 = h.affords in omega (arith, e)

-- ---- the opening

pub begins_idle : IsInitial opened
begins_idle = (decides_initial opened).told refl

not_with_a_swap : IsInitial committed → ⊥
not_with_a_swap h = let e : Within 24 27 ≡ Idle = h.idle in absurd cc

pub opens_empty : IsOpening plan opened
opens_empty = record { initial = begins_idle; sound = sound_told nothing refl; within_period = omega arith }

-- two pages in a period of one frame
not_with_two_pages : IsOpening each_frame (record joined { current = many_subs; next = many_subs }) → ⊥
not_with_two_pages h = let e : 2 ≤ 1 = h.within_period in omega (arith, e)

pub its_opening : HasOpening joins
its_opening = record {
  label = label 0 3;
  known = opened;
  first = refl;
  declares = its_label_declares;
  opening = opens_empty;
}

no_label_at_its_beginning : HasOpening (code (label 1 3 ∷ []) (line End ∷ line End ∷ [])) → ⊥
no_label_at_its_beginning h = let e : None ≡ Some h.label = h.first in absurd cc

-- ---- at a pc of a code

pub its_label_is_placed : IsLabelTyped joins known_there (label 0 3)
its_label_is_placed = record { known = opened; there = refl; declares = its_label_declares; within = omega arith }

past_the_budget : IsLabelTyped joins known_there (label 0 21) → ⊥
past_the_budget h = let e : 21 ≤ 20 = h.within in omega (arith, e)

reaches_its_label : Reaches joins 0 opened
reaches_its_label = record { label = label 0 3; there = refl; comes = comes_to_its_label }

no_label_at_the_target : Reaches joins 1 edited → ⊥
no_label_at_the_target h = let e : None ≡ Some h.label = h.there in absurd cc

-- ---- codes

pub join_is_safe : IsSafe joins known_there 2 Join committed
join_is_safe = record {
  allowance = omega arith;
  fine = a_join_of_the_swap;
  inside = λ on. omega arith;
  onward = λ on. refl;
  targets = λ target e. absurd cc;
}

nothing_left_to_spend : IsSafe joins known_there 2 Join (record committed { allowance = 0 }) → ⊥
nothing_left_to_spend h = let e : 1 ≤ 0 = h.allowance in omega (arith, e)

nothing_before_the_first : IsAfter joins 0 → ⊥
nothing_before_the_first h = let e : 0 ≡ h.before + 1 = h.next in omega (arith, e)

the_second_after_the_first : IsAfter joins 1
the_second_after_the_first = record { before = 0; instr = Edits (AddSub sub); next = refl; there = refl; onward = refl }

its_typing : IsTyped joins
its_typing = typed_if joins joins_is refl

-- after the join the swap has been made
forgets_the_swap : IsTyping joins (opened ∷ edited ∷ committed ∷ committed ∷ []) → ⊥
forgets_the_swap h =
    let arrived : Some committed ≡ Some joined = (h.safe 2 Join committed refl refl).onward refl in
    let pending : Within 24 27 ≡ Idle = ap (λ (o : Option Known). pending_of o) arrived in
    absurd cc
