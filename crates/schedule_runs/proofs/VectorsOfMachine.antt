-- What is due, and the machine of a schedule: for each definition, an example that holds and one that fails.
use Rattle.schedule_runs.proofs.Words.{[], ◌∷◌, ◌≡◌, Airing, Contact, Frame, List, None, OnContact}
use Rattle.schedule_runs.proofs.Words.{OnTime, Overlay, PerformsAll, PerformsFrame, Some, TakesUp, Test, Tree}
use Rattle.schedule_runs.proofs.Words.{absurd_none}
use Rattle.schedule_runs.proofs.Words.{after_counts, after_swap, announced, ap, arith, begins, condition_holds, due}
use Rattle.schedule_runs.proofs.Words.{false}
use Rattle.schedule_runs.proofs.Words.{inl, inr, refl, some_is, sym, test_holds, true, wanted, ℕ}
use Rattle.mux_config.specs.declared.edit.Edit.TheVariants.{RateSub}
use Rattle.schedule_runs.proofs.Playing.{comes_to, comes_to_only, performs, performs_one}
use Rattle.schedule_runs.proofs.Samples.{at_rate, closed, overlay, rate, schedule, start_at}

-- ---- conditions; contact 3 is closed

abbrev three : Test → List (List Test)
three test = (OnContact 3 false ∷ []) ∷ (OnContact 3 true ∷ test ∷ []) ∷ []

contact_is_closed : (test_holds (closed 8) 0 (OnContact 3 true) ≡ true)
    × (test_holds (closed 8) 0 (OnContact 3 false) ≡ false)
contact_is_closed = (refl, refl)

other_is_open : (test_holds (closed 8) 0 (OnContact 2 true) ≡ false)
    × (test_holds (closed 8) 0 (OnContact 2 false) ≡ true)
other_is_open = (refl, refl)

-- from frame 42 of the day, up to frame 125
window_is_half_open : (test_holds (closed 0) 41 (OnTime 1 3) ≡ false) × (test_holds (closed 0) 42 (OnTime 1 3) ≡ true)
    × (test_holds (closed 0) 124 (OnTime 1 3) ≡ true) × (test_holds (closed 0) 125 (OnTime 1 3) ≡ false)
window_is_half_open = (refl, refl, refl, refl)

equal_times_are_never : test_holds (closed 0) 42 (OnTime 1 1) ≡ false
equal_times_are_never = refl

-- all tests of an alternative, and one of the alternatives
one_alternative : condition_holds (closed 8) 0 (three (OnContact 4 false)) ≡ true
one_alternative = refl

no_alternative : condition_holds (closed 8) 0 (three (OnContact 4 true)) ≡ false
no_alternative = refl

-- ---- `overlay a while contact 3 closed { rate sub 1 96 }`,
-- `overlay b while time 00:00:01 to 00:00:03 { rate sub 1 64 }`

abbrev both : Tree
both = schedule (overlay ((OnContact 3 true ∷ []) ∷ []) 96 ∷ overlay ((OnTime 1 3 ∷ []) ∷ []) 64 ∷ [])

items_alone : wanted both (closed 0) 41 ≡ at_rate 128
items_alone = refl

first_alone : wanted both (closed 8) 41 ≡ at_rate 96
first_alone = refl

in_text_order : wanted both (closed 8) 42 ≡ at_rate 64
in_text_order = refl

-- and so do the edits of one overlay: `rate sub 1 96`, `rate sub 1 64`
abbrev twice : Overlay
twice =
    record {
      line = 7;
      condition = (OnContact 3 true ∷ []) ∷ [];
      edits = record { line = 8; edit = RateSub 1 96 } ∷ record { line = 9; edit = RateSub 1 64 } ∷ [];
    }

edits_in_text_order : wanted (schedule (twice ∷ [])) (closed 8) 0 ≡ at_rate 64
edits_in_text_order = refl

-- a notice of 24 frames before
due_before : (due both (closed 0) 17 ≡ at_rate 128) × (due both (closed 0) 18 ≡ at_rate 64)
    × (due both (closed 0) 100 ≡ at_rate 64) × (due both (closed 0) 101 ≡ at_rate 128)
due_before = (refl, refl, refl, refl)

-- ---- a frame: with the contacts of a set, nothing pending, and 128 kbit/s on air

abbrev idle : (set : ℕ) → Airing
idle set = begins both (start_at 1 200 (closed set))

-- 96 kbit/s is to come in so many frames
abbrev pending : (left : ℕ) → Airing
pending left = record (idle 8) { next = at_rate 96; left = Some left }

rates_differ : at_rate 96 ≡ at_rate 128 → ⊥
rates_differ e = let n : 96 ≡ 128 = ap rate e in omega (arith, n)

pending_is_kept : TakesUp both (pending 5) (pending 5)
pending_is_kept = inl ((λ none. absurd_none 5 none), refl)

not_while_pending : TakesUp both (pending 5) (announced both (pending 5)) → ⊥
not_while_pending (inl waiting) =
    let left : 27 ≡ 5 = some_is 27 5 (ap (λ (x : Airing). x.left) waiting.1) in omega (arith, left)
not_while_pending (inr (inl staying)) = absurd_none 5 staying.0
not_while_pending (inr (inr taking)) = absurd_none 5 taking.0

what_is_on_air_stays : TakesUp both (idle 0) (idle 0)
what_is_on_air_stays = inr (inl (refl, refl, refl))

-- 27 frames from count 1, to count 28
what_is_due_is_announced :
    TakesUp both (idle 8) (let y : Airing = record (idle 8) { next = at_rate 96; left = Some 27 } in y)
what_is_due_is_announced = inr (inr (refl, rates_differ, refl))

not_a_frame_late : TakesUp both (idle 8) (idle 8) → ⊥
not_a_frame_late (inl waiting) = waiting.0 refl
not_a_frame_late (inr (inl staying)) = rates_differ staying.1
not_a_frame_late (inr (inr taking)) =
    let none : None ≡ Some 27 = ap (λ (x : Airing). x.left) taking.2 in absurd_none 27 (sym none)

-- in the frame of the swap what is due then is announced: contact 3 is open again
abbrev opened : Airing
opened = record (pending 0) { contacts = closed 0 }

swap_and_announce :
    PerformsFrame both opened
    (record {
      current = at_rate 96;
      next = at_rate 128;
      left = Some 26;
      contacts = closed 0;
      count = 2;
      day = 201;
    })
swap_and_announce = performs both opened

-- not in the frame after it
not_later : PerformsFrame both opened (after_counts (after_swap opened)) → ⊥
not_later h =
    let none : None ≡ Some 26 = ap (λ (x : Airing). x.left) (performs_one both opened _ h) in
    absurd_none 26 (sym none)

-- ---- events

third_closes : PerformsAll both (idle 0) (Contact 3 true ∷ Frame ∷ [])
    (let y : Airing = record (idle 8) { next = at_rate 96; left = Some 26; count = 2; day = 201 } in y)
third_closes = comes_to both (idle 0) (Contact 3 true ∷ Frame ∷ [])

not_before_the_frame : PerformsAll both (idle 0) (Frame ∷ Contact 3 true ∷ [])
    (let y : Airing = record (idle 8) { next = at_rate 96; left = Some 26; count = 2; day = 201 } in y)
    → ⊥
not_before_the_frame h =
    let some : Some 26 ≡ None =
    ap (λ (x : Airing). x.left) (comes_to_only both (idle 0) (Frame ∷ Contact 3 true ∷ []) _ h) in
    absurd_none 26 some
