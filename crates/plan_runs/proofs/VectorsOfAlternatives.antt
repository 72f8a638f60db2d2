-- Waits with alternatives: for each definition, an example that holds and one that fails.
use Rattle.plan_runs.proofs.Words.{◌≡◌, Contacts, HasClosed, HasCome, HasOpen, Hold, None, Option, Some, State}
use Rattle.plan_runs.proofs.Words.{WaitsAny, arith, bit_at, bit_at-zero, eqb-true, false, inl, inr, is_any_here, is_day}
use Rattle.plan_runs.proofs.Words.{is_here, nothing, refl, true, ℕ}
use Rattle.plan_code.specs.Flags.{any_closed, any_open}
use Rattle.plan_runs.proofs.Samples.{all_open, first_state}

abbrev contacts : ℕ → Contacts
contacts set = record { 0 = set }

-- at the first frame of a day, with all contacts open
abbrev first : State
first = first_state nothing 0

abbrev third_closed : State
third_closed = record first { contacts = contacts 8 }

-- contact 3 closed, frame 42 of the day, or this many frames
abbrev without_open : Option ℕ → Hold
without_open left = WaitsAny (contacts 8) (contacts 0) (Some 42) left

-- ---- what ends the wait

third_closes : HasCome (without_open (Some 5)) 1 third_closed
third_closes = inl (3, omega arith, refl, refl)

none_closed : (set : Contacts) → HasClosed set all_open → ⊥
none_closed set h =
    let one : bit_at 0 h.0 ≡ 1 = eqb-true (bit_at 0 h.0) 1 h.3 in
    omega (arith, one, bit_at-zero h.0)

of_no_contacts : (levels : Contacts) → HasOpen (contacts 0) levels → ⊥
of_no_contacts levels h =
    let one : bit_at 0 h.0 ≡ 1 = eqb-true (bit_at 0 h.0) 1 h.2 in
    omega (arith, one, bit_at-zero h.0)

not_the_fourth : HasCome (without_open (Some 5)) 4 first → ⊥
not_the_fourth (inl level) = none_closed (contacts 8) level
not_the_fourth (inr (inl level)) = of_no_contacts all_open level
not_the_fourth (inr (inr (inl day))) = let e : Some 42 ≡ Some 0 = day in absurd cc
not_the_fourth (inr (inr (inr frames))) = let e : Some 5 ≡ Some 4 = frames in absurd cc

-- the same, as tests
the_day : is_day 42 (Some 42) ≡ true
the_day = refl

another_day : is_day 43 (Some 42) ≡ false
another_day = refl

here_by_a_contact : is_here third_closed (without_open None) ≡ true
unfolding any_closed any_open
here_by_a_contact = refl

not_here : is_any_here first (contacts 8) (contacts 0) (Some 42) (Some 1) ≡ false
unfolding any_closed any_open
not_here = refl
