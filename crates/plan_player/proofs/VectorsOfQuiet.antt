-- Quiet frames of a code that waits, with an empty multiplex: examples that hold and examples that fail.
use Rattle.plan_player.proofs.Words.{[], ◌∷◌, ◌≡◌, AreAway, AreCopied, AreQuiet, DayIsAway, End, Ended, Hold}
use Rattle.plan_player.proofs.Words.{HoldIsAway, IsQuiet, None, Option, Program, Some, State, SwapIsAway, Wait, Waits}
use Rattle.plan_player.proofs.Words.{WaitsAny, arith, code, counted_on, false, first_state, hold_later, line, nothing}
use Rattle.plan_player.proofs.Words.{plan, refl, suc, true, zero, ℕ}
use Rattle.plan_code.specs.declared.flags.Contacts.{Contacts}
use Rattle.plan_code.specs.Flags.{any_closed, any_open}
use Rattle.plan_player.proofs.Quiet.{quiet_frames_are_copied}

abbrev waits : Program
waits = code [] (line (Wait 1) ∷ line End ∷ [])

-- suspended by this hold, with this swap pending
abbrev at : Hold → Option ℕ → State
at hold left = record (first_state nothing 4999) { left = left; hold = hold; day = 3599998 }

-- ---- one frame

waiting : IsQuiet waits (at (Waits 2) None)
waiting = record { no_swap = refl; suspended = refl; no_phase = refl }

at_a_swap : IsQuiet waits (at Ended (Some 0)) → ⊥
at_a_swap h = let e : true ≡ false = h.no_swap in absurd cc

-- ---- frames one after another

two_frames : AreQuiet waits (suc (suc zero)) (at (Waits 2) None)
two_frames = (
  record { no_swap = refl; suspended = refl; no_phase = refl },
  (record { no_swap = refl; suspended = refl; no_phase = refl }, tt),
)

-- the third executes an instruction
no_third : AreQuiet waits (suc (suc (suc zero))) (at (Waits 2) None) → ⊥
no_third h = let third = h.1.1.0 in let e : true ≡ false = third.suspended in absurd cc

counts_wrap : (counted_on plan (suc (suc zero)) (at (Waits 2) None)).count ≡ 1
counts_wrap = refl

days_wrap : (counted_on plan (suc (suc zero)) (at (Waits 2) None)).day ≡ 0
days_wrap = refl

two_copied : AreCopied waits (suc (suc zero)) (at (Waits 2) None)
two_copied = quiet_frames_are_copied waits (suc (suc zero)) (at (Waits 2) None) two_frames

-- it executes an instruction
not_copied : AreCopied waits (suc zero) (at (Waits 0) None) → ⊥
not_copied h = let e : 1 ≡ 0 = h.no_steps in omega (arith, e)

-- ---- counting them

six_before_the_notice : SwapIsAway 24 (Some 30) 6
six_before_the_notice = (omega arith, λ from. omega arith)

no_seventh : SwapIsAway 24 (Some 30) 7 → ⊥
no_seventh h = omega (arith, h.1 (omega arith))

three_of_three : HoldIsAway (at (Waits 3) None) (Waits 3) 3
three_of_three = omega arith

no_fourth : HoldIsAway (at (Waits 3) None) (Waits 3) 4 → ⊥
no_fourth h = omega (arith, h)

-- ---- alternatives: contact 3 closed, or these, with all contacts open

abbrev third : Contacts
third = record { 0 = 8 }

abbrev no_contacts : Contacts
no_contacts = record { 0 = 0 }

one_before_the_day : DayIsAway 3599998 1 3599999
one_before_the_day = λ some. (omega arith, λ before. omega arith)

not_its_frame : DayIsAway 3599998 2 3599999 → ⊥
not_its_frame h = let e = (h (omega arith)).1 (omega arith) in omega (arith, e)

two_of_three : HoldIsAway (at Ended None) (WaitsAny third no_contacts (Some 42) (Some 3)) 2
unfolding any_closed any_open
two_of_three = record {
  closed_away = λ here. let e : false ≡ true = here in absurd cc;
  opened_away = λ here. let e : false ≡ true = here in absurd cc;
  until_away = λ some. (omega arith, λ before. omega (arith, before));
  left_away = omega arith;
}

-- the number of frames ends it
not_four_of_three : AreAway (at Ended None) third no_contacts None (Some 3) 4 → ⊥
not_four_of_three h = omega (arith, h.left_away)

fewer_are_left : hold_later 2 (WaitsAny third no_contacts (Some 42) (Some 3))
    ≡ WaitsAny third no_contacts (Some 42) (Some 1)
fewer_are_left = refl
