-- A FIB of the plan with FIGs behind its own, in the grammar.
use Rattle.fig_merge.proofs.Words.{[], ◌++◌, ◌+◌, ◌-◌, ◌∙◌, ◌∷◌, ◌≡◌, ◌≤◌, AllByRecursion, AreFigs, Bool, Fig, IsFib}
use Rattle.fig_merge.proofs.Words.{IsFig, IsPassedOver, IsSendable, List, Listening, Open, Other, agrees_with, ap}
use Rattle.fig_merge.proofs.Words.{append-nil, append_assoc, arith, carried_in, carried_of, cases_lt, checked_is}
use Rattle.fig_merge.proofs.Words.{concat, cond, cond-false, cond-true, data_of, false, fig_spelled, filled, filled_fib}
use Rattle.fig_merge.proofs.Words.{inl, inr, le-ltb, leb, leb-true, left_waiting, length, length-append, length-take}
use Rattle.fig_merge.proofs.Words.{lt-ltb, ltb, map, refl, replicate, room_after, room_of, subst, suc, sym, take}
use Rattle.fig_merge.proofs.Words.{take-take, take_at, true, turns_in, ℕ}
use Rattle.fib_codec.proofs.Finished.{length-filled}
use Rattle.fib_reader.proofs.FigLists.{spelled_fig}
use Rattle.fib_reader.proofs.Places.{front_of_figs}

-- ---- FIGs, and then others
figs_then : (bytes tail : List ℕ) (figs more : List Fig) → AreFigs bytes figs → AreFigs tail more
    → AreFigs (data_of figs ++ tail) (figs ++ more)
figs_then bytes tail [] more h then = then
figs_then bytes tail (f ∷ fs) more h then = (
  fig_spelled f,
  data_of fs ++ tail,
  append_assoc (fig_spelled f) (data_of fs) tail,
  rw (← spelled_fig h.0 f h.3) h.3,
  figs_then h.1 tail fs more h.4 then,
)

others_then : (figs : List (List ℕ)) (tail : List ℕ) → AllByRecursion IsPassedOver figs → AreFigs tail []
    → AreFigs (concat figs ++ tail) (map Other figs)
others_then [] tail all ends = ends
others_then (fig ∷ figs) tail all ends =
    (fig, concat figs ++ tail, append_assoc fig (concat figs) tail, (refl, all.0.0), others_then figs tail all.1 ends)

-- ---- those that are carried
carried_by_case : (P : List ℕ → Type 0) (fits : Bool) (fig : List ℕ) (there gone : List (List ℕ)) → P fig
    → AllByRecursion P there → AllByRecursion P gone
    → AllByRecursion P (cond fits (fig ∷ there) gone)
carried_by_case P true fig there gone one all none = (one, all)
carried_by_case P false fig there gone one all none = none

pub all_turns_of : (P : List ℕ → Type 0) (ok : List ℕ → Bool) (room : ℕ) (waiting : List (List ℕ))
    → AllByRecursion P waiting → AllByRecursion P (turns_in ok room waiting)
all_turns_of P ok room [] all = tt
all_turns_of P ok room (fig ∷ figs) all =
    carried_by_case P (leb (length fig) room) fig (turns_in ok (room_after ok room fig) figs) (turns_in ok room figs)
    all.0
    (all_turns_of P ok (room_after ok room fig) figs all.1) (all_turns_of P ok room figs all.1)

pub all_carried_of : (P : List ℕ → Type 0) (ok : List ℕ → Bool) (turns : List (List ℕ)) → AllByRecursion P turns
    → AllByRecursion P (carried_of ok turns)
all_carried_of P ok [] all = tt
all_carried_of P ok (fig ∷ figs) all =
    carried_by_case _ _ _ _ _ all.0 (all_carried_of P ok figs all.1) (all_carried_of P ok figs all.1)

pub all_carried : (P : List ℕ → Type 0) (ok : List ℕ → Bool) (room : ℕ) (waiting : List (List ℕ))
    → AllByRecursion P waiting → AllByRecursion P (carried_in ok room waiting)
all_carried P ok room waiting all = all_carried_of P ok (turns_in ok room waiting) (all_turns_of P ok room waiting all)

-- those that are carried agree
agree_by_case : (ok : List ℕ → Bool) (b : Bool) (fig : List ℕ) (rest : List (List ℕ)) → ok fig ≡ b
    → AllByRecursion (λ x. ok x ≡ true) rest → AllByRecursion (λ x. ok x ≡ true) (cond b (fig ∷ rest) rest)
agree_by_case ok true fig rest is all = (is, all)
agree_by_case ok false fig rest is all = all

pub all_agree : (ok : List ℕ → Bool) (turns : List (List ℕ)) → AllByRecursion (λ x. ok x ≡ true) (carried_of ok turns)
all_agree ok [] = tt
all_agree ok (fig ∷ figs) = agree_by_case ok (ok fig) fig (carried_of ok figs) refl (all_agree ok figs)

left_by_case : (P : List ℕ → Type 0) (fits : Bool) (fig : List ℕ) (there gone : List (List ℕ)) → P fig
    → AllByRecursion P there → AllByRecursion P gone
    → AllByRecursion P (cond fits there (fig ∷ gone))
left_by_case P true fig there gone one all none = all
left_by_case P false fig there gone one all none = (one, none)

pub all_left : (P : List ℕ → Type 0) (ok : List ℕ → Bool) (room : ℕ) (waiting : List (List ℕ))
    → AllByRecursion P waiting → AllByRecursion P (left_waiting ok room waiting)
all_left P ok room [] all = tt
all_left P ok room (fig ∷ figs) all =
    left_by_case _ _ _ _ _ all.0 (all_left P ok (room_after ok room fig) figs all.1) (all_left P ok room figs all.1)

few_by_case : (fits : Bool) (fig : List ℕ) (there gone : List (List ℕ)) (n : ℕ) → length there ≤ n → length gone ≤ n
    → length (cond fits there (fig ∷ gone)) ≤ suc n
few_by_case true fig there gone n few more = omega (arith, few)
few_by_case false fig there gone n few more = omega (arith, more)

pub few_left : (ok : List ℕ → Bool) (room : ℕ) (waiting : List (List ℕ))
    → length (left_waiting ok room waiting) ≤ length waiting
few_left ok room [] = omega arith
few_left ok room (fig ∷ figs) =
    few_by_case _ _ _ _ _ (few_left ok (room_after ok room fig) figs) (few_left ok room figs)

fits_by_case : (ok : List ℕ → Bool) (agrees fits : Bool) (room : ℕ) (fig : List ℕ) (there gone : List (List ℕ))
    → ok fig ≡ agrees → leb (length fig) room ≡ fits
    → length (concat (carried_of ok there)) ≤ cond agrees (room - length fig) room
    → length (concat (carried_of ok gone)) ≤ room
    → length (concat (carried_of ok (cond fits (fig ∷ there) gone))) ≤ room
fits_by_case ok true true room fig there gone so is short others =
    let here : carried_of ok (fig ∷ there) ≡ fig ∷ carried_of ok there = rw (so) refl in
    let all : length (concat (carried_of ok (fig ∷ there))) ≡ length (fig ++ concat (carried_of ok there)) =
    rw (here) refl in
    omega (arith, all, length-append fig (concat (carried_of ok there)), leb-true (length fig) room is, short)
fits_by_case ok false true room fig there gone so is short others =
    let here : carried_of ok (fig ∷ there) ≡ carried_of ok there = rw (so) refl in
    let all : length (concat (carried_of ok (fig ∷ there))) ≡ length (concat (carried_of ok there)) = rw (here) refl in
    omega (arith, all, short)
fits_by_case ok agrees false room fig there gone so is short others = others

pub carried_fit : (ok : List ℕ → Bool) (room : ℕ) (waiting : List (List ℕ))
    → length (concat (carried_in ok room waiting)) ≤ room
carried_fit ok room [] = omega arith
carried_fit ok room (fig ∷ figs) =
    fits_by_case _ _ _ _ _ _ _ refl refl (carried_fit ok (room_after ok room fig) figs) (carried_fit ok room figs)

-- ---- the data bytes of a FIB
pub data_short : (bytes : List ℕ) (figs : List Fig) → IsFib bytes figs → length (data_of figs) ≤ 30
data_short bytes figs h =
    let front = front_of_figs (take 30 bytes) figs h.1 in
    omega (arith, ap length front.1 ∙ length-append (data_of figs) front.0, length-take 30 bytes)

pub data_front : (bytes : List ℕ) (figs : List Fig) → IsFib bytes figs
    → take (length (data_of figs)) bytes ≡ data_of figs
data_front bytes figs h =
    let front = front_of_figs (take 30 bytes) figs h.1 in
    sym (take-take (length (data_of figs)) 30 bytes (data_short bytes figs h))
    ∙ ap (take (length (data_of figs))) front.1 ∙ take_at (data_of figs) front.0 (length (data_of figs)) refl

-- ---- the whole FIB
ends_filled : (figs : List Fig) (ok : List ℕ → Bool) (waiting : List (List ℕ)) (all : List ℕ) → all ≡ data_of figs
    ++ concat (carried_in ok (room_of figs) waiting)
    → (bytes : List ℕ) → AreFigs bytes figs → AllByRecursion IsPassedOver waiting
    → AreFigs (filled all) (figs ++ map Other (carried_in ok (room_of figs) waiting))
ends_filled figs ok waiting all is bytes h passed =
    let more = carried_in ok (room_of figs) waiting in
    let marker : List ℕ = 255 ∷ replicate (29 - length all) 0 in
    let each = all_carried IsPassedOver ok (room_of figs) waiting passed in
    let goal : (tail : List ℕ) → AreFigs tail [] → AreFigs (all ++ tail) (figs ++ map Other more) =
    λ tail ends. subst (λ (xs : List ℕ). AreFigs xs (figs ++ map Other more))
    (rw (is) (sym (append_assoc (data_of figs) (concat more) tail)))
    (figs_then bytes (concat more ++ tail) figs (map Other more) h (others_then more tail each ends)) in
    elim (cases_lt (length all) 30) [
      | inl lt ↦ subst (λ (xs : List ℕ). AreFigs xs (figs ++ map Other more))
          (sym (cond-true (ltb (length all) 30) (all ++ marker) all (lt-ltb _ _ lt)))
          (goal marker (inr (replicate (29 - length all) 0, refl)))
      | inr ge ↦ subst (λ (xs : List ℕ). AreFigs xs (figs ++ map Other more))
          (append-nil all ∙ sym (cond-false (ltb (length all) 30) (all ++ marker) all (le-ltb _ _ ge)))
          (goal [] (inl refl))
    ]

pub filled_is : (bytes : List ℕ) (figs : List Fig) (l : Listening) (waiting : List (List ℕ)) → IsFib bytes figs
    → AllByRecursion IsPassedOver waiting
    → IsFib (filled_fib figs l waiting) (figs ++ map Other (carried_in (agrees_with figs l) (room_of figs) waiting))
filled_is bytes figs l waiting h passed =
    let ok = agrees_with figs l in
    let more = carried_in ok (room_of figs) waiting in
    let all = data_of figs ++ concat more in
    let short : length all ≤ 30 =
    omega (
      arith,
      length-append (data_of figs) (concat more),
      data_short bytes figs h,
      carried_fit ok (room_of figs) waiting,
    ) in
    let long : length (filled all) ≡ 30 = length-filled all short in (
      checked_is (filled all) long,
      subst (λ (xs : List ℕ). AreFigs xs (figs ++ map Other more)) (sym (take_at (filled all) _ 30 long))
          (ends_filled figs ok waiting all refl (take 30 bytes) h.1 passed),
    )

-- ---- the FIGs of a FIB are passed over, if they are not left out
send_one : (bytes : List ℕ) (f : Fig) → IsFig bytes f → length bytes ≤ 30 → IsSendable f
send_one bytes (Open second es) h short = λ kept. absurd cc
send_one bytes (Other given) h short =
    λ kept. subst (λ (xs : List ℕ). IsPassedOver xs) (sym h.0) (h.1, short)

send_all : (bytes : List ℕ) (figs : List Fig) → AreFigs bytes figs → length bytes ≤ 30 → AllByRecursion IsSendable figs
send_all bytes [] h short = tt
send_all bytes (f ∷ fs) h short =
    let size : length bytes ≡ length h.0 + length h.1 = rw (h.2) (length-append h.0 h.1) in
    (send_one h.0 f h.3 (omega (arith, size, short)), send_all h.1 fs h.4 (omega (arith, size, short)))

pub sendable : (bytes : List ℕ) (figs : List Fig) → IsFib bytes figs → AllByRecursion IsSendable figs
sendable bytes figs h = send_all (take 30 bytes) figs h.1 (omega (arith, length-take 30 bytes))
