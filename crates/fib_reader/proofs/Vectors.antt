-- Examples of faults, ensemble information and order, computed by the checker from the definitions.
use Rattle.fib_reader.proofs.Words.{[], ◌*◌, ◌∷◌, ◌≡◌, AreInOrder, EnsembleInformation, Entry, IsEntryFault, IsKnownTo}
use Rattle.fib_reader.proofs.Words.{IsOverrun, Listening, None, Overrun, Raw, Some, arith, at_ensemble, ensemble_in}
use Rattle.fib_reader.proofs.Words.{false, identifier_of, inl, inr, is_made, refl, true, untuned, ℕ}
use Rattle.fib_reader.specs.FirstFault.{entries_fault, figs_fault}
use Rattle.fib_reader.proofs.FigFaults.{stands_first, data_given}

-- ---- faults

-- a header that announces 31 bytes, of which there are none
overrun_holds : IsOverrun (63 ∷ []) 0
overrun_holds = (63, [], stands_first 63 [] (λ e. omega arith), omega arith)

-- two FIGs of type 1 and length 0
overrun_fails : IsOverrun (32 ∷ 32 ∷ []) 1 → ⊥
unfolding figs_fault
overrun_fails h =
    let found : figs_fault 2 0 (32 ∷ 32 ∷ []) ≡ Some (Overrun 1) = data_given (32 ∷ 32 ∷ []) (Overrun 1) h in
    let none : figs_fault 2 0 (32 ∷ 32 ∷ []) ≡ None = refl in
    absurd (cc)

-- a FIG of type 0 without its second byte
bare_holds : IsEntryFault (0 ∷ []) 0
bare_holds = inl ([], stands_first 0 [] (λ e. omega arith))

-- a sub-channel in the short form
good_fails : IsEntryFault (4 ∷ 1 ∷ 4 ∷ 0 ∷ 5 ∷ 255 ∷ []) 2 → ⊥
unfolding figs_fault entries_fault
good_fails h =
    let found : figs_fault 6 0 (4 ∷ 1 ∷ 4 ∷ 0 ∷ 5 ∷ 255 ∷ []) ≡ Some (Entry 2) =
    data_given (4 ∷ 1 ∷ 4 ∷ 0 ∷ 5 ∷ 255 ∷ []) (Entry 2) h in
    let none : figs_fault 6 0 (4 ∷ 1 ∷ 4 ∷ 0 ∷ 5 ∷ 255 ∷ []) ≡ None = refl in
    absurd (cc)

-- ---- ensemble information

-- EId E1C5, both flags, count 4992, a swap at 16
abbrev noticed : Raw
noticed = record { ext = 0; long = false; bytes = 225 ∷ 197 ∷ 211 ∷ 242 ∷ 16 ∷ [] }

its_fields : ensemble_in noticed ≡ record { eid = 57797; change = 3; al = false; count = 4992; occurrence = Some 16 }
its_fields = refl

its_identifier : identifier_of noticed ≡ 57797
its_identifier = refl

abbrev told : ℕ → ℕ → EnsembleInformation
told change count = record { eid = 57797; change = change; al = false; count = count; occurrence = Some 28 }

its_count_has_come : is_made (Some 28) (told 1 278) ≡ true
its_count_has_come = refl

its_count_is_to_come : is_made (Some 28) (told 1 274) ≡ false
its_count_is_to_come = refl

abbrev after_notice : Listening
after_notice = at_ensemble (told 1 4) untuned

it_knows : IsKnownTo after_notice (told 1 8)
it_knows = record { tuned = refl; not_made = refl; awaits = λ flagged. refl }

it_does_not_know : IsKnownTo after_notice (told 1 28) → ⊥
it_does_not_know h = let made = h.not_made in absurd (cc)

-- ---- order

abbrev sub : ℕ → Raw
sub id = record { ext = 1; long = false; bytes = id * 4 ∷ 0 ∷ 5 ∷ [] }

abbrev service : ℕ → Raw
service low = record { ext = 2; long = false; bytes = 194 ∷ low ∷ 0 ∷ [] }

order_holds : AreInOrder (sub 7 ∷ service 1 ∷ service 2 ∷ [])
order_holds = (
  (inl (omega arith), (inl (omega arith), tt)),
  ((inr (refl, omega arith), tt), (tt, tt)),
)

services_first_fails : AreInOrder (service 1 ∷ sub 7 ∷ []) → ⊥
services_first_fails h = elim h.0.0 [
  | inl less ↦ omega arith
  | inr same ↦ (let is = same.0 in omega arith)
]
