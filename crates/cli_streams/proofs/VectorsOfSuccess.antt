-- What statuses mean, in small cases: for each definition one in which it holds, and one in which it does not.
use Rattle.cli_streams.proofs.Words.{[], ◌∷◌, ◌≡◌, Done, Err, Faulty, ListensTo, NotWhole, Ok, PrintsFrame, Refused}
use Rattle.cli_streams.proofs.Words.{Heard, List, Some, ap, arith, check_status, damaged_more, heard_more, length}
use Rattle.cli_streams.proofs.Words.{listen_status, refl, true, unheard, ℕ}
use Rattle.fib_reader.specs.Listening.{untuned}
use Rattle.stream_monitor.specs.declared.line.Totals.{Totals}
use Rattle.stream_monitor.specs.declared.ending.Ending.TheVariants as endings
use Rattle.stream_monitor.specs.declared.line.Cause.TheVariants as causes

abbrev totals : Totals
totals = record { summary = record { frames = 1; skipped = 0; left_over = 0; damaged = 1 }; swaps = 0; faults = 1 }

a_fault : check_status (endings.Counted totals) ≡ Faulty
a_fault = refl

no_totals : check_status (endings.Refused causes.NoEnsemble) ≡ Refused
no_totals = refl

not_refused : listen_status (Ok unheard) ≡ Done
not_refused = refl

refused : listen_status (Err NotWhole) ≡ Refused
refused = refl

-- a frame of ETI, for a FIB; and a FIB that is not damaged behind it
abbrev eti : List ℕ
eti = 255 ∷ 7 ∷ 58 ∷ 182 ∷ []

abbrev of_eti : Heard
of_eti = damaged_more unheard eti

abbrev not_all_eti : Heard
not_all_eti = heard_more of_eti untuned

another_format : listen_status (Ok of_eti) ≡ Refused
another_format = refl

a_fib_behind_it : listen_status (Ok not_all_eti) ≡ Done
a_fib_behind_it = refl

-- damaged FIBs are counted, and only the first one may begin another format
only_damaged : listen_status (Ok (damaged_more unheard [])) ≡ Done
only_damaged = refl

not_the_first : listen_status (Ok (damaged_more (damaged_more unheard []) eti)) ≡ Done
not_the_first = refl

-- a stream without a FIB is decoded; a byte is none
no_fib : ListensTo (Some []) Done
no_fib = (Ok unheard, (refl, refl), refl)

a_byte : ListensTo (Some (7 ∷ [])) Refused
a_byte = (Err NotWhole, omega arith, refl)

bytes_are_written : PrintsFrame true (Ok (7 ∷ [])) (Some []) (Some (7 ∷ [])) Done
bytes_are_written = (refl, λ raw. refl)

other_bytes_are : PrintsFrame true (Ok (7 ∷ [])) (Some []) (Some []) Done → ⊥
other_bytes_are h = let len = ap length (h.1 refl) in absurd (omega (arith, len))
