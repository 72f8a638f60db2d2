-- Listeners to small codes: for each definition of listening, examples that hold and examples that fail.
use Rattle.plan_runs.proofs.Words.{[], ◌++◌, ◌+◌, ◌∷◌, ◌≡◌, Bool, CommitIn, Configuration, Edits, End, EnsembleIsHeard}
use Rattle.plan_runs.proofs.Words.{Frame, HasCount, HearsFib, I, II, IsNeverFull, IsPageable, IsPlayed, IsProgram}
use Rattle.plan_runs.proofs.Words.{IsSendable, IsTunedBy, Join, KnowsTheCurrent, KnowsTheNew, List, ListenersKnow}
use Rattle.plan_runs.proofs.Words.{Listening, Mode, None, Program, RateSub, Raw, Shows, Some, State, Whole, after_frame}
use Rattle.plan_runs.proofs.Words.{ap, arith, blank, code_under, ensemble_figs, false, fib_at, fig_of, figs_of}
use Rattle.plan_runs.proofs.Words.{first_under_is, frame_bytes, inl, inr, label, length, line, line_is, map, marked}
use Rattle.plan_runs.proofs.Words.{one_fib, one_sub, one_sub_is, page_is_fibs, page_set, pages_are_valid, refl, rules}
use Rattle.plan_runs.proofs.Words.{sub_at_rate, sub_entry, true, typed_if, untuned, with_sub, ℕ}
use Rattle.fib_reader.specs.declared.fault.FibFault.TheVariants.{Entry}
use Rattle.fib_reader.specs.Faults.{IsFibFault}
use Rattle.fib_codec.specs.Crc.{IsChecked}
use Rattle.fib_reader.proofs.FigFaults.{found_is_fault, no_fault}
use Rattle.fib_reader.specs.FirstFault.{entries_fault, figs_fault}
use Rattle.plan_runs.proofs.Samples.{start_at, in_range, starts_under, first_state, short_plan, ended, lowering}
use Rattle.plan_runs.proofs.Samples.{unflagged, flagged, unflagged_is, flagged_is}
use Rattle.plan_runs.proofs.Pictures.{whole_of}
use Rattle.plan_runs.proofs.Reached.{starts_are_reached}
use Rattle.plan_runs.proofs.Contents.{Laws}
use Rattle.plan_runs.proofs.CurrentKnown.{never_full, knows_the_current}
use Rattle.plan_runs.proofs.NewKnown.{knows_the_new}
use Rattle.plan_runs.proofs.Right.{page_laws}

-- lowers the rate of a sub-channel, and waits for the swap
abbrev lowers : Mode → Program
lowers mode = code_under (short_plan mode 12 20) one_sub (label 0 3 ∷ [])
    (line (Edits (RateSub 1 96)) ∷ line (CommitIn 12) ∷ line Join ∷ line End ∷ [])

abbrev first : ℕ → State
first count = first_state one_sub count

-- ---- playing the code

lowers_is : IsProgram (lowers II)
lowers_is =
    first_under_is (short_plan II 12 20) one_sub 3 (lowers II).lines (grind arith) one_sub_is (omega arith)
    (omega arith) (
      line_is (Edits (RateSub 1 96)) (omega arith, omega arith),
      (line_is (CommitIn 12) (omega arith, omega arith), (line_is Join tt, (line_is End tt, tt))),
    ) (omega arith)
    (omega arith)

played : IsPlayed (lowers II) (first 7)
played = record {
  program = lowers_is;
  typed = typed_if (lowers II) lowers_is refl;
  reached = starts_are_reached (lowers II) (start_at 7) (first 7) (in_range 7 (omega arith))
      (starts_under (short_plan II 12 20) one_sub (lowers II).lines 7 3);
}

-- ---- listeners to the code

information_heard : EnsembleIsHeard
information_heard = search rules

laws : Laws
laws = record { pages = page_laws; fibs = page_is_fibs; ensemble = information_heard }

never_full_of_it : IsNeverFull (lowers II) (first 7)
never_full_of_it = never_full laws (lowers II) (first 7) played

knows_the_rate : KnowsTheCurrent (lowers II) (first 7)
knows_the_rate = knows_the_current one_fib laws (lowers II) (first 7) played

knows_the_lower_rate : KnowsTheNew (lowers II) (first 7)
knows_the_lower_rate = knows_the_new one_fib laws (lowers II) (first 7) played

listeners_know : ListenersKnow (lowers II) (first 7)
listeners_know = record { room = never_full_of_it; current = knows_the_rate; after_swap = knows_the_lower_rate }

-- ---- FIG 0/0 is on every fourth count in mode I

count_of_8 : HasCount (lowers I) (first 7) (Frame ∷ Frame ∷ [])
count_of_8 = inr (inl refl)

tuned_by_8 : IsTunedBy (lowers I) (first 7) (Frame ∷ [])
tuned_by_8 = inr refl

not_tuned_by_10 : IsTunedBy (lowers I) (first 9) (Frame ∷ []) → ⊥
not_tuned_by_10 h = elim h [
  | inl heard ↦ elim heard [ inl first ↦ (let e : 1 ≡ 0 = first in omega (arith, e)) | inr none ↦ none ]
  | inr count ↦ (let e : 2 ≡ 0 = count in omega (arith, e))
]

-- ---- one FIB

sendable : (next : Bool) → IsSendable (marked next (sub_entry (sub_at_rate 96)))
sendable next = grind arith

current_sendable : IsSendable (marked false (sub_entry (sub_at_rate 128)))
current_sendable = grind arith

-- ---- a notice of an invalid configuration: two sub-channels with the same identifier

abbrev twice : Configuration
twice = record { subs = sub_at_rate 96 ∷ sub_at_rate 96 ∷ []; services = []; packets = [] }

abbrev over : Program
over = ended (short_plan II 1 20)

-- the swap comes in the next frame
abbrev announces : State
announces = record (lowering (Some 1) 7) { next = twice }

abbrev notice_frame : List ℕ
notice_frame = frame_bytes over announces

abbrev swap_frame : List ℕ
swap_frame = frame_bytes over (after_frame over announces)

noticed_is : IsPageable (Some (flagged 7 8)) (page_set (with_sub 128) (Some twice))
noticed_is = record {
  entries = (current_sendable, (sendable true, (sendable true, tt)));
  ensemble_within = flagged_is 7 8 (omega arith) (omega arith);
}

swapped_is : IsPageable (Some (unflagged 8)) (page_set twice None)
swapped_is = record { entries = (sendable false, (sendable false, tt)); ensemble_within = unflagged_is 8 (omega arith) }

-- a picture keeps only one of them
abbrev knows_both : Listening
knows_both = record { tuned = true; current = whole_of (with_sub 128); next = whole_of (with_sub 96); awaited = Some 8 }

abbrev knows_one : Listening
knows_one = record { tuned = true; current = whole_of (with_sub 96); next = blank; awaited = None }

hears_the_notice : HearsFib (fib_at notice_frame 0) untuned knows_both
hears_the_notice =
    let valid = (pages_are_valid (Whole II) (Some (flagged 7 8)) 0 (page_set (with_sub 128) (Some twice))
    noticed_is).0.0 in
    (map fig_of (ensemble_figs (Some (flagged 7 8)) ++ figs_of (page_set (with_sub 128) (Some twice))), valid.fib, refl)

nothing_in_the_second : HearsFib (fib_at notice_frame 1) knows_both knows_both
nothing_in_the_second =
    let valid = (pages_are_valid (Whole II) (Some (flagged 7 8)) 0 (page_set (with_sub 128) (Some twice))
    noticed_is).0.1.0 in
    ([], valid.fib, refl)

nothing_in_the_third : HearsFib (fib_at notice_frame 2) knows_both knows_both
nothing_in_the_third =
    let valid = (pages_are_valid (Whole II) (Some (flagged 7 8)) 0 (page_set (with_sub 128) (Some twice))
    noticed_is).0.1.1.0 in
    ([], valid.fib, refl)

hears_the_swap : HearsFib (fib_at swap_frame 0) knows_both knows_one
hears_the_swap =
    let valid = (pages_are_valid (Whole II) (Some (unflagged 8)) 0 (page_set twice None) swapped_is).0.0 in
    (map fig_of (ensemble_figs (Some (unflagged 8)) ++ figs_of (page_set twice None)), valid.fib, refl)

shows_one_of_two : Shows knows_one.current twice → ⊥
shows_one_of_two h = let e : 1 ≡ 2 = ap (λ (raws : List Raw). length raws) h in omega (arith, e)

never_known : KnowsTheNew over announces → ⊥
never_known h =
    shows_one_of_two
    (h [] (Frame ∷ []) (Frame ∷ []) 1 knows_one (inr refl) (refl, tt, refl) (refl, tt) (omega arith) (
      knows_both,
      hears_the_notice,
      (knows_both, nothing_in_the_second, (knows_both, nothing_in_the_third, (knows_one, hears_the_swap, refl))),
    ))

-- ---- a count that FIG 0/0 can't hold: its high part has 20 values

abbrev past_the_counts : State
past_the_counts = record announces { next = with_sub 128; left = None; count = 5000 }

abbrev unheard_frame : List ℕ
unheard_frame = frame_bytes over past_the_counts

its_fault : IsChecked (fib_at unheard_frame 0) → IsFibFault (fib_at unheard_frame 0) (Entry 2)
unfolding figs_fault entries_fault
its_fault checked = found_is_fault (fib_at unheard_frame 0) (Entry 2) checked refl

not_heard : IsNeverFull over past_the_counts → ⊥
not_heard h =
    let fib = (h (Frame ∷ [])).1.1 in
    no_fault (fib_at unheard_frame 0) fib.0 (Entry 2) fib.1 (its_fault fib.1.0)
