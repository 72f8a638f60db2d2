-- The terms of the laws in small cases, computed by the checker from the definitions: examples that hold and that fail.
use Rattle.stream_laws.proofs.Words.{[], ◌%◌, ◌*◌, ◌++◌, ◌<◌, ◌==◌, ◌∙◌, ◌∷◌, ◌≡◌, All, AllByRecursion, AnnouncesChange}
use Rattle.stream_laws.proofs.Words.{AreCounted, AreFibBytes, AreFrames, Bool, EnsembleInformation, Fault, Fib}
use Rattle.stream_laws.proofs.Words.{FibHas32Bytes, Finding, Frame, II, IsAtCount, IsByte, IsCleared, IsCutOf}
use Rattle.stream_laws.proofs.Words.{IsEnsembleHeardInRow, IsFibBytes, IsFrameOfCount, IsFreeOf, IsFreeUnlessShort}
use Rattle.stream_laws.proofs.Words.{IsHeardOut, IsLongFor, IsNoFault, IsPieceOf, IsSaidIn, IsSent, IsSentWhole, Item}
use Rattle.stream_laws.proofs.Words.{List, Mode, Moment, Program, Raw, Reading, RunIsFree, RunOn, Some, State, Whole}
use Rattle.stream_laws.proofs.Words.{ap, arith, blank, cond, count_step, drop, due_after_first, due_frames, entry_at}
use Rattle.stream_laws.proofs.Words.{entry_like, false, false≢true, fib_at, fib_count, findings_of, flat_map}
use Rattle.stream_laws.proofs.Words.{frames_full, frames_of, identifier_of, is_due, is_of_appearance, is_of_flags}
use Rattle.stream_laws.proofs.Words.{is_of_frame, is_of_mention, is_of_period, is_of_repetition, is_of_silence}
use Rattle.stream_laws.proofs.Words.{is_of_times, is_of_word, length, map, no_flat, refl, replicate, slice_get, subst}
use Rattle.stream_laws.proofs.Words.{suc, swap_frames, sym, take, true, zero, ℕ}
use Rattle.stream_check.specs.Following.{Checking, Follows}
use Rattle.stream_check.specs.declared.contradiction.Contradiction.TheVariants.{NotWhole}
use Rattle.stream_check.specs.declared.finding.What.TheVariants as whats
use Rattle.stream_check.specs.declared.finding.EntryName.TheVariants as names
use Rattle.stream_check.specs.declared.finding.Fault.TheVariants as faults
use Rattle.stream_check.specs.declared.finding.StreamEvent.TheVariants as named_events
use Rattle.stream_laws.proofs.Delivered.{all_of}

-- ---- counts

heard_nowhere : FibHas32Bytes → (next : Bool) (e : EnsembleInformation) → IsEnsembleHeardInRow [] next e → ⊥
heard_nowhere size next e h =
    let bytes : fib_at [] h.0 ≡ [] = ap (λ (bs : List ℕ). take 32 bs) (none (32 * h.0)) in
    let wrong : 0 ≡ 32 = sym (ap length bytes) ∙ size (fib_at [] h.0) h.1.0 h.1.2 in
    omega (arith, wrong)
  where
    none : (n : ℕ) → drop {A = ℕ} n [] ≡ []
    none zero = refl
    none (suc n) = refl

-- a frame of no bytes has no FIG 0/0: as it has to be at count 1, and not at count 4
off_the_step : FibHas32Bytes → IsFrameOfCount 4 7 1 []
off_the_step size = record {
  there = λ on. absurd (omega (arith, on));
  only = λ next e h. absurd (heard_nowhere size next e h);
}

on_the_step : FibHas32Bytes → IsFrameOfCount 4 7 4 [] → ⊥
on_the_step size c = (let header = c.there refl in heard_nowhere size false header.0 header.1)

three_frames : FibHas32Bytes → AreCounted 4 7 4997 ([] ∷ [] ∷ [] ∷ [])
three_frames size = (
  off 4997 (λ on. omega (arith, on)),
  (off 4998 (λ on. omega (arith, on)), (off 4999 (λ on. omega (arith, on)), tt)),
)
  where
    off : (count : ℕ) → (count % 4 ≡ 0 → ⊥) → IsFrameOfCount 4 7 count []
    off count never = record {
      there = λ on. absurd (never on);
      only = λ next e h. absurd (heard_nowhere size next e h);
    }

-- after 4999 comes 0
the_next_is_zero : FibHas32Bytes → AreCounted 4 7 4999 ([] ∷ [] ∷ []) → ⊥
the_next_is_zero size c = (let header = c.1.0.there refl in heard_nowhere size false header.0 header.1)

-- in a stream, too
no_header : FibHas32Bytes → (eid count : ℕ) → (count % 4 ≡ 0 → ⊥) → IsAtCount 4 eid count []
no_header size eid count never =
    record { there = λ on. absurd (never on); only = λ next e h. absurd (heard_nowhere size next e h) }

a_header_is_due : FibHas32Bytes → IsAtCount 4 7 4 [] → ⊥
a_header_is_due size c = (let header = c.there refl in heard_nowhere size header.0 header.1 header.2)

two_run_on : FibHas32Bytes → RunOn 4 7 4998 ([] ∷ [] ∷ [])
two_run_on size = (
  no_header size 7 4998 (λ on. omega (arith, on)),
  (no_header size 7 4999 (λ on. omega (arith, on)), tt),
)

zero_follows : FibHas32Bytes → RunOn 4 7 4999 ([] ∷ [] ∷ []) → ⊥
zero_follows size c = (let header = c.1.0.there refl in heard_nowhere size header.0 header.1 header.2)

-- ---- pieces

first_fib : IsPieceOf (replicate 32 0 ++ replicate 32 1) (replicate 32 0 ∷ [])
first_fib = record { before = []; after = replicate 32 1; whole = refl; starts = refl; sizes = (refl, tt) }

no_fib : IsPieceOf (1 ∷ []) ((1 ∷ []) ∷ []) → ⊥
no_fib p = (let wrong : 1 ≡ 32 = p.sizes.0 in omega (arith, wrong))

-- ---- what is reported

nothing_given : (r : Reading) (mode : Mode) (period : ℕ) → IsCleared r mode period []
nothing_given r mode period = record {
  room = λ start reported e.
      let none = no_frames e.skipped e.frames e.rest e.framed.cut (sym e.framed.whole) in
      false≢true (sym (ap (frames_full (count_step mode) period []) none) ∙ e.full);
  events = λ start reported c f. no_faults f.skipped f.frames (map r.read c.held) f.framed.cut (sym f.framed.whole);
  plain = λ found c f. subst (AllByRecursion (λ (one : Finding). IsNoFault one.what)) (sym (all_of found _ f.findings))
      (no_faults f.skipped f.frames (map r.read c.held) f.framed.cut (sym f.framed.whole));
}
  where
    no_frames : (skipped : List Fib) (frames : List (List Fib)) (rest : List Fib)
        → AreFrames (fib_count mode) frames rest → skipped ++ (flat_map (λ f. f) frames ++ rest) ≡ [] → frames ≡ []
    no_frames [] frames rest cut e = no_flat (fib_count mode) frames rest cut e
    no_frames (x ∷ xs) frames rest cut e = absurd cc

    no_faults : (skipped : List Fib) (frames : List (List Fib)) (rest : List Fib)
        → AreFrames (fib_count mode) frames rest → skipped ++ (flat_map (λ f. f) frames ++ rest) ≡ []
        → AllByRecursion (λ (one : Finding). IsNoFault one.what)
        (findings_of (fib_count mode) (count_step mode) period [] frames)
    no_faults skipped frames rest cut e =
        subst (λ fs. AllByRecursion (λ (one : Finding). IsNoFault one.what)
        (findings_of (fib_count mode) (count_step mode) period [] fs)) (sym (no_frames skipped frames rest cut e)) tt

a_fault_reported : (r : Reading) (mode : Mode) (period : ℕ) (fibs : List (List ℕ)) (frame count : ℕ) (fault : Fault)
    (c : Checking)
    → Follows r mode period (map r.read fibs) (All [])
    (All (record { frame = frame; count = count; what = whats.Fault fault } ∷ [])) c
    → IsCleared r mode period fibs → ⊥
a_fault_reported r mode period fibs frame count fault c f cleared =
    (cleared.plain (record { frame = frame; count = count; what = whats.Fault fault } ∷ []) c f).0

-- without events nothing is skipped, heard or left over
nothing_heard : (r : Reading) (p : Program) (s : State) → IsHeardOut r p s [] [] [] [] []
nothing_heard r p s = record { skips = refl; frames_are = refl; undamaged = refl; none_left = refl }

one_left : (r : Reading) (p : Program) (s : State) → IsHeardOut r p s [] [] [] [] ([] ∷ []) → ⊥
one_left r p s h = no_list h.none_left
  where
    no_list : ◌≡◌ {A = List (List ℕ)} ([] ∷ []) [] → ⊥
    no_list e = absurd cc

-- ---- entries, FIBs and frames

said_nowhere : (past : List Moment) (i : Item) → IsSaidIn 1 [] past i → ⊥
said_nowhere past i s = none s.before s.frame s.after s.frames_are
  where
    none : (before : List (List Fib)) (frame : List Fib) (after : List (List Fib)) → [] ≡ before ++ frame ∷ after → ⊥
    none [] frame after e = absurd cc
    none (x ∷ xs) frame after e = absurd cc

zeros : (n : ℕ) → AllByRecursion IsByte (replicate n 0)
zeros zero = tt
zeros (suc n) = (omega arith, zeros n)

a_fib : IsFibBytes (replicate 32 0)
a_fib = (refl, zeros 32)

too_great : IsFibBytes (256 ∷ replicate 31 0) → ⊥
too_great h = (let small : 256 < 256 = h.1.0 in omega (arith, small))

no_fibs : AreFibBytes []
no_fibs = tt

nothing_cut : (r : Reading) → IsCutOf r [] [] [] []
nothing_cut r = record { before = []; bytes = []; after = []; whole = refl; skips = refl; reads = refl; leaves = refl }

more_than_given : (r : Reading) (fib : Fib) → IsCutOf r [] (fib ∷ []) [] [] → ⊥
more_than_given r fib c = none c.before c.whole c.skips
  where
    none : (before : List (List ℕ)) → [] ≡ before ++ (flat_map (λ frame. frame) c.bytes ++ c.after)
        → map r.read before ≡ fib ∷ [] → ⊥
    none [] whole skips = absurd cc
    none (b ∷ bs) whole skips = absurd cc

a_frame : frames_of (Whole II) ((1 ∷ 2 ∷ []) ∷ []) ≡ ((1 ∷ 2 ∷ []) ∷ [] ∷ [] ∷ []) ∷ []
a_frame = refl

-- ---- announcements

sent_nowhere : FibHas32Bytes → (raw : Raw) → IsSent true [] raw → ⊥
sent_nowhere size raw s =
    let bytes : fib_at [] s.place ≡ [] = empty s.place in
    let wrong : 0 ≡ 32 = sym (ap length bytes) ∙ size (fib_at [] s.place) s.figs s.is_fib in
    omega (arith, wrong)
  where
    none : (n : ℕ) → drop {A = ℕ} n [] ≡ []
    none zero = refl
    none (suc n) = refl

    empty : (place : ℕ) → fib_at [] place ≡ []
    empty place = ap (λ (bs : List ℕ). take 32 bs) (none (32 * place))

-- an empty picture is sent even by no frames
blank_sent : IsSentWhole blank []
blank_sent raw known = absurd (nothing raw known)
  where
    nothing : (raw : Raw) → entry_like raw blank ≡ Some raw → ⊥
    nothing raw known = elim (raw.ext == 1)
        as (λ t. entry_at identifier_of (identifier_of raw) (cond t [] (cond (raw.ext == 2) [] [])) ≡ Some raw → ⊥) [
          | true ↦ λ k. absurd cc
          | false ↦ elim (raw.ext == 2) as (λ t. entry_at identifier_of (identifier_of raw) (cond t [] []) ≡ Some raw
              → ⊥)
              [ true ↦ λ k. absurd cc | false ↦ λ k. absurd cc ]
        ] known

-- but without frames no change is announced
not_announced : AnnouncesChange blank blank 0 [] → ⊥
not_announced a = none a.headers.first a.headers.in_first.1
  where
    none : (place : ℕ) {frame : List ℕ} → slice_get [] place ≡ Some frame → ⊥
    none zero e = absurd cc
    none (suc n) e = absurd cc

-- ---- faults and names

out_of_place : is_of_frame faults.OutOfPlace ≡ true
out_of_place = refl

not_of_frames : is_of_frame (faults.Flags 1 2) ≡ false
not_of_frames = refl

of_words : is_of_word (faults.AnnouncedAgain 1 2) ≡ true
of_words = refl

not_of_words : is_of_word (faults.ShortFrame 2) ≡ false
not_of_words = refl

too_soon : is_of_times (faults.AnnouncedTimes 2) ≡ true
too_soon = refl

not_of_times : is_of_times (faults.NextHeard 2) ≡ false
not_of_times = refl

timely : IsFreeOf is_of_times (whats.Fault (faults.NextHeard 2))
timely = refl

not_timely : IsFreeOf is_of_times (whats.Fault (faults.AnnouncedTimes 2)) → ⊥
not_timely h = absurd cc

other_flags : is_of_flags (faults.Flags 1 2) ≡ true
other_flags = refl

not_of_flags : is_of_flags (faults.AnnouncedTimes 2) ≡ false
not_of_flags = refl

absent_is_of_mention : is_of_mention (faults.Contradicts (NotWhole 8)) ≡ true
absent_is_of_mention = refl

silence_is_not_of_mention : is_of_mention (faults.Silent (names.Sub 1)) ≡ false
silence_is_not_of_mention = refl

silent : is_of_silence (faults.Silent (names.Sub 3)) ≡ true
silent = refl

not_silent : is_of_silence (faults.Appeared (names.Sub 3)) ≡ false
not_silent = refl

appeared : is_of_appearance (faults.Appeared (names.Sub 3)) ≡ true
appeared = refl

not_appeared : is_of_appearance (faults.Silent (names.Sub 3)) ≡ false
not_appeared = refl

too_seldom : is_of_repetition (faults.NextHeard 2) ≡ true
too_seldom = refl

not_too_seldom : is_of_repetition (faults.AnnouncedTimes 2) ≡ false
not_too_seldom = refl

of_period : is_of_period (faults.Silent (names.Sub 3)) ≡ true
of_period = refl

not_of_period : is_of_period (faults.Count 7) ≡ false
not_of_period = refl

-- a plan of period 4 is heard whole in any 7 frames
long_for_four : (p : Program) → p.plan.period ≡ 4 → IsLongFor p 7
long_for_four p four = omega (arith, four)

not_long_for_four : (p : Program) → p.plan.period ≡ 4 → IsLongFor p 6 → ⊥
not_long_for_four p four long = omega (arith, four, long)

-- no frames have no findings
free_without_frames : (r : Reading) (p : Program) (s : State) → RunIsFree r p s 7 []
free_without_frames r p s = record { room = refl; plain = tt }

-- a fault is found only if it depends on the period, and that is short
silent_if_short : IsFreeUnlessShort ⊥ (whats.Fault (faults.Silent (names.Sub 3)))
silent_if_short = (refl, λ long. long)

not_silent_if_long : IsFreeUnlessShort (Unit {0}) (whats.Fault (faults.Silent (names.Sub 3))) → ⊥
not_silent_if_long h = h.1 tt

abbrev swap_in : ℕ → Finding
swap_in frame = record { frame = frame; count = 0; what = whats.Event named_events.Swap }

abbrev announced_in : ℕ → Finding
announced_in frame = record { frame = frame; count = 0; what = whats.Event (named_events.Announced 1 28) }

two_swaps : swap_frames (announced_in 1 ∷ swap_in 5 ∷ announced_in 5 ∷ swap_in 9 ∷ []) ≡ 5 ∷ 9 ∷ []
two_swaps = refl

due_now : (p : Program) (s : State) → is_due s.left ≡ true → due_frames p 3 s (Frame ∷ []) ≡ 3 ∷ []
due_now p s e = ap (λ t. cond t (3 ∷ []) []) e

not_due : (p : Program) (s : State) → is_due s.left ≡ false → due_frames p 3 s (Frame ∷ []) ≡ []
not_due p s e = ap (λ t. cond t (3 ∷ []) []) e

first_is_none : (p : Program) (s : State) → due_after_first p s (Frame ∷ []) ≡ []
first_is_none p s = refl
