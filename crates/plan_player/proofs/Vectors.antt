-- The state of a player and what a sink receives, for a code that waits for a frame and ends: examples that hold and
-- examples that fail for each definition.
use Rattle.plan_player.proofs.Words.{[], ◌++◌, ◌∷◌, ◌≡◌, End, Event, Frame, HasChange, HasPage, I, IsAtStart}
use Rattle.plan_player.proofs.Words.{KeepsChange, Kept, KeptPage, Line, List, None, Playing, Program, ShowsAs, Some}
use Rattle.plan_player.proofs.Words.{Start, State, Stopped, StoppedBy, Wait, Whole, ap, arith, code, first_state}
use Rattle.plan_player.proofs.Words.{frames_of, it_starts, label, last_steps, length, length-append, next_frame}
use Rattle.plan_player.proofs.Words.{nothing, page_bytes, played, played_bytes, refl, replicate, start_at, start_fault}
use Rattle.plan_player.proofs.Words.{take, ℕ}
use Rattle.plan_player.specs.declared.fault.StartFault.TheVariants.{Count, Day}
use Rattle.plan_player.specs.declared.fault.PlayFault.TheVariants.{Write}

-- ---- values shared by these vectors: an empty multiplex

abbrev lines : List Line
lines = record { number = 1; instr = Wait 1 } ∷ record { number = 2; instr = End } ∷ []

abbrev waits : Program
waits = code (label 0 1 ∷ []) lines

abbrev start : Start
start = start_at 0

abbrev first : State
first = first_state nothing 0

abbrev fresh : Playing
fresh = record { code = waits; state = first; steps = 0 }

abbrev frames : ℕ → List Event
frames n = replicate n Frame

-- ---- the start

in_range : start_fault start ≡ None
in_range = refl

-- of two faults, that of the count is reported
count_first : start_fault (record start { count = 5000; day = 3600000 }) ≡ Some Count
count_first = refl

day_alone : start_fault (record start { day = 3600000 }) ≡ Some Day
day_alone = refl

begins : IsAtStart waits start fresh
begins = record {
  code_is = refl;
  state_is = it_starts nothing lines 0 1;
  none_yet = refl;
}

-- with an instruction although no frame was executed
begins_with_a_step : IsAtStart waits start (record fresh { steps = 1 }) → ⊥
begins_with_a_step h = let e : 1 ≡ 0 = h.none_yet in omega (arith, e)

-- ---- the instructions of the last frame

waits_in_the_first : last_steps waits first 0 (frames 1) ≡ 1
waits_in_the_first = refl

none_in_the_third : last_steps waits first 0 (frames 3) ≡ 0
none_in_the_third = refl

-- ---- a sink that takes 100 bytes of three frames

abbrev taken : List ℕ
taken = played_bytes fresh (frames 1) ++ take 4 (next_frame (played fresh (frames 1)))

hundred_bytes : length taken ≡ 100
hundred_bytes = refl

stops_in_the_second : Stopped fresh (played fresh (frames 2)) (frames 3) (Some []) (Some taken) 1 4
stops_in_the_second = record {
  done = frames 1;
  rest = frames 1;
  cut = refl;
  whole = refl;
  part = omega arith;
  state = refl;
  out = refl;
}

told_so : StoppedBy fresh (played fresh (frames 2)) (frames 3) (Some []) (Some taken) (Write 1 4)
told_so = stops_in_the_second

-- ---- what is not such a stop

-- a single frame can only be cut with no event before it
nothing_done : (done rest : List Event) → Frame ∷ [] ≡ done ++ Frame ∷ rest → done ≡ []
nothing_done [] rest e = refl
nothing_done (d ∷ done) rest e =
    let n : 1 ≡ length (d ∷ done ++ Frame ∷ rest) = ap length e in
    absurd (omega (arith, n, length-append done (Frame ∷ rest)))

contacts_alone : Stopped fresh fresh [] (Some []) (Some []) 0 0 → ⊥
contacts_alone h =
    let n : 0 ≡ length (h.done ++ Frame ∷ h.rest) = ap length h.cut in
    omega (arith, n, length-append h.done (Frame ∷ h.rest))

told_of_too_many : StoppedBy fresh (played fresh (frames 1)) (frames 1) (Some []) (Some []) (Write 1 0) → ⊥
told_of_too_many h =
    let none : 1 ≡ length (frames_of fresh h.done) = h.whole in
    let same : length (frames_of fresh h.done) ≡ 0 = rw (nothing_done h.done h.rest h.cut) refl in
    omega (arith, none, same)

-- ---- the change flags of a notice of 24 frames that changes nothing

first_of_a_notice : HasChange 24 (Some 24) nothing nothing 0
first_of_a_notice = λ noticed. refl

other_flags : HasChange 24 (Some 24) nothing nothing 1 → ⊥
other_flags h = let e : 1 ≡ 0 = h refl in omega (arith, e)

-- before the notice any change flags will do
before_a_notice : KeepsChange 24 (Some 24) nothing nothing 1
before_a_notice = λ less. omega (arith, less)

in_a_notice : KeepsChange 24 (Some 23) nothing nothing 1 → ⊥
in_a_notice h = let e : 1 ≡ 0 = h (omega arith) in omega (arith, e)

-- ---- kept pages

abbrev kept : KeptPage
kept = record { plain = page_bytes (Whole I) None 0 [] }

holds_page_0 : HasPage (Whole I) [] 0 (Some kept ∷ [])
holds_page_0 = record { page = kept; held = refl; kept = record { plain = refl; sendable = tt } }

no_page_1 : HasPage (Whole I) [] 1 (Some kept ∷ []) → ⊥
no_page_1 h = let e : None ≡ Some (Some h.page) = h.held in absurd cc

shows_page_0 : ShowsAs (Kept 0) (Some kept ∷ []) [] (page_bytes (Whole I) None 0 [])
shows_page_0 = (kept, refl, refl)

shows_no_page_1 : ShowsAs (Kept 1) (Some kept ∷ []) [] (page_bytes (Whole I) None 0 []) → ⊥
shows_no_page_1 h = let e : None ≡ Some (Some h.0) = h.1 in absurd cc
