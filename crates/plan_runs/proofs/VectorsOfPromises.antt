-- The guarantees of typed codes: for a small code they hold; for an untyped code, or a state that no run reaches, they
-- fail.
use Rattle.plan_runs.proofs.Words.{[], ◌<◌, ◌∷◌, ◌≡◌, AlwaysRuns, Contact, EnsembleInformation, EnsembleOf, Event, Fig}
use Rattle.plan_runs.proofs.Words.{Frame, FrameIsRight, FramesAreRight, IsHeardEachPeriod, IsHeardInSome, IsInFig}
use Rattle.plan_runs.proofs.Words.{IsOneBurst, List, MeetsGuarantees, Open, Other, RunsWell, State, after_burst, arith}
use Rattle.plan_runs.proofs.Words.{false, marked, plan, ready, refl, sub_at_rate, sub_entry, true}
use Rattle.plan_runs.proofs.Bursts.{bursts_are_one}
use Rattle.plan_runs.proofs.TypedRuns.{typed_code_runs}
use Rattle.plan_runs.proofs.Announcing.{swaps_are_announced}
use Rattle.plan_runs.proofs.Periods.{periods_are_whole}
use Rattle.plan_runs.proofs.Headline.{frames_are_right, headline_holds}
use Rattle.plan_runs.proofs.VectorsOfRuns.{waits, joins, first, second, played, frame_traps, one_instruction}
use Rattle.plan_runs.proofs.Right.{page_laws}

-- a frame, a contact that closes, and a frame
abbrev events : List Event
events = Frame ∷ Contact 3 true ∷ Frame ∷ []

-- ---- the instructions of a frame

one_wait : IsOneBurst waits (ready first) 1 (after_burst waits first)
one_wait = bursts_are_one waits (ready first) 1 (after_burst waits first) one_instruction

not_none : IsOneBurst waits (ready first) 0 (ready first) → ⊥
not_none h = let e : 1 ≡ 0 = (h.only 1 (after_burst waits first) one_instruction).0 in omega (arith, e)

-- ---- no trap

runs_well : RunsWell waits second events
runs_well = typed_code_runs waits second events played

traps : RunsWell joins first events → ⊥
traps h = frame_traps h.allowed.0

always_runs : AlwaysRuns waits second
always_runs more = swaps_are_announced page_laws waits second more played

not_always : AlwaysRuns joins first → ⊥
not_always h = frame_traps (h events).0.allowed

-- ---- correct bytes

frame_right : FrameIsRight waits second
frame_right = frames_are_right page_laws waits second played

-- an EId has 16 bits
abbrev other_ensemble : State
other_ensemble = record first { eid = 65536 }

eid_within : (fig : Fig) (e : EnsembleInformation) → IsInFig fig (marked false (EnsembleOf e)) → e.eid < 65536
eid_within (Open byte es) e h = h.2.within.eid
eid_within (Other bytes) e h = absurd h

wrong_frame : FrameIsRight waits other_ensemble → ⊥
wrong_frame h =
    let top = h.headed refl in
    let low : top.information.eid < 65536 = eid_within top.header top.information top.says in
    let same : top.information.eid ≡ 65536 = top.right.eid in
    omega (arith, low, same)

frames_right : FramesAreRight waits second events
frames_right = (headline_holds page_laws waits second events played).right

wrong_frames : FramesAreRight waits other_ensemble events → ⊥
wrong_frames h = wrong_frame h.0

-- ---- each period

heard_each_period : IsHeardEachPeriod waits second
heard_each_period = periods_are_whole page_laws waits second played

-- with a period of no frames nothing is heard
no_period : IsHeardEachPeriod (record waits { plan = record plan { period = 0 } }) first → ⊥
no_period h =
    let heard : IsHeardInSome [] (marked false (sub_entry (sub_at_rate 128))) =
    h [] [] tt refl (marked false (sub_entry (sub_at_rate 128))) (0, omega arith, refl) in
    omega (arith, heard.1.1)

-- ---- all of it

meets_guarantees : MeetsGuarantees waits second events
meets_guarantees = headline_holds page_laws waits second events played

breaks_a_guarantee : MeetsGuarantees joins first events → ⊥
breaks_a_guarantee h = frame_traps h.runs.0.allowed
