-- How a session begins: each definition where it holds, and where it fails.
use Rattle.plan_session.proofs.Words.{[], ◌∷◌, ◌≡◌, CanStart, Code, IsAtStart, IsBeginFault, IsSessionOf, IsTypedFileOf}
use Rattle.plan_session.proofs.Words.{None, Opened, Playing, Program, Request, Some, Write, arith, asked, nothing}
use Rattle.plan_session.proofs.Words.{played, refl, start_fault, start_of}
use Rattle.plan_code.specs.declared.instr.Instr.TheVariants.{Wait, End}
use Rattle.plan_runs.proofs.Samples.{label, code, first_state, all_open, it_starts}
use Rattle.plan_runs.specs.declared.event.Event.TheVariants.{Frame}
use Rattle.plan_player.specs.declared.fault.StartFault.TheVariants.{Count}
use Rattle.plan_session.specs.Playback.{Begins}
use Rattle.plan_code.specs.declared.fault.CodeFault.TheVariants.{Memory as NoMemoryForCode}
use Rattle.plan_session.proofs.Sessions.{session_of}

-- a code of an empty multiplex that waits for a frame and ends, and its player before the first frame
abbrev waits : Program
waits = code (label 0 1 ∷ []) (record { number = 1; instr = Wait 1 } ∷ record { number = 2; instr = End } ∷ [])

abbrev fresh : Playing
fresh = record { code = waits; state = first_state nothing 0; steps = 0 }

abbrev request : Request
request = asked [] [] 0 0 all_open

abbrev opened : Opened
opened = record { code = waits; start = start_of waits request }

at_start : IsAtStart waits (start_of waits request) fresh
at_start = record { code_is = refl; state_is = it_starts nothing waits.lines 0 1; none_yet = refl }

begins : CanStart waits request → Begins request fresh
begins h = record { ready = h; begins = at_start }

begins_later : Begins request (played fresh (Frame ∷ [])) → ⊥
begins_later h = let e : 1 ≡ 0 = h.begins.none_yet in omega (arith, e)

of_the_request : IsTypedFileOf waits [] → ((other : Program) → IsTypedFileOf other [] → waits ≡ other)
    → IsSessionOf request opened
of_the_request file only = session_of request opened file only refl refl

-- a session that starts at the count 0 is none of a request for the count 5000
of_another_request : IsSessionOf (asked [] [] 5000 0 all_open) opened → ⊥
of_another_request h =
    let none : start_fault (start_of waits (asked [] [] 5000 0 all_open)) ≡ None = ((h fresh).1 at_start).ready.start in
    let some : start_fault (start_of waits (asked [] [] 5000 0 all_open)) ≡ Some Count = refl in
    absurd cc

no_memory : IsBeginFault request (Code NoMemoryForCode)
no_memory = λ other. absurd (other refl)

no_write : IsBeginFault request (Write 0 0) → ⊥
no_write h = h
