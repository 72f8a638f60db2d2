-- The request for a playback, when it can be played, what is then delivered, and the faults.
use Rattle.std.specs.Prelude.{◌≡◌, ◌≢◌, ◌↔◌, ℕ, Bool, true, false, List, length, Option, Some, None, Result, Ok, Err}
use Rattle.std.specs.Io.KnownBytes.{Appends, Keeps}
use Rattle.plan_code.specs.declared.fault.CodeFault.TheVariants.{Memory as NoMemoryForCode}
use Rattle.plan_code.specs.declared.flags.Contacts.{Contacts}
use Rattle.plan_code.specs.Faults.{HasCodeFault}
use Rattle.plan_code.specs.Program.{Program, IsProgram, line_at}
use Rattle.plan_code.specs.Spelling.{code_bytes}
use Rattle.plan_verifier.specs.Typing.{IsTyped}
use Rattle.plan_verifier.specs.Refusals.{IsRefused}
use Rattle.plan_runs.specs.declared.event.Event.{Event}
use Rattle.plan_runs.specs.declared.event.Start.{Start as Starting}
use Rattle.plan_player.specs.Playing.{Playing, IsAtStart, start_fault}
use Rattle.plan_player.specs.Delivery.{frames_of, played_bytes, Stopped}
use Rattle.plan_session.specs.declared.event_fault.EventFault.TheVariants.{Memory as NoMemoryForEvents}
use Rattle.plan_session.specs.declared.start.StartOptions.{StartOptions}
use Rattle.plan_session.specs.declared.step.Step.{Step}
use Rattle.plan_session.specs.Events.{Holds}
use Rattle.plan_session.specs.declared.run_fault.RunFault.{RunFault}
use Rattle.plan_session.specs.declared.run_fault.RunFault.TheVariants.{Code, Refused, Start, Events, Write}

-- ---- the request

-- the bytes of a code file, the text of an event file, and what the player starts with
pub record Request : Type 0 where
  pub file : List ℕ
  pub text : List ℕ
  pub count : ℕ
  pub day : ℕ
  pub contacts : Contacts

abbrev pub asked : (file text : List ℕ) (count day : ℕ) (contacts : Contacts) → Request
asked file text count day contacts = record { file = file; text = text; count = count; day = day; contacts = contacts }

abbrev pub asked_from : (file text : List ℕ) → StartOptions → Request
asked_from file text start = asked file text start.count start.day start.contacts

-- the ensemble is that of the code's plan
abbrev pub start_of : Program → Request → Starting
start_of code r = record { eid = code.plan.eid; count = r.count; day = r.day; contacts = r.contacts }

-- the bytes are the file of this code
pub record IsFileOf (code : Program) (file : List ℕ) : Type 0 where
  pub program : IsProgram code
  pub bytes : file ≡ code_bytes code

-- the bytes are the file of this code, which is typed
pub record IsTypedFileOf (code : Program) (file : List ℕ) : Type 0 where
  pub read : IsFileOf code file
  pub typed : IsTyped code

-- and the start is in range
pub record CanStart (code : Program) (r : Request) : Type 0 where
  pub file : IsTypedFileOf code r.file
  pub start : start_fault (start_of code r) ≡ None

-- and this is a player at its start, and the text lists these steps
pub record IsPlayback (r : Request) (p : Playing) (steps : List Step) : Type 0 where
  pub ready : CanStart p.code r
  pub begins : IsAtStart p.code (start_of p.code r) p
  pub holds : Holds r.text steps

-- the start is in range, this is a player of the code at it, and the text lists these steps
pub record IsStarted (code : Program) (start : Starting) (text : List ℕ) (p : Playing) (steps : List Step) : Type
    0 where
  pub in_range : start_fault start ≡ None
  pub begins : IsAtStart code start p
  pub holds : Holds text steps

-- ---- how every session begins

-- a code, and the start of its player
pub record Opened : Type 0 where
  pub code : Program
  pub start : Starting

-- the code can be played from the start, and this is the player at the start
pub record Begins (r : Request) (p : Playing) : Type 0 where
  pub ready : CanStart p.code r
  pub begins : IsAtStart p.code (start_of p.code r) p

-- the player at the start of the session is the one of the request
abbrev pub IsSessionOf : Request → Opened → Type 0
IsSessionOf r s = (p : Playing) → Begins r p ↔ IsAtStart s.code s.start p

-- ---- what is delivered

-- all bytes of the playback, and the number of its frames; or the part that the sink took; barring allocation failure
abbrev pub Delivers : Playing → List Event → Option (List ℕ) → Option (List ℕ) → Result ℕ RunFault → Type 0
Delivers p events before after (Ok frames) = (frames ≡ length (frames_of p events))
    × Appends before after (played_bytes p events)
Delivers p events before after (Err (Code fault)) = fault ≡ NoMemoryForCode
Delivers p events before after (Err (Refused pc line cause)) = ⊥
Delivers p events before after (Err (Start fault)) = ⊥
Delivers p events before after (Err (Events fault)) = fault ≡ NoMemoryForEvents
Delivers p events before after (Err (Write frames bytes)) =
    (new : Playing) × Stopped p new events before after frames bytes

-- ---- faults

abbrev pub or_zero : Option ℕ → ℕ
or_zero None = 0
or_zero (Some n) = n

-- what holds where a fault is returned: it is a fault of the request, and none of those before it is
abbrev pub IsRunFault : Request → RunFault → Type 0
IsRunFault r (Code fault) = fault ≢ NoMemoryForCode → HasCodeFault r.file fault
IsRunFault r (Refused pc line cause) = (code : Program) × IsFileOf code r.file × IsRefused code pc cause
    × (line ≡ or_zero (line_at code pc))
IsRunFault r (Start fault) = (code : Program) × IsTypedFileOf code r.file × (start_fault (start_of code r) ≡ Some fault)
IsRunFault r (Events fault) = (code : Program) × CanStart code r
    × (fault ≢ NoMemoryForEvents → (steps : List Step) → Holds r.text steps → ⊥)
IsRunFault r (Write frames bytes) = (p : Playing) × (steps : List Step) × IsPlayback r p steps

-- the fault with which a request does not begin
abbrev pub IsBeginFault : Request → RunFault → Type 0
IsBeginFault r (Code fault) = fault ≢ NoMemoryForCode → HasCodeFault r.file fault
IsBeginFault r (Refused pc line cause) = (code : Program) × IsFileOf code r.file × IsRefused code pc cause
    × (line ≡ or_zero (line_at code pc))
IsBeginFault r (Start fault) = (code : Program) × IsTypedFileOf code r.file
    × (start_fault (start_of code r) ≡ Some fault)
IsBeginFault r (Events fault) = ⊥
IsBeginFault r (Write frames bytes) = ⊥

-- the same for a typed code and its start
abbrev pub IsPlayFault : Program → Starting → List ℕ → RunFault → Type 0
IsPlayFault code start text (Code fault) = ⊥
IsPlayFault code start text (Refused pc line cause) = ⊥
IsPlayFault code start text (Start fault) = start_fault start ≡ Some fault
IsPlayFault code start text (Events fault) = (start_fault start ≡ None)
    × (fault ≢ NoMemoryForEvents → (steps : List Step) → Holds text steps → ⊥)
IsPlayFault code start text (Write frames bytes) = (p : Playing) × (steps : List Step)
    × IsStarted code start text p steps

abbrev pub is_write : Result ℕ RunFault → Bool
is_write (Ok frames) = false
is_write (Err (Code fault)) = false
is_write (Err (Refused pc line cause)) = false
is_write (Err (Start fault)) = false
is_write (Err (Events fault)) = false
is_write (Err (Write frames bytes)) = true

-- with every fault but Write nothing was written
abbrev pub IsSilent : Option (List ℕ) → Option (List ℕ) → RunFault → Type 0
IsSilent before after (Code fault) = Keeps before after
IsSilent before after (Refused pc line cause) = Keeps before after
IsSilent before after (Start fault) = Keeps before after
IsSilent before after (Events fault) = Keeps before after
IsSilent before after (Write frames bytes) = Unit {0}
