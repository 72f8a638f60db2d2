-- What status 0 of `play` and `live` means, and status 1 with a verdict of `play`, over files with known bytes. Of a
-- code file no more than the longest and a byte is read.
use Rattle.std.specs.Prelude.{◌≡◌, ◌≢◌, ℕ, List, [], take, Option, Some, Result, Ok, Err, IfSome}
use Rattle.std.specs.Io.KnownBytes.{Appends}
use Rattle.console.specs.Lines.{lines_of}
use Rattle.console.specs.World.{World, Becomes, HasWritten}
use Rattle.plan_code.specs.declared.fault.CodeFault.TheVariants.{Memory as NoMemoryForCode}
use Rattle.plan_player.specs.Playing.{Playing}
use Rattle.plan_player.specs.Delivery.{played_bytes}
use Rattle.plan_session.specs.declared.event_fault.EventFault.TheVariants.{Memory as NoMemoryForEvents}
use Rattle.plan_session.specs.declared.run_fault.RunFault.{RunFault}
use Rattle.plan_session.specs.declared.run_fault.RunFault.TheVariants.{Code, Refused, Start, Events, Write}
use Rattle.plan_session.specs.declared.start.StartOptions.{StartOptions}
use Rattle.plan_session.specs.declared.step.Step.{Step}
use Rattle.plan_session.specs.Events.{events_of}
use Rattle.plan_session.specs.Playback.{Request, asked_from, Begins, IsPlayback, IsRunFault}
use Rattle.plan_live.specs.Lines.{LinesDo}
use Rattle.plan_live.specs.Living.{kept_bytes}
use Rattle.cli_plans.specs.declared.live.LiveRequest.{LiveRequest}
use Rattle.cli_plans.specs.declared.play.PlayRequest.{PlayRequest}

-- the file of this path has the frames of the run of a typed code over these events, and no other file has changed
abbrev pub IsPlayedInto : (path code text : List ℕ) → StartOptions → (before after : Option World) → Type 0
IsPlayedInto path code text start before after =
    (p : Playing) × (steps : List Step) × IsPlayback (asked_from code text start) p steps
    × Becomes (HasWritten path (played_bytes p (events_of steps))) before after

-- status 0 of `play CODE EVENTS OUT`
abbrev pub Plays : PlayRequest → (List ℕ → Option (List ℕ)) → (before after : Option World) → Type 0
Plays r file before after =
    (code text : List ℕ) → file r.code.now ≡ Some code → file r.events.now ≡ Some text
    → IsPlayedInto r.out.now (take 1048577 code) text r.start before after

-- standard output has taken the frames of the run of a typed code over these events, and nothing else
abbrev pub IsPlayedTo : (code text : List ℕ) → StartOptions → (before after : Option (List ℕ)) → Type 0
IsPlayedTo code text start before after =
    (p : Playing) × (steps : List Step) × IsPlayback (asked_from code text start) p steps
    × Appends before after (played_bytes p (events_of steps))

-- status 0 of `play CODE EVENTS -`
abbrev pub PlaysToOutput : PlayRequest → (List ℕ → Option (List ℕ)) → (before after : Option (List ℕ)) → Type 0
PlaysToOutput r file before after =
    (code text : List ℕ) → file r.code.now ≡ Some code → file r.events.now ≡ Some text
    → IsPlayedTo (take 1048577 code) text r.start before after

-- ---- the verdict of `play`

-- the fault is a verdict: memory did not run out
abbrev pub IsVerdict : RunFault → Type 0
IsVerdict (Code fault) = fault ≢ NoMemoryForCode
IsVerdict (Refused pc line cause) = Unit {0}
IsVerdict (Start fault) = Unit {0}
IsVerdict (Events fault) = fault ≢ NoMemoryForEvents
IsVerdict (Write frames bytes) = Unit {0}

abbrev pub EndsWithVerdict : Result ℕ RunFault → Type 0
EndsWithVerdict (Ok frames) = ⊥
EndsWithVerdict (Err fault) = IsVerdict fault

-- a request is refused for its first fault, or the output failed
abbrev pub IsRefusedFor : Request → Type 0
IsRefusedFor r = (fault : RunFault) × IsVerdict fault × IsRunFault r fault

-- status 1 of `play`, where a verdict is printed
abbrev pub RefusesPlay : PlayRequest → (List ℕ → Option (List ℕ)) → Type 0
RefusesPlay r file =
    (code text : List ℕ) → file r.code.now ≡ Some code → file r.events.now ≡ Some text
    → IsRefusedFor (asked_from (take 1048577 code) text r.start)

-- ---- `live`

-- standard output has taken the frames of the run of a typed code over the steps of the lines of the input, except the
-- first ones that are skipped, and nothing else
abbrev pub IsLiveTo : LiveRequest → List ℕ → (input before after : Option (List ℕ)) → Type 0
IsLiveTo r code input before after =
    (p : Playing) × (steps : List Step) × Begins (asked_from code [] r.start) p
    × IfSome input (λ text. LinesDo (lines_of text) steps)
    × Appends before after (kept_bytes r.skip p (events_of steps))

-- status 0 of `live CODE`
abbrev pub Lives : LiveRequest → (List ℕ → Option (List ℕ)) → (input before after : Option (List ℕ)) → Type 0
Lives r file input before after =
    (code : List ℕ) → file r.code.now ≡ Some code → IsLiveTo r (take 1048577 code) input before after
