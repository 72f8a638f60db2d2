-- The faults of code files.
use Rattle.std.specs.Prelude.{◌≡◌, ◌≢◌, ℕ, List}
use Rattle.plan_code.specs.declared.fault.CodeFault.TheVariants.{Memory as NoMemoryForCode}
use Rattle.plan_code.specs.Faults.{HasCodeFault}
use Rattle.plan_code.specs.Program.{Program, line_at}
use Rattle.plan_verifier.specs.Refusals.{IsRefused}
use Rattle.plan_session.specs.declared.run_fault.RunFault.{RunFault}
use Rattle.plan_session.specs.declared.run_fault.RunFault.TheVariants.{Code, Refused, Start, Events, Write}
use Rattle.plan_session.specs.Playback.{IsFileOf, or_zero}

-- what holds where a file is not played because of its code
abbrev pub IsCodeFault : List ℕ → RunFault → Type 0
IsCodeFault file (Code fault) = fault ≢ NoMemoryForCode → HasCodeFault file fault
IsCodeFault file (Refused pc line cause) = (code : Program) × IsFileOf code file × IsRefused code pc cause
    × (line ≡ or_zero (line_at code pc))
IsCodeFault file (Start fault) = ⊥
IsCodeFault file (Events fault) = ⊥
IsCodeFault file (Write frames bytes) = ⊥
