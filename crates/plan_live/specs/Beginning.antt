-- How a live run of a code file begins, and its outcome.
use Rattle.std.specs.Prelude.{◌≡◌, ℕ, Result, Ok, Err}
use Rattle.plan_code.specs.declared.fault.CodeFault.TheVariants.{Memory as NoMemoryForCode}
use Rattle.plan_player.specs.Playing.{Playing}
use Rattle.plan_session.specs.declared.run_fault.RunFault.TheVariants.{Code}
use Rattle.plan_session.specs.Playback.{Request, Begins, IsBeginFault}
use Rattle.plan_live.specs.declared.fault.LiveFault.{LiveFault}
use Rattle.plan_live.specs.declared.fault.LiveFault.TheVariants.{Playback, Stopped}
use Rattle.plan_live.specs.Living.{Streamed, Whole}

-- the outcome of a run that begins with this player, barring allocation failure for the code. Of a run that stops early
-- no more is claimed than that it was prompt
abbrev pub Lives : ℕ → Playing → Streamed → Streamed → Result (Unit {0}) LiveFault → Type 0
Lives skip p old new (Ok done) = Whole skip p old new
Lives skip p old new (Err (Playback fault)) = fault ≡ Code NoMemoryForCode
Lives skip p old new (Err (Stopped stop)) = Unit {0}

-- a returned fault is present, or the run began; and if it did not begin, nothing was read or written
abbrev pub IsLiveFault : Request → Streamed → Streamed → LiveFault → Type 0
IsLiveFault r old new (Playback fault) = IsBeginFault r fault × (new ≡ old)
IsLiveFault r old new (Stopped stop) = (p : Playing) × Begins r p
