-- Where a plan is refused, and what it means that what is known there refuses it.
use Rattle.std.specs.Prelude.{◌≡◌, Some}
use Rattle.plan_verifier.specs.declared.cause.Cause.{Cause}
use Rattle.plan_verifier.specs.declared.cause.Cause.TheVariants.{Mismatch, Table}
use Rattle.plan_verifier.specs.Flows.{Flow, known_at, merged, FitsFlow}
use Rattle.plan_verifier.specs.Tests.{flow_cause, start_cause}
use Rattle.script_compiler.specs.declared.fault.CompileFault.{CompileFault}
use Rattle.script_compiler.specs.declared.fault.CompileFault.TheVariants.{Refused as IsRefusedAt}
use Rattle.plan_explain.specs.declared.stop.Refused.{Refused}
use Rattle.plan_explain.specs.declared.stop.Refused.TheVariants.{Instr, Opening, Loop, Paths, Unreached}
use Rattle.plan_explain.specs.declared.stop.Stop.{Stop}

abbrev pub cause_of : Refused → Cause
cause_of (Instr i cause) = cause
cause_of (Opening cause) = cause
cause_of Loop = Mismatch
cause_of Paths = Mismatch
cause_of (Unreached act after) = Table

-- two paths can be merged: what is known on each fits what is known on both
abbrev pub AgreeAtMerge : Flow → Flow → Type 0
AgreeAtMerge s t = FitsFlow s (merged s t) × FitsFlow t (merged s t)

-- what is known refuses it: an instruction or an opening for the cause; a loop since its end does not fit its
-- beginning; an `if` since its paths can't be merged
abbrev pub RefusesIn : Refused → Stop → Type 0
RefusesIn (Instr i cause) p = flow_cause p.plan i (known_at p.here) ≡ Some cause
RefusesIn (Opening cause) p = start_cause p.plan p.here.next ≡ Some cause
RefusesIn Loop p = FitsFlow p.here p.other → ⊥
RefusesIn Paths p = AgreeAtMerge p.here p.other → ⊥
RefusesIn (Unreached act after) p = Unit {0}

abbrev pub IsRefusal : Stop → Type 0
IsRefusal p = RefusesIn p.refused p

-- it is the refusal with which the compiler ends, by what is known there
pub record IsStop (fault : CompileFault) (p : Stop) : Type 0 where
  pub same : fault ≡ IsRefusedAt p.line (cause_of p.refused)
  pub refused : IsRefusal p
