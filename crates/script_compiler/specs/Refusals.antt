-- Which faults refuse a script, and why. Public contracts use only `IfRefused` and `IfLimit`.
use Rattle.std.specs.Prelude.{◌≡◌, ℕ}
use Rattle.plan_code.specs.declared.plan.Plan.{Plan}
use Rattle.plan_code.specs.declared.instr.Instr.{Instr}
use Rattle.plan_verifier.specs.declared.cause.Cause.{Cause}
use Rattle.plan_verifier.specs.declared.cause.Cause.TheVariants.{Mismatch}
use Rattle.plan_verifier.specs.Flows.{Flow, known_at}
use Rattle.plan_verifier.specs.Causes.{FlowRefused}
use Rattle.script_compiler.specs.declared.fault.CodeLimit.{CodeLimit}
use Rattle.script_compiler.specs.declared.fault.CompileFault.{CompileFault}
use Rattle.script_compiler.specs.declared.fault.CompileFault.TheVariants.{Refused, Limit, Memory}

-- neither a limit nor out of memory
abbrev pub IsRefusal : CompileFault → Type 0
IsRefusal (Refused line cause) = Unit {0}
IsRefusal (Limit line limit) = ⊥
IsRefusal Memory = ⊥

-- a refusal at this line, with the first cause for which the instruction is refused
abbrev pub IsRefusedAs : Plan → ℕ → Instr → Flow → CompileFault → Type 0
IsRefusedAs plan line i t e = (cause : Cause) × (e ≡ Refused line cause) × FlowRefused plan i (known_at t) cause

-- this holds of its line and cause, if it is a refusal
abbrev pub IfRefused : CompileFault → (ℕ → Cause → Type 0) → Type 0
IfRefused (Refused line cause) holds = holds line cause
IfRefused (Limit line limit) holds = Unit {0}
IfRefused Memory holds = Unit {0}

-- no refusal: out of memory, or a limit exceeded at this line, of which this holds
abbrev pub IsLimitAt : ℕ → (CodeLimit → Type 0) → CompileFault → Type 0
IsLimitAt line holds (Refused at cause) = ⊥
IsLimitAt line holds (Limit at limit) = (at ≡ line) × holds limit
IsLimitAt line holds Memory = Unit {0}

-- this holds of its line and limit, if it is an exceeded limit
abbrev pub IfLimit : CompileFault → (ℕ → CodeLimit → Type 0) → Type 0
IfLimit (Refused line cause) holds = Unit {0}
IfLimit (Limit line limit) holds = holds line limit
IfLimit Memory holds = Unit {0}

-- a refusal is a mismatch at this line, for this reason
abbrev pub IfMismatchAt : ℕ → Type 0 → CompileFault → Type 0
IfMismatchAt line reason e = IfRefused e (λ at cause. (at ≡ line) × ((cause ≡ Mismatch) × reason))

-- an exceeded limit is reported at this line, and this holds of it
abbrev pub IfLimitAt : ℕ → (CodeLimit → Type 0) → CompileFault → Type 0
IfLimitAt line holds e = IfLimit e (λ at limit. (at ≡ line) × holds limit)
