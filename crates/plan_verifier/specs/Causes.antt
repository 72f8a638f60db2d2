-- Why an instruction is refused, given what is known of the configurations and the swap: the first cause in the order
-- tested.
use Rattle.std.specs.Prelude.{◌≡◌, ◌≢◌, ◌<◌, ◌⊎◌, Option, Some, None}
use Rattle.mux_config.specs.Edits.{edit_fault}
use Rattle.mux_config.specs.Sound.{first_fault}
use Rattle.fib_codec.specs.Layouts.{layout_mode}
use Rattle.plan_code.specs.declared.plan.Plan.{Plan}
use Rattle.plan_code.specs.declared.label.Swap.TheVariants.{Idle}
use Rattle.plan_code.specs.declared.instr.Instr.{Instr}
use Rattle.plan_code.specs.declared.instr.Instr.TheVariants.{Wait, Until, WaitContact, WaitAny, CommitIn, CommitAt}
use Rattle.plan_code.specs.declared.instr.Instr.TheVariants.{Join, Settle, End, Edit as Edits, Test, TestTime, Jump}
use Rattle.plan_code.specs.declared.instr.Instr.TheVariants.{Set, Loop}
use Rattle.plan_code.specs.Machine.{IsSwapCount}
use Rattle.plan_verifier.specs.declared.cause.Cause.{Cause}
use Rattle.plan_verifier.specs.declared.cause.Cause.TheVariants.{Edit as OfEdit, Config as OfConfig, Pending, NoChange}
use Rattle.plan_verifier.specs.declared.cause.Cause.TheVariants.{Notice, Count, JoinIdle, SwapUncertain, Round}
use Rattle.plan_verifier.specs.Rules.{Known, HasRoom, IsCertain, IsSurelyPending}

-- ---- causes in order

-- this cause, if the fault holds
abbrev pub Where : Type 0 → Cause → Cause → Type 0
Where fault cause given = fault × (given ≡ cause)

-- the cause for the fault, if there is one
abbrev pub WhereSome : {T : Type 0} → Option T → (T → Cause) → Cause → Type 0
WhereSome None cause given = ⊥
WhereSome (Some fault) cause given = given ≡ cause fault

-- the first cause, or if none of those holds, a later one
infixr 6 ◌orelse◌
abbrev pub ◌orelse◌ : (Cause → Type 0) → (Cause → Type 0) → Cause → Type 0
(first orelse later) given = first given ⊎ (((cause : Cause) → first cause → ⊥) × later given)

-- for a commit; `fault` is that of its delay or its count
abbrev pub CommitRefused : Plan → Known → Type 0 → Cause → Cause → Type 0
CommitRefused plan t fault cause =
    Where (t.pending ≢ Idle) Pending
    orelse Where fault cause
    orelse WhereSome (first_fault t.next) OfConfig
    orelse Where (t.next ≡ t.current) NoChange
    orelse Where (HasRoom plan t → ⊥) Round

-- ---- at an instruction; the verifier checks the target against the code's labels, and a loop's counter

abbrev pub FlowRefused : Plan → Instr → Known → Cause → Type 0
FlowRefused plan (Edits edit) t = Where (t.pending ≢ Idle) Pending orelse WhereSome (edit_fault edit t.next) OfEdit
FlowRefused plan (CommitIn delay) t = CommitRefused plan t (delay < plan.notice) Notice
FlowRefused plan (CommitAt count) t = CommitRefused plan t (IsSwapCount (layout_mode plan.layout) count → ⊥) Count
FlowRefused plan (Wait frames) t = Where (IsCertain frames t.pending → ⊥) SwapUncertain
FlowRefused plan (Until day) t = λ given. ⊥
FlowRefused plan (WaitContact contact closed) t = λ given. ⊥
FlowRefused plan (WaitAny closed opened until frames) t = λ given. ⊥
FlowRefused plan Join t = Where (IsSurelyPending t.pending → ⊥) JoinIdle
FlowRefused plan Settle t = λ given. ⊥
FlowRefused plan (Test contact target) t = λ given. ⊥
FlowRefused plan (TestTime from to target) t = λ given. ⊥
FlowRefused plan (Jump target) t = λ given. ⊥
FlowRefused plan (Loop counter target) t = λ given. ⊥
FlowRefused plan (Set counter times) t = λ given. ⊥
FlowRefused plan End t = λ given. ⊥
