-- The tests of a flow, and the cause that they find, as functions; `Causes.antt` defines what a cause means.
use Rattle.std.specs.Prelude.{ℕ, ◌*◌, ◌%◌, ◌==◌, ◌&&◌, ◌||◌, Bool, true, false, not, nat_lt, nat_le, Option, Some, None}
use Rattle.std.specs.Prelude.{Result, Ok, Err}
use Rattle.mux_config.specs.Configuration.{Configuration}
use Rattle.mux_config.specs.Change.{has_same_subs, has_same_services}
use Rattle.mux_config.specs.Edits.{edit_fault}
use Rattle.mux_config.specs.Sound.{first_fault}
use Rattle.fib_codec.specs.Modes.{count_step}
use Rattle.fib_codec.specs.Layouts.{layout_mode}
use Rattle.mux_types.specs.declared.limits.TheConstants.{COUNTS}
use Rattle.plan_code.specs.declared.plan.Plan.{Plan}
use Rattle.plan_code.specs.declared.label.Swap.{Swap}
use Rattle.plan_code.specs.declared.label.Swap.TheVariants.{Idle, Within, Perhaps}
use Rattle.plan_code.specs.declared.instr.Instr.{Instr}
use Rattle.plan_code.specs.declared.instr.Instr.TheVariants.{Wait, CommitIn, CommitAt, Join, Edit as Edits}
use Rattle.plan_verifier.specs.declared.fitting.Condition.{Condition}
use Rattle.plan_verifier.specs.declared.fitting.Condition.TheVariants.{Never, Both, NextTwice}
use Rattle.plan_verifier.specs.declared.cause.Cause.{Cause}
use Rattle.plan_verifier.specs.declared.cause.Cause.TheVariants.{Edit as OfEdit, Config as OfConfig, Pending, NoChange}
use Rattle.plan_verifier.specs.declared.cause.Cause.TheVariants.{Notice, Count, JoinIdle, SwapUncertain, Round}
use Rattle.plan_verifier.specs.Rules.{Known, notice_pages, pages_alone}

-- ---- causes in order

-- this cause, if the test holds
abbrev pub cause_if : Bool → Cause → Option Cause
cause_if true cause = Some cause
cause_if false cause = None

-- the cause for a fault, if there is one
abbrev pub cause_of : {T : Type 0} → Option T → (T → Cause) → Option Cause
cause_of None cause = None
cause_of (Some fault) cause = Some (cause fault)

-- the first cause of the two, if any
infixr 6 ◌first_or◌
abbrev pub ◌first_or◌ : Option Cause → Option Cause → Option Cause
(None first_or later) = later
(Some cause first_or later) = Some cause

-- the result of a function that finds this cause, or none
abbrev pub unless : Option Cause → Result (Unit {0}) Cause
unless None = Ok tt
unless (Some cause) = Err cause

-- ---- tests

abbrev pub is_same : Configuration → Configuration → Bool
is_same c d = has_same_subs c d && has_same_services c d

abbrev pub is_idle : Swap → Bool
is_idle Idle = true
is_idle (Within lo hi) = false
is_idle (Perhaps hi) = false

abbrev pub is_surely_pending : Swap → Bool
is_surely_pending Idle = false
is_surely_pending (Within lo hi) = true
is_surely_pending (Perhaps hi) = false

abbrev pub is_certain : ℕ → Swap → Bool
is_certain frames Idle = true
is_certain frames (Within lo hi) = nat_lt frames lo || nat_le hi frames
is_certain frames (Perhaps hi) = true

abbrev pub has_room_for_notice : Plan → Known → Bool
has_room_for_notice plan t =
    nat_le (notice_pages plan t) plan.period && nat_le (3 * notice_pages plan t) plan.notice
    && nat_le (pages_alone plan t.next) plan.period

abbrev pub is_swap_count : Plan → ℕ → Bool
is_swap_count plan count = (count % count_step (layout_mode plan.layout) == 0) && nat_lt count COUNTS

abbrev pub has_configurations_of : Known → Known → Bool
has_configurations_of t declared = is_same t.current declared.current && is_same t.next declared.next

abbrev pub fits_swap : Swap → Swap → Known → Known → Bool
fits_swap Idle Idle t declared = has_configurations_of t declared
fits_swap Idle (Within low high) t declared = false
fits_swap Idle (Perhaps high) t declared = is_same t.current declared.next && is_same t.next declared.next
fits_swap (Within lo hi) Idle t declared = false
fits_swap (Within lo hi) (Within low high) t declared =
    nat_le low lo && nat_le hi high && has_configurations_of t declared
fits_swap (Within lo hi) (Perhaps high) t declared = nat_le hi high && has_configurations_of t declared
fits_swap (Perhaps hi) Idle t declared = false
fits_swap (Perhaps hi) (Within low high) t declared = false
fits_swap (Perhaps hi) (Perhaps high) t declared = nat_le hi high && has_configurations_of t declared

-- a flow has the configurations of another that it needs to fit it
abbrev pub satisfies : Condition → Known → Known → Bool
satisfies Never t declared = false
satisfies Both t declared = has_configurations_of t declared
satisfies NextTwice t declared = is_same t.current declared.next && is_same t.next declared.next

-- ---- the cause at an instruction

-- for a commit, where no swap is pending and its delay or count is valid
abbrev pub change_cause : Plan → Known → Option Cause
change_cause plan t =
    cause_of (first_fault t.next) OfConfig
    first_or cause_if (is_same t.next t.current) NoChange
    first_or cause_if (not (has_room_for_notice plan t)) Round

abbrev pub commit_cause : Plan → Known → Bool → Cause → Option Cause
commit_cause plan t fault cause =
    cause_if (not (is_idle t.pending)) Pending
    first_or cause_if fault cause
    first_or change_cause plan t

abbrev pub flow_cause : Plan → Instr → Known → Option Cause
flow_cause plan (Edits edit) t =
    cause_if (not (is_idle t.pending)) Pending first_or cause_of (edit_fault edit t.next) OfEdit
flow_cause plan (CommitIn delay) t = commit_cause plan t (nat_lt delay plan.notice) Notice
flow_cause plan (CommitAt count) t = commit_cause plan t (not (is_swap_count plan count)) Count
flow_cause plan (Wait frames) t = cause_if (not (is_certain frames t.pending)) SwapUncertain
flow_cause plan Join t = cause_if (not (is_surely_pending t.pending)) JoinIdle
flow_cause plan _ t = None

-- for a plan that starts with this configuration
abbrev pub start_cause : Plan → Configuration → Option Cause
start_cause plan c = cause_of (first_fault c) OfConfig first_or cause_if (nat_lt plan.period (pages_alone plan c)) Round
