-- The machine that executes instructions: its state, how each instruction changes it, and what each needs so as
-- not to trap.
use Rattle.std.specs.Prelude.{◌≡◌, ◌≢◌, ◌↔◌, ◌⊎◌, true, Bool, ℕ, zero, suc, ◌+◌, ◌-◌, ◌%◌, ◌<◌, ◌≤◌, if◌then◌else◌}
use Rattle.std.specs.Prelude.{nat_lt, List, length, Option, Some, None, IsSome, slice_index, slice_set}
use Rattle.mux_config.specs.Configuration.{Configuration}
use Rattle.mux_config.specs.Edits.{changed, edit_fault}
use Rattle.mux_config.specs.Sound.{IsSound}
use Rattle.mux_config.specs.declared.edit.Edit.{Edit}
use Rattle.fib_codec.specs.Modes.{count_step}
use Rattle.fib_codec.specs.Layouts.{layout_mode}
use Rattle.fib_codec.specs.declared.modes.Mode.{Mode}
use Rattle.mux_types.specs.declared.limits.TheConstants.{COUNTS}
use Rattle.plan_code.specs.declared.limits.TheConstants.{FRAMES_A_DAY}
use Rattle.plan_code.specs.declared.plan.Plan.{Plan}
use Rattle.plan_code.specs.declared.instr.Instr.{Instr}
use Rattle.plan_code.specs.declared.instr.Instr.TheVariants.{Wait, Until, WaitContact, WaitAny, CommitIn, CommitAt}
use Rattle.plan_code.specs.declared.instr.Instr.TheVariants.{Join, Settle, End, Edit as Edits, Test, TestTime, Jump}
use Rattle.plan_code.specs.declared.instr.Instr.TheVariants.{Set, Loop}
use Rattle.plan_code.specs.declared.hold.Hold.{Hold}
use Rattle.plan_code.specs.declared.hold.Hold.TheVariants.{Waits, WaitsDay, WaitsContact, WaitsAny, WaitsSwap, Ended}
use Rattle.plan_code.specs.declared.flags.Contacts.{Contacts}
use Rattle.plan_code.specs.Flags.{is_closed}
use Rattle.plan_code.specs.Program.{Program, instr_at}

pub record State : Type 0 where
  -- the current and the next configuration
  pub current : Configuration
  pub next : Configuration
  -- the number of frames until the swap, if one is pending
  pub left : Option ℕ
  -- the index of the next instruction, and what the machine waits for
  pub pc : ℕ
  pub hold : Hold
  -- the remaining iterations of each of the eight counters: 0 where it is not set
  pub counters : List ℕ
  pub contacts : Contacts
  -- the CIF count, and the frame of the day
  pub count : ℕ
  pub day : ℕ
  -- the identifier of the ensemble
  pub eid : ℕ
  -- the index of the next page
  pub page_index : ℕ

-- ---- when a swap falls

-- the number of frames from this CIF count, at least `least`, to the first frame whose count is a multiple of the step
abbrev pub left_in : (step count least : ℕ) → ℕ
left_in step count least = least + (step - 1 - (count + least + (step - 1)) % step)

-- the number of frames from this CIF count, at least `least`, to the first frame whose count is `at`
abbrev pub left_at : (count least at : ℕ) → ℕ
left_at count least at = least + (at + COUNTS - (count + least) % COUNTS) % COUNTS

-- r is the least number with the property, from `least` on
pub record IsLeastFrom (least : ℕ) (P : ℕ → Type 0) (r : ℕ) : Type 0 where
  pub reached : least ≤ r
  pub holds : P r
  pub first : (q : ℕ) → least ≤ q → P q → r ≤ q

abbrev pub SwapsInTime : Type 0
SwapsInTime =
    (mode : Mode) (count least : ℕ)
    → IsLeastFrom least (λ r. (count + r) % count_step mode ≡ 0) (left_in (count_step mode) count least)

abbrev pub SwapsAtCount : Type 0
SwapsAtCount =
    (count least at : ℕ) → at < COUNTS
    → IsLeastFrom least (λ r. (count + r) % COUNTS ≡ at) (left_at count least at)

-- ---- windows of the day

-- the number of frames from a frame of the day to the next one that is `to`
abbrev pub frames_until : (from to : ℕ) → ℕ
frames_until from to = (to + (FRAMES_A_DAY - from)) % FRAMES_A_DAY

-- the frame of the day is in the window from `from` to `to`: it comes before `to` does
abbrev pub is_in_window : (from to day : ℕ) → Bool
is_in_window from to day = nat_lt (frames_until from day) (frames_until from to)

-- a window begins with its first frame and ends before its last one; it runs over midnight if that comes before the
-- first; and it is empty if the two are the same
pub record IsWindow (from to day : ℕ) : Type 0 where
  pub within_a_day : from ≤ to → is_in_window from to day ≡ true ↔ (from ≤ day) × (day < to)
  pub over_midnight : to < from → is_in_window from to day ≡ true ↔ (from ≤ day) ⊎ (day < to)

abbrev pub WindowsAreHalfOpen : Type 0
WindowsAreHalfOpen =
    (from to day : ℕ) → from < FRAMES_A_DAY → to < FRAMES_A_DAY → day < FRAMES_A_DAY → IsWindow from to day

-- ---- what an instruction does

-- the next instruction runs at once
abbrev pub advance : State → State
advance s = record s { pc = s.pc + 1 }

-- the next instruction runs when the wait has ended
abbrev pub suspend : Hold → State → State
suspend hold s = record s { hold = hold; pc = s.pc + 1 }

abbrev pub commit : ℕ → State → State
commit left s = record s { left = Some left; pc = s.pc + 1 }

-- waits for a pending swap
abbrev pub settle : Option ℕ → State → State
settle None s = advance s
settle (Some left) s = suspend WaitsSwap s

abbrev pub counter_of : State → ℕ → ℕ
counter_of s r = slice_index s.counters r

abbrev pub effect : Plan → Instr → State → State
effect plan (Wait n) s = suspend (Waits n) s
effect plan (Until t) s = suspend (WaitsDay t) s
effect plan (WaitContact c closed) s = suspend (WaitsContact c closed) s
effect plan (WaitAny closed opened until frames) s = suspend (WaitsAny closed opened until frames) s
effect plan (CommitIn k) s = commit (left_in (count_step (layout_mode plan.layout)) s.count k) s
effect plan (CommitAt n) s = commit (left_at s.count plan.notice n) s
effect plan Join s = suspend WaitsSwap s
effect plan Settle s = settle s.left s
effect plan End s = record s { hold = Ended }
effect plan (Edits e) s = record s { next = changed e s.next; pc = s.pc + 1 }
effect plan (Test c target) s = record s { pc = if is_closed s.contacts c then s.pc + 1 else target }
effect plan (TestTime from to target) s = record s { pc = if is_in_window from to s.day then s.pc + 1 else target }
effect plan (Jump target) s = record s { pc = target }
effect plan (Set r n) s = record s { counters = slice_set s.counters r n; pc = s.pc + 1 }
effect plan (Loop r target) s =
    record s {
      counters = slice_set s.counters r (counter_of s r - 1);
      pc = if nat_lt 1 (counter_of s r) then target else s.pc + 1;
    }

-- ---- what an instruction needs so as not to trap

-- no swap is pending; below, one is
abbrev pub IsIdle : State → Type 0
IsIdle s = s.left ≡ None

abbrev pub IsPending : State → Type 0
IsPending s = IsSome s.left

abbrev pub HasNoFault : Edit → Configuration → Type 0
HasNoFault e c = edit_fault e c ≡ None

-- the next configuration can be committed
pub record IsReady (s : State) : Type 0 where
  pub idle : IsIdle s
  pub sound : IsSound s.next
  pub changes : s.next ≢ s.current

-- a delay at least as long as the notice
abbrev pub IsNoticed : Plan → ℕ → Type 0
IsNoticed plan k = plan.notice ≤ k

-- a CIF count on which a swap can fall
abbrev pub IsSwapCount : Mode → ℕ → Type 0
IsSwapCount mode n = (n % count_step mode ≡ 0) × (n < COUNTS)

abbrev pub IsCounterSet : State → ℕ → Type 0
IsCounterSet s r = 1 ≤ counter_of s r

abbrev pub IsAllowed : Plan → Instr → State → Type 0
IsAllowed plan (Wait n) s = Unit {0}
IsAllowed plan (Until t) s = Unit {0}
IsAllowed plan (WaitContact c closed) s = Unit {0}
IsAllowed plan (WaitAny closed opened until frames) s = Unit {0}
IsAllowed plan (CommitIn k) s = IsReady s × IsNoticed plan k
IsAllowed plan (CommitAt n) s = IsReady s × IsSwapCount (layout_mode plan.layout) n
IsAllowed plan Join s = IsPending s
IsAllowed plan Settle s = Unit {0}
IsAllowed plan End s = Unit {0}
IsAllowed plan (Edits e) s = IsIdle s × HasNoFault e s.next
IsAllowed plan (Test c target) s = Unit {0}
IsAllowed plan (TestTime from to target) s = Unit {0}
IsAllowed plan (Jump target) s = Unit {0}
IsAllowed plan (Set r n) s = Unit {0}
IsAllowed plan (Loop r target) s = IsCounterSet s r

-- there is an instruction at the state's pc, and it doesn't trap
pub record StepIsAllowed (p : Program) (s : State) : Type 0 where
  pub instr : Instr
  pub within : instr_at p s.pc ≡ Some instr
  pub allowed : IsAllowed p.plan instr s

-- the effect of an instruction; none outside the code
abbrev pub effect_of : Plan → Option Instr → State → State
effect_of plan None s = s
effect_of plan (Some i) s = effect plan i s

abbrev pub step : Program → State → State
step p s = effect_of p.plan (instr_at p s.pc) s

-- ---- settling and loops

-- `settle` has no effect where no swap is pending, and joins a pending one
pub record Settles (plan : Plan) (s : State) : Type 0 where
  pub idle : IsIdle s → effect plan Settle s ≡ advance s
  pub pending : IsPending s → effect plan Settle s ≡ effect plan Join s

abbrev pub AlwaysSettles : Type 0
AlwaysSettles = (plan : Plan) (s : State) → Settles plan s

-- the state after a loop instruction was executed this many times, and nothing else
abbrev pub looped : Plan → (r target : ℕ) → (times : ℕ) → State → State
looped plan r target zero s = s
looped plan r target (suc times) s = effect plan (Loop r target) (looped plan r target times s)

-- where a counter was set to n, its loop jumps n - 1 times; the next time it leaves the counter unset and continues to
-- the instruction after it
pub record LoopsAsSet (plan : Plan) (r target n : ℕ) (s : State) : Type 0 where
  pub jumps : (k : ℕ) → k + 1 < n → (looped plan r target (k + 1) s).pc ≡ target
  pub ends : (looped plan r target n s).pc ≡ (looped plan r target (n - 1) s).pc + 1
  pub set : (k : ℕ) → k < n → IsCounterSet (looped plan r target k s) r
  pub unset : counter_of (looped plan r target n s) r ≡ 0

abbrev pub LoopsRun : Type 0
LoopsRun =
    (plan : Plan) (r target n : ℕ) (s : State) → r < length s.counters → 1 ≤ n
    → LoopsAsSet plan r target n (effect plan (Set r n) s)
