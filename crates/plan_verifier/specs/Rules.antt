-- The rules of a plan: what is known at an instruction, what the instruction needs, and what holds after it.
use Rattle.std.specs.Prelude.{◌≡◌, ◌≢◌, ℕ, ◌+◌, ◌-◌, ◌*◌, ◌<◌, ◌≤◌, ◌⊎◌, Bool, true, false, if◌then◌else◌, nat_lt}
use Rattle.std.specs.Prelude.{Option, Some, None}
use Rattle.mux_config.specs.Configuration.{Configuration}
use Rattle.mux_config.specs.Edits.{edit_fault, changed}
use Rattle.mux_config.specs.Sound.{IsSound}
use Rattle.fib_codec.specs.Modes.{count_step}
use Rattle.fib_codec.specs.Layouts.{layout_mode}
use Rattle.fib_carousel.specs.Pages.{page_set, rounds}
use Rattle.mux_types.specs.declared.limits.TheConstants.{COUNTS}
use Rattle.plan_code.specs.declared.plan.Plan.{Plan}
use Rattle.plan_code.specs.declared.flags.Counters.{Counters}
use Rattle.plan_code.specs.declared.label.Swap.{Swap}
use Rattle.plan_code.specs.declared.label.Swap.TheVariants.{Idle, Within, Perhaps}
use Rattle.plan_code.specs.declared.instr.Instr.{Instr}
use Rattle.plan_code.specs.declared.instr.Instr.TheVariants.{Wait, Until, WaitContact, WaitAny, CommitIn, CommitAt}
use Rattle.plan_code.specs.declared.instr.Instr.TheVariants.{Join, Settle, End, Edit as Edits, Test, TestTime, Jump}
use Rattle.plan_code.specs.declared.instr.Instr.TheVariants.{Set, Loop}
use Rattle.plan_code.specs.Flags.{is_set, with_counter, without_counter}
use Rattle.plan_code.specs.Machine.{IsSwapCount}

-- what is known whenever the machine reaches an instruction
pub record Known : Type 0 where
  pub current : Configuration
  pub next : Configuration
  -- no swap is pending, one is pending, or one is pending unless it has already been made
  pub pending : Swap
  -- counters that are certainly set
  pub counters : Counters
  -- how many instructions may still run in this frame, including this one
  pub allowance : ℕ

-- ---- pages

-- the number of pages that a configuration takes by itself
abbrev pub pages_alone : Plan → Configuration → ℕ
pages_alone plan c = rounds plan.layout (page_set c None)

-- the number of pages that the current and the next configuration take together, in the frames of a notice
abbrev pub notice_pages : Plan → Known → ℕ
notice_pages plan t = rounds plan.layout (page_set t.current (Some t.next))

-- all pages of the notice fit within the period, and three cycles of them within the notice; after the swap, the pages
-- of the next configuration fit within the period
pub record HasRoom (plan : Plan) (t : Known) : Type 0 where
  pub within_period : notice_pages plan t ≤ plan.period
  pub three_times : 3 * notice_pages plan t ≤ plan.notice
  pub alone : pages_alone plan t.next ≤ plan.period

-- ---- what an instruction needs

-- a commit: no swap is pending, and the next configuration is sound, is not the current one, and has room for its
-- pages
pub record CanCommit (plan : Plan) (t : Known) : Type 0 where
  pub idle : t.pending ≡ Idle
  pub sound : IsSound t.next
  pub changes : t.next ≢ t.current
  pub room : HasRoom plan t

-- a wait certainly ends before the swap, or certainly not before it; a swap that may already have been made may also
-- fall during the wait
abbrev pub IsCertain : ℕ → Swap → Type 0
IsCertain frames Idle = Unit {0}
IsCertain frames (Within lo hi) = (frames < lo) ⊎ (hi ≤ frames)
IsCertain frames (Perhaps hi) = Unit {0}

abbrev pub IsSurelyPending : Swap → Type 0
IsSurelyPending Idle = ⊥
IsSurelyPending (Within lo hi) = Unit {0}
IsSurelyPending (Perhaps hi) = ⊥

abbrev pub IsFine : Plan → Instr → Known → Type 0
IsFine plan (Edits edit) t = (t.pending ≡ Idle) × (edit_fault edit t.next ≡ None)
IsFine plan (CommitIn delay) t = CanCommit plan t × (plan.notice ≤ delay)
IsFine plan (CommitAt count) t = CanCommit plan t × IsSwapCount (layout_mode plan.layout) count
IsFine plan (Wait frames) t = IsCertain frames t.pending
IsFine plan (Until day) t = Unit {0}
IsFine plan (WaitContact contact closed) t = Unit {0}
IsFine plan (WaitAny closed opened until frames) t = Unit {0}
IsFine plan Join t = IsSurelyPending t.pending
IsFine plan Settle t = Unit {0}
IsFine plan (Loop counter target) t = is_set t.counters counter ≡ true
IsFine plan (Set counter times) t = Unit {0}
IsFine plan (Test contact target) t = Unit {0}
IsFine plan (TestTime from to target) t = Unit {0}
IsFine plan (Jump target) t = Unit {0}
IsFine plan End t = Unit {0}

-- ---- what holds after an instruction

-- the swap has been made
abbrev pub known_after_swap : Known → Known
known_after_swap t = record t { current = t.next; pending = Idle }

-- after this many frames, whether the swap certainly falls after them, certainly within them, or neither is certain
abbrev pub after_wait : ℕ → Swap → Known → Known
after_wait frames Idle t = t
after_wait frames (Within lo hi) t =
    if nat_lt frames lo then record t { pending = Within (lo - frames) (hi - frames) } else known_after_swap t
after_wait frames (Perhaps hi) t =
    if nat_lt frames hi then record t { pending = Perhaps (hi - frames) } else known_after_swap t

-- after one frame or more, where the swap falls after at most this many frames
abbrev pub perhaps_swapped : ℕ → Known → Known
perhaps_swapped hi t = if nat_lt 1 hi then record t { pending = Perhaps (hi - 1) } else known_after_swap t

-- after one frame or more
abbrev pub after_pause : Swap → Known → Known
after_pause Idle t = t
after_pause (Within lo hi) t = perhaps_swapped hi t
after_pause (Perhaps hi) t = perhaps_swapped hi t

-- after the swap, where one is pending
abbrev pub after_settle : Swap → Known → Known
after_settle Idle t = t
after_settle (Within lo hi) t = known_after_swap t
after_settle (Perhaps hi) t = known_after_swap t

-- one instruction has run
abbrev pub spent : Known → Known
spent t = record t { allowance = t.allowance - 1 }

-- the next instruction runs in a later frame, with the whole budget
abbrev pub rested : Plan → Known → Known
rested plan t = record t { allowance = plan.budget }

-- what holds at the following instruction; a `Settle` may continue in the same frame, so it renews no allowance
abbrev pub leaves : Plan → Instr → Known → Known
leaves plan (Edits edit) t = spent (record t { next = changed edit t.next })
leaves plan (CommitIn delay) t =
    spent (record t { pending = Within delay (delay + (count_step (layout_mode plan.layout) - 1)) })
leaves plan (CommitAt count) t = spent (record t { pending = Within plan.notice (plan.notice + (COUNTS - 1)) })
leaves plan (Wait frames) t = rested plan (after_wait frames t.pending t)
leaves plan (Until day) t = rested plan (after_pause t.pending t)
leaves plan (WaitContact contact closed) t = rested plan (after_pause t.pending t)
leaves plan (WaitAny closed opened until frames) t = rested plan (after_pause t.pending t)
leaves plan Join t = rested plan (known_after_swap t)
leaves plan Settle t = spent (after_settle t.pending t)
leaves plan (Set counter times) t = spent (record t { counters = with_counter counter t.counters })
leaves plan (Loop counter target) t = spent (record t { counters = without_counter counter t.counters })
leaves plan (Test contact target) t = spent t
leaves plan (TestTime from to target) t = spent t
leaves plan (Jump target) t = spent t
leaves plan End t = spent t

-- ---- what fits a label

abbrev pub HasConfigurationsOf : Known → Known → Type 0
HasConfigurationsOf t declared = (t.current ≡ declared.current) × (t.next ≡ declared.next)

-- whether a flow's swap fits a label's: none pending in both; bounds within the label's; or, for a label with
-- `Perhaps`, a swap that falls no later than the label says or has already been made
abbrev pub FitsSwap : Swap → Swap → Known → Known → Type 0
FitsSwap Idle Idle t declared = HasConfigurationsOf t declared
FitsSwap Idle (Within low high) t declared = ⊥
FitsSwap Idle (Perhaps high) t declared = (t.current ≡ declared.next) × (t.next ≡ declared.next)
FitsSwap (Within lo hi) Idle t declared = ⊥
FitsSwap (Within lo hi) (Within low high) t declared = HasConfigurationsOf t declared × (low ≤ lo) × (hi ≤ high)
FitsSwap (Within lo hi) (Perhaps high) t declared = HasConfigurationsOf t declared × (hi ≤ high)
FitsSwap (Perhaps hi) Idle t declared = ⊥
FitsSwap (Perhaps hi) (Within low high) t declared = ⊥
FitsSwap (Perhaps hi) (Perhaps high) t declared = HasConfigurationsOf t declared × (hi ≤ high)

-- ---- the properties of an instruction

-- whether it commits the next configuration
abbrev pub commits : Instr → Bool
commits (CommitIn delay) = true
commits (CommitAt count) = true
commits _ = false

-- its jump target; a jump changes nothing, so a loop's counter is still set there
abbrev pub target_of : Instr → Option ℕ
target_of (Test contact target) = Some target
target_of (TestTime from to target) = Some target
target_of (Jump target) = Some target
target_of (Loop counter target) = Some target
target_of _ = None

-- whether it can continue to the following instruction
abbrev pub continues : Instr → Bool
continues (Jump target) = false
continues End = false
continues _ = true

-- whether the next instruction, if any, runs in a later frame
abbrev pub suspends : Instr → Bool
suspends (Wait frames) = true
suspends (Until day) = true
suspends (WaitContact contact closed) = true
suspends (WaitAny closed opened until frames) = true
suspends Join = true
suspends End = true
suspends _ = false
