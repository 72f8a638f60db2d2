-- Quiet frames: they make no swap, execute no instruction and begin no phase.
use Rattle.std.specs.Prelude.{◌≡◌, ℕ, zero, suc, ◌+◌, ◌≤◌, true, false, replicate, Option, Some, None, IfSome}
use Rattle.plan_code.specs.declared.hold.Hold.{Hold}
use Rattle.plan_code.specs.declared.hold.Hold.TheVariants.{Running, Waits, WaitsDay, WaitsContact, WaitsAny, WaitsSwap}
use Rattle.plan_code.specs.declared.hold.Hold.TheVariants.{Ended}
use Rattle.plan_code.specs.declared.limits.TheConstants.{FRAMES_A_DAY}
use Rattle.plan_code.specs.declared.plan.Plan.{Plan}
use Rattle.plan_code.specs.declared.flags.Contacts.{Contacts}
use Rattle.plan_code.specs.Flags.{is_closed, any_closed, any_open}
use Rattle.plan_code.specs.Program.{Program}
use Rattle.plan_code.specs.Machine.{State}
use Rattle.mux_config.specs.Sameness.{is_same_flag}
use Rattle.plan_runs.specs.declared.event.Event.TheVariants.{Frame}
use Rattle.plan_runs.specs.Frames.{is_due, is_running, ready, with_next_counts, after_frame, begins_phase}
use Rattle.plan_runs.specs.Runs.{run, run_frames}
use Rattle.plan_runs.specs.Announced.{notice_frames}
use Rattle.plan_player.specs.Playing.{last_steps}

-- the next frame is quiet: no swap is due in it, the machine stays suspended, and no phase begins with it
pub record IsQuiet (p : Program) (s : State) : Type 0 where
  pub no_swap : is_due s.left ≡ false
  pub suspended : is_running (ready s).hold ≡ false
  pub no_phase : begins_phase p s ≡ false

-- each of the next n frames is quiet
abbrev pub AreQuiet : Program → ℕ → State → Type 0
AreQuiet p zero s = Unit {0}
AreQuiet p (suc n) s = IsQuiet p s × AreQuiet p n (after_frame p s)

-- ---- the law

-- the state with its counts advanced by n frames
abbrev pub counted_on : Plan → ℕ → State → State
counted_on plan zero s = s
counted_on plan (suc n) s = counted_on plan n (with_next_counts plan s)

-- the next n frames are the pages in turn of what the state sends, and advance its counts; none of them executes an
-- instruction
pub record AreCopied (p : Program) (n : ℕ) (s : State) : Type 0 where
  pub frames : run_frames p s (replicate n Frame) ≡ notice_frames p.plan n s
  pub state : run p s (replicate n Frame) ≡ counted_on p.plan n s
  pub no_steps : last_steps p s 0 (replicate n Frame) ≡ 0

-- this holds for n quiet frames: the plan and the state alone determine them
abbrev pub QuietFramesAreCopied : Type 0
QuietFramesAreCopied = (p : Program) (n : ℕ) (s : State) → AreQuiet p n s → AreCopied p n s

-- ---- how many frames are quiet

-- with this swap pending, n frames make no swap, and none of them is the first of its notice
abbrev pub SwapIsAway : ℕ → Option ℕ → ℕ → Type 0
SwapIsAway notice None n = Unit {0}
SwapIsAway notice (Some left) n = (n ≤ left) × (notice ≤ left → notice + n ≤ left)

-- none of n frames is this frame of the day, and they are all of one day
abbrev pub DayIsAway : (day n t : ℕ) → Type 0
DayIsAway day n t = 1 ≤ n → (day + n ≤ FRAMES_A_DAY) × (day ≤ t → day + n ≤ t)

-- none of the alternatives of a wait is met in n frames
pub record AreAway (s : State) (closed opened : Contacts) (until left : Option ℕ) (n : ℕ) : Type 0 where
  pub closed_away : any_closed closed s.contacts ≡ true → n ≡ 0
  pub opened_away : any_open opened s.contacts ≡ true → n ≡ 0
  pub until_away : IfSome until (DayIsAway s.day n)
  pub left_away : IfSome left (λ k. n ≤ k)

-- this wait ends in none of n frames; a running machine executes instructions in the first
abbrev pub HoldIsAway : State → Hold → ℕ → Type 0
HoldIsAway s Running n = n ≡ 0
HoldIsAway s (Waits frames) n = n ≤ frames
HoldIsAway s (WaitsDay t) n = DayIsAway s.day n t
HoldIsAway s (WaitsContact c closed) n = is_same_flag (is_closed s.contacts c) closed ≡ true → n ≡ 0
HoldIsAway s (WaitsAny closed opened until left) n = AreAway s closed opened until left n
HoldIsAway s WaitsSwap n = Unit {0}
HoldIsAway s Ended n = Unit {0}
