-- One frame of the player, in four steps: a due swap, the instructions, the bytes, and the counts.
use Rattle.std.specs.Prelude.{◌≡◌, ℕ, zero, suc, ◌+◌, ◌-◌, ◌%◌, ◌≤◌, ◌==◌, ◌&&◌, ◌||◌, Bool, true, false, if◌then◌else◌}
use Rattle.std.specs.Prelude.{nat_le, List, Option, Some, None}
use Rattle.fib_codec.specs.Layouts.{layout_mode}
use Rattle.mux_config.specs.Configuration.{Configuration}
use Rattle.mux_types.specs.Entries.{EnsembleInformation}
use Rattle.mux_types.specs.Facts.{Marked}
use Rattle.mux_config.specs.Change.{change_of, bits_of}
use Rattle.mux_config.specs.Sameness.{is_same_flag}
use Rattle.fib_codec.specs.Modes.{count_step}
use Rattle.fib_carousel.specs.Pages.{page_set, rounds, page_after}
use Rattle.fib_carousel.specs.Bytes.{page_bytes}
use Rattle.mux_types.specs.declared.limits.TheConstants.{COUNTS}
use Rattle.plan_code.specs.declared.limits.TheConstants.{FRAMES_A_DAY}
use Rattle.plan_code.specs.declared.hold.Hold.{Hold}
use Rattle.plan_code.specs.declared.hold.Hold.TheVariants.{Running, Waits, WaitsDay, WaitsContact, WaitsAny, WaitsSwap}
use Rattle.plan_code.specs.declared.hold.Hold.TheVariants.{Ended}
use Rattle.plan_code.specs.declared.plan.Plan.{Plan}
use Rattle.plan_code.specs.declared.flags.Contacts.{Contacts}
use Rattle.plan_code.specs.Flags.{is_closed, any_closed, any_open}
use Rattle.plan_code.specs.Program.{Program}
use Rattle.plan_code.specs.Machine.{State, step, StepIsAllowed}

-- ---- first: the swap

-- a swap is due: no frame is left until it
abbrev pub is_due : Option ℕ → Bool
is_due None = false
is_due (Some left) = left == 0

-- a wait for the swap ends
abbrev pub hold_after_swap : Hold → Hold
hold_after_swap WaitsSwap = Running
hold_after_swap hold = hold

-- the next configuration becomes the current one, and page 0 is in turn
abbrev pub with_swap : State → State
with_swap s = record s { current = s.next; left = None; hold = hold_after_swap s.hold; page_index = 0 }

abbrev pub with_due_swap : State → State
with_due_swap s = if is_due s.left then with_swap s else s

-- ---- second: the instructions

-- the machine is not suspended: instructions are executed
abbrev pub is_running : Hold → Bool
is_running Running = true
is_running (Waits n) = false
is_running (WaitsDay t) = false
is_running (WaitsContact c closed) = false
is_running (WaitsAny closed opened until left) = false
is_running WaitsSwap = false
is_running Ended = false

-- it is this frame of the day, if there is one
abbrev pub is_day : ℕ → Option ℕ → Bool
is_day day None = false
is_day day (Some t) = day == t

-- one of the alternatives is met; a number of frames is when none is left
abbrev pub is_any_here : State → (closed opened : Contacts) → (until left : Option ℕ) → Bool
is_any_here s closed opened until left =
    any_closed closed s.contacts || (any_open opened s.contacts || (is_day s.day until || is_due left))

-- the wait condition is met; where the machine is running, there is none
abbrev pub is_here : State → Hold → Bool
is_here s Running = true
is_here s (Waits n) = n == 0
is_here s (WaitsDay t) = s.day == t
is_here s (WaitsContact c closed) = is_same_flag (is_closed s.contacts c) closed
is_here s (WaitsAny closed opened until left) = is_any_here s closed opened until left
is_here s WaitsSwap = false
is_here s Ended = false

abbrev pub with_hold_ended : State → State
with_hold_ended s = if is_here s s.hold then record s { hold = Running } else s

-- the state in which instructions are executed
abbrev pub ready : State → State
ready s = with_hold_ended (with_due_swap s)

-- n instructions, none of which traps, take s to t, where the machine is suspended
abbrev pub Executes : Program → State → ℕ → State → Type 0
Executes p s zero t = (is_running s.hold ≡ false) × (s ≡ t)
Executes p s (suc n) t = (is_running s.hold ≡ true) × StepIsAllowed p s × Executes p (step p s) n t

-- executes instructions until one suspends, at most `most`; below, the number executed
abbrev pub burst : ℕ → Program → State → State
burst zero p s = s
burst (suc most) p s = if is_running s.hold then burst most p (step p s) else s

abbrev pub burst_steps : ℕ → Program → State → ℕ
burst_steps zero p s = 0
burst_steps (suc most) p s = if is_running s.hold then 1 + burst_steps most p (step p s) else 0

-- the state after the instructions of a frame, and how many of them it executes
abbrev pub after_burst : Program → State → State
after_burst p s = burst p.plan.budget p (ready s)

abbrev pub frame_steps : Program → State → ℕ
frame_steps p s = burst_steps p.plan.budget p (ready s)

-- the frame has no trap: its instructions are allowed and reach a suspension, within the budget
pub record FrameIsAllowed (p : Program) (s : State) : Type 0 where
  pub steps : ℕ
  pub within : steps ≤ p.plan.budget
  pub executes : Executes p (ready s) steps (after_burst p s)
  pub counted : frame_steps p s ≡ steps

-- a number of instructions that reaches a suspension is unique, and within the budget it is the number of the frame
pub record IsOneBurst (p : Program) (s : State) (n : ℕ) (t : State) : Type 0 where
  pub only : (m : ℕ) (u : State) → Executes p s m u → (m ≡ n) × (u ≡ t)
  pub computed : (most : ℕ) → n ≤ most → (burst most p s ≡ t) × (burst_steps most p s ≡ n)

abbrev pub BurstsAreOne : Type 0
BurstsAreOne = (p : Program) (s : State) (n : ℕ) (t : State) → Executes p s n t → IsOneBurst p s n t

-- ---- third: the bytes

-- the frame is in the notice: from W frames before the swap to the last one before it
abbrev pub is_noticed : ℕ → Option ℕ → Bool
is_noticed notice None = false
is_noticed notice (Some left) = nat_le 1 left && nat_le left notice

-- the frame is the first of the notice
abbrev pub is_first_noticed : ℕ → Option ℕ → Bool
is_first_noticed notice None = false
is_first_noticed notice (Some left) = left == notice

-- a notice begins with page 0; this is the state that the bytes are made from
abbrev pub shown : Program → State → State
shown p s =
    let t = after_burst p s in
    if is_first_noticed p.plan.notice t.left then record t { page_index = 0 } else t

-- the next configuration if it is sent with the current one, that is, in a notice
abbrev pub announced_next : Plan → State → Option Configuration
announced_next plan s = if is_noticed plan.notice s.left then Some s.next else None

abbrev pub sent_entries : Plan → State → List Marked
sent_entries plan s = page_set s.current (announced_next plan s)

-- the number of pages of what is sent
abbrev pub sent_rounds : Plan → State → ℕ
sent_rounds plan s = rounds plan.layout (sent_entries plan s)

-- the low part of the count of a swap that falls this many frames later
abbrev pub low_of_swap : ℕ → Option ℕ → ℕ
low_of_swap count None = 0
low_of_swap count (Some left) = (count + left) % COUNTS % 250

-- FIG 0/0: without change flags, or in a notice with those of the change and the low part of the swap's count
abbrev pub ensemble_of : Plan → State → EnsembleInformation
ensemble_of plan s =
    if is_noticed plan.notice s.left then
    record {
      eid = s.eid;
      change = bits_of (change_of s.current s.next);
      al = false;
      count = s.count;
      occurrence = Some (low_of_swap s.count s.left);
    }
    else record { eid = s.eid; change = 0; al = false; count = s.count; occurrence = None }

-- it is sent if the count is a multiple of the mode's step
abbrev pub ensemble_sent : Plan → State → Option EnsembleInformation
ensemble_sent plan s = if s.count % count_step (layout_mode plan.layout) == 0 then Some (ensemble_of plan s) else None

abbrev pub shown_bytes : Plan → State → List ℕ
shown_bytes plan s = page_bytes plan.layout (ensemble_sent plan s) s.page_index (sent_entries plan s)

abbrev pub frame_bytes : Program → State → List ℕ
frame_bytes p s = shown_bytes p.plan (shown p s)

-- ---- fourth: the counts

abbrev pub left_after_frame : Option ℕ → Option ℕ
left_after_frame None = None
left_after_frame (Some left) = Some (left - 1)

abbrev pub hold_after_frame : Hold → Hold
hold_after_frame (Waits n) = Waits (n - 1)
hold_after_frame (WaitsAny closed opened until left) = WaitsAny closed opened until (left_after_frame left)
hold_after_frame hold = hold

abbrev pub with_next_counts : Plan → State → State
with_next_counts plan s =
    record s {
      left = left_after_frame s.left;
      hold = hold_after_frame s.hold;
      count = (s.count + 1) % COUNTS;
      day = (s.day + 1) % FRAMES_A_DAY;
      page_index = page_after (sent_rounds plan s) s.page_index;
    }

abbrev pub after_frame : Program → State → State
after_frame p s = with_next_counts p.plan (shown p s)

-- ---- phases

-- a phase begins with the frame of a swap and with the first frame of a notice
abbrev pub begins_phase : Program → State → Bool
begins_phase p s = is_due s.left || is_first_noticed p.plan.notice (shown p s).left
