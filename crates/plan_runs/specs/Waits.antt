-- How long a suspended code waits.
use Rattle.std.specs.Prelude.{◌≡◌, ◌⊎◌, ℕ, ◌<◌, true, false, List, Some}
use Rattle.plan_code.specs.declared.hold.Hold.{Hold}
use Rattle.plan_code.specs.declared.hold.Hold.TheVariants.{Running, Waits, WaitsDay, WaitsContact, WaitsAny, WaitsSwap}
use Rattle.plan_code.specs.declared.hold.Hold.TheVariants.{Ended}
use Rattle.plan_code.specs.declared.instr.Instr.{Instr}
use Rattle.plan_code.specs.declared.instr.Instr.TheVariants.{Wait, Until, WaitContact, WaitAny, Join, End}
use Rattle.plan_code.specs.declared.flags.Contacts.{Contacts}
use Rattle.plan_code.specs.Flags.{is_in, is_closed}
use Rattle.plan_code.specs.Program.{Program}
use Rattle.plan_code.specs.Machine.{State}
use Rattle.plan_runs.specs.declared.event.Event.{Event}
use Rattle.plan_runs.specs.Frames.{is_due, shown, after_frame}
use Rattle.plan_runs.specs.Firsts.{is_active, CarriesOut, IsFirstWhere}
use Rattle.plan_runs.specs.TypedRuns.{IsPlayed}

-- what the machine waits for after the instruction, if that suspends in every state
abbrev pub IsWaitOf : Instr → Hold → Type 0
IsWaitOf (Wait frames) hold = hold ≡ Waits frames
IsWaitOf (Until t) hold = hold ≡ WaitsDay t
IsWaitOf (WaitContact c closed) hold = hold ≡ WaitsContact c closed
IsWaitOf (WaitAny closed opened until frames) hold = hold ≡ WaitsAny closed opened until frames
IsWaitOf Join hold = hold ≡ WaitsSwap
IsWaitOf End hold = hold ≡ Ended
IsWaitOf _ hold = Unit {0}

-- one of the contacts of the set is closed; below, one of them is open
abbrev pub HasClosed : (set contacts : Contacts) → Type 0
HasClosed set contacts = (c : ℕ) × (c < 16) × (is_in set c ≡ true) × (is_closed contacts c ≡ true)

abbrev pub HasOpen : (set contacts : Contacts) → Type 0
HasOpen set contacts = (c : ℕ) × (c < 16) × (is_in set c ≡ true) × (is_closed contacts c ≡ false)

-- the wait ends with the frame from this state, the n-th after the one that suspended; a running machine does not wait
abbrev pub HasCome : Hold → ℕ → State → Type 0
HasCome Running n s = ⊥
HasCome (Waits frames) n s = n ≡ frames
HasCome (WaitsDay t) n s = s.day ≡ t
HasCome (WaitsContact c closed) n s = is_closed s.contacts c ≡ closed
HasCome (WaitsAny closed opened until frames) n s =
    HasClosed closed s.contacts ⊎ (HasOpen opened s.contacts ⊎ ((until ≡ Some s.day) ⊎ (frames ≡ Some n)))
HasCome WaitsSwap n s = is_due s.left ≡ true
HasCome Ended n s = ⊥

-- the first frame after this one that executes instructions is the first with which the wait ends
abbrev pub WaitsUntil : Program → State → List Event → Type 0
WaitsUntil p s events = IsFirstWhere (is_active p) (HasCome (shown p s).hold) 1 p (after_frame p s) events

-- ---- the laws

-- an instruction that suspends is the last of its frame
abbrev pub InstructionsSuspend : Type 0
InstructionsSuspend = (p : Program) (s : State) (i : Instr) → IsPlayed p s → CarriesOut p s i
    → IsWaitOf i (shown p s).hold

abbrev pub WaitsAreKept : Type 0
WaitsAreKept = (p : Program) (s : State) (events : List Event) → IsPlayed p s → WaitsUntil p s events
