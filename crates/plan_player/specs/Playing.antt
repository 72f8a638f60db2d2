-- What a player represents: the code that it plays, the machine's state, and how many instructions its last frame
-- executed.
use Rattle.std.specs.Prelude.{◌≡◌, ℕ, if◌then◌else◌, nat_le, List, [], ◌∷◌, Option, Some, None}
use Rattle.mux_types.specs.declared.limits.TheConstants.{COUNTS}
use Rattle.plan_code.specs.declared.limits.TheConstants.{FRAMES_A_DAY}
use Rattle.plan_code.specs.Program.{Program}
use Rattle.plan_code.specs.Machine.{State}
use Rattle.plan_runs.specs.declared.event.Event.{Event}
use Rattle.plan_runs.specs.declared.event.Event.TheVariants.{Contact, Frame}
use Rattle.plan_runs.specs.declared.event.Start.{Start}
use Rattle.plan_runs.specs.Frames.{frame_steps, after_frame}
use Rattle.plan_runs.specs.Runs.{IsStart, happens, run}
use Rattle.plan_player.specs.declared.fault.StartFault.{StartFault}
use Rattle.plan_player.specs.declared.fault.StartFault.TheVariants.{Count, Day}

pub record Playing : Type 0 where
  pub code : Program
  pub state : State
  pub steps : ℕ

-- ---- the start

-- the first fault of a start
abbrev pub start_fault : Start → Option StartFault
start_fault start =
    if nat_le COUNTS start.count then Some Count
    else if nat_le FRAMES_A_DAY start.day then Some Day
    else None

-- the code is at this start, and no frame has been made yet
pub record IsAtStart (code : Program) (start : Start) (p : Playing) : Type 0 where
  pub code_is : p.code ≡ code
  pub state_is : IsStart code start p.state
  pub none_yet : p.steps ≡ 0

-- ---- events

-- the number of instructions in the last frame of these events, or in the last one before them if they have none
abbrev pub last_steps : Program → State → ℕ → List Event → ℕ
last_steps p s before [] = before
last_steps p s before (Contact c closed ∷ es) = last_steps p (happens p s (Contact c closed)) before es
last_steps p s before (Frame ∷ es) = last_steps p (after_frame p s) (frame_steps p s) es

-- the player after these events
abbrev pub played : Playing → List Event → Playing
played p events = record p { state = run p.code p.state events; steps = last_steps p.code p.state p.steps events }
