-- The state that a machine over stores represents, and what it needs to execute a frame's instructions.
use Rattle.std.specs.Prelude.{ℕ, ◌≤◌, if◌then◌else◌}
use Rattle.mux_config.specs.Configuration.{Configuration}
use Rattle.plan_code.specs.declared.plan.Plan.{Plan}
use Rattle.plan_code.specs.Program.{Program}
use Rattle.plan_code.specs.Machine.{State}
use Rattle.plan_runs.specs.Frames.{Executes, ready, is_first_noticed, shown, sent_rounds}
use Rattle.plan_runs.specs.TypedRuns.{IsPlayed, CanBeSent}
use Rattle.plan_player.specs.declared.machine.Machine.{Machine}

abbrev pub state_of : {S : Type 0} → (S → Configuration) → Machine S → State
state_of content m =
    record {
      current = content m.current;
      next = content m.next;
      left = m.left;
      pc = m.pc;
      hold = m.hold;
      counters = m.counters;
      contacts = m.contacts;
      count = m.count;
      day = m.day;
      eid = m.eid;
      page_index = m.page_index;
    }

-- within the budget, instructions without a trap take the state to a suspension
pub record CanRun (p : Program) (s : State) : Type 0 where
  pub steps : ℕ
  pub end : State
  pub within : steps ≤ p.plan.budget
  pub executes : Executes p s steps end

-- the state whose page is sent: in the first frame of a notice page 0 is in turn
abbrev pub with_notice_begun : Plan → State → State
with_notice_begun plan s = if is_first_noticed plan.notice s.left then record s { page_index = 0 } else s

-- the preconditions of the next frame: its instructions can be executed, and then it can be sent, in 60 pages or fewer
pub record CanContinue (p : Program) (s : State) : Type 0 where
  pub runs : CanRun p (ready s)
  pub sent : CanBeSent p.plan (shown p s)
  pub few : sent_rounds p.plan (shown p s) ≤ 60

-- a typed code can always continue
abbrev pub Progress : Type 0
Progress = (p : Program) (s : State) → IsPlayed p s → CanContinue p s
