-- The law of schedules: a certified code plays as the schedule prescribes.
use Rattle.std.specs.Prelude.{◌≡◌, List, None}
use Rattle.std.specs.List.{AllByRecursion}
use Rattle.mux_types.specs.Configuration.{Configuration}
use Rattle.plan_code.specs.Machine.{State}
use Rattle.plan_code.specs.Program.{Program, IsProgram}
use Rattle.plan_verifier.specs.Typing.{IsTyped}
use Rattle.plan_runs.specs.declared.event.Event.{Event}
use Rattle.plan_runs.specs.declared.event.Start.{Start}
use Rattle.plan_runs.specs.Runs.{StartIsInRange, IsEvent, IsStart, run}
use Rattle.schedule_front.specs.Tree.{Tree}
use Rattle.schedule_runs.specs.Machine.{Airing, airing_of, PerformsAll}
use Rattle.schedule_verifier.specs.Certificate.{IsCertified}

-- at the start this configuration is on air, and no change was announced
abbrev pub begun : Configuration → Start → Airing
begun opening start =
    record {
      current = opening;
      next = opening;
      left = None;
      contacts = start.contacts;
      count = start.count;
      day = start.day;
    }

-- over these events the schedule's machine, begun like this, comes to exactly one airing, and it is that of the state
pub record PlaysAlong (s : Tree) (begun : Airing) (events : List Event) (state : State) : Type 0 where
  pub end : Airing
  pub comes : PerformsAll s begun events end
  pub only : (other : Airing) → PerformsAll s begun events other → other ≡ end
  pub same : airing_of state ≡ end

-- the code, which begins with this configuration, plays as the schedule prescribes: from every start in range, after
-- every list of events
abbrev pub PlaysAsScheduled : Tree → Configuration → Program → Type 0
PlaysAsScheduled s opening code =
    (start : Start) (first : State) (events : List Event)
    → StartIsInRange start → IsStart code start first → AllByRecursion IsEvent events
    → PlaysAlong s (begun opening start) events (run code first events)

-- the law of schedules: every typed code that is certified does
abbrev pub CertifiedCodesPlay : Type 0
CertifiedCodesPlay =
    (s : Tree) (opening : Configuration) (code : Program) → IsProgram code → IsTyped code
    → IsCertified s opening code → PlaysAsScheduled s opening code
