use Rattle.plan_runs.proofs.Clock.{frames_are_counted, contacts_are_as_set}
use Rattle.plan_runs.proofs.Waits.{instructions_suspend, waits_are_kept}
use Rattle.plan_runs.proofs.laws.waits.Goals as goal

pub returns : goal.returns
returns c = record {
  suspends = instructions_suspend;
  kept = waits_are_kept;
  counted = frames_are_counted;
  levels = contacts_are_as_set;
}
