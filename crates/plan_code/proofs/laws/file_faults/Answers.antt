use Rattle.plan_code.proofs.PlacedFiles.{truncated_before_places}
use Rattle.plan_code.proofs.SteadyFiles.{cuts_are_truncated, file_faults_stay, file_faults_are_first}
use Rattle.plan_code.proofs.laws.file_faults.Goals as goal

pub returns : goal.returns
returns c = record {
  cuts = cuts_are_truncated;
  stays = file_faults_stay;
  first = file_faults_are_first;
  places = truncated_before_places;
}
