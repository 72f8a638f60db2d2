use Rattle.mux_config.proofs.Places.{short_before_places}
use Rattle.mux_config.proofs.Steady.{cuts_are_short, faults_stay, faults_are_first}
use Rattle.mux_config.proofs.laws.record_faults.Goals as goal

pub returns : goal.returns
returns c = record {
  cuts = cuts_are_short;
  stays = faults_stay;
  first = faults_are_first;
  places = short_before_places;
}
