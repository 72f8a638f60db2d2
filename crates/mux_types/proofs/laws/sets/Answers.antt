use Rattle.mux_types.proofs.Members.{one_list, with_adds, without_takes, changed_replaces}
use Rattle.mux_types.proofs.laws.sets.Goals as goal

pub returns : goal.returns
returns g c = record {
  one_list = one_list g.T.Keyed.key;
  adds = with_adds g.T.Keyed.key;
  takes = without_takes g.T.Keyed.key;
  replaces = changed_replaces g.T.Keyed.key;
}
