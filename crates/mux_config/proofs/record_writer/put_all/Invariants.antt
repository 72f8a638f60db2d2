use Rattle.mux_config.proofs.Words.{◌++◌, ◌≡◌, flat_map, take}
use Rattle.mux_config.proofs.record_writer.put_all.Given as goal

abbrev pub invariant-loop-item : goal.invariant-loop-item
invariant-loop-item g l = (l.out.items ≡ l.initial.out.items ++ flat_map g.T.Spelled.text (take l.item-index l.items))
