use Rattle.script_compiler.proofs.Words.{◌≡◌, map, priced_label, take}
use Rattle.script_compiler.proofs.labels.labels_of.Given as goal

abbrev pub invariant-loop-unpriced_label : goal.invariant-loop-unpriced_label
invariant-loop-unpriced_label l = l.labels.items ≡ map (priced_label l.needs) (take l.unpriced_label-index l.unpriced)
