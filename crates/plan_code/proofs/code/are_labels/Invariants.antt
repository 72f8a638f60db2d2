use Rattle.plan_code.proofs.Words.{◌↔◌, drop}
use Rattle.plan_code.proofs.Ascending.{AreLabels}
use Rattle.plan_code.proofs.code.are_labels.Given as goal

abbrev pub invariant-loop-label : goal.invariant-loop-label
invariant-loop-label l = AreLabels l.configs 0 l.labels ↔ AreLabels l.configs l.low (drop l.label-index l.labels)
