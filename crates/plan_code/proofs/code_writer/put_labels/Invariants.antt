use Rattle.plan_code.proofs.Words.{◌++◌, ◌≡◌, flat_map, label_bytes, take}
use Rattle.plan_code.proofs.code_writer.put_labels.Given as goal

abbrev pub invariant-loop-label : goal.invariant-loop-label
invariant-loop-label l = l.out.items ≡ l.fn.out.items ++ flat_map label_bytes (take l.label-index l.labels)
