use Rattle.std.proofs.Common.{◌++◌, ◌+◌, ◌≡◌, ◌≤◌, map, take}
use Rattle.std.specs.List.{AllByRecursion}
use Rattle.plan_takeover.specs.Refusals.{IsNear}
use Rattle.plan_takeover.specs.Takeover.{moved_label}
use Rattle.plan_takeover.proofs.moving.append_labels.Given as goal

abbrev pub invariant-loop-label : goal.invariant-loop-label
invariant-loop-label l = record {
  appended : l.labels.items ≡ l.fn.labels.items ++ map (moved_label l.by) (take l.label-index l.others);
  within : 1 + l.label-index ≤ 1024;
  near : AllByRecursion (IsNear l.by) (take l.label-index l.others);
}
