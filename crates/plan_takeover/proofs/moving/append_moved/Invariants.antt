use Rattle.std.proofs.Common.{◌++◌, ◌+◌, ◌≡◌, ◌≤◌, map, take}
use Rattle.plan_takeover.specs.Takeover.{moved_line}
use Rattle.plan_takeover.proofs.moving.append_moved.Given as goal

abbrev pub invariant-loop-line : goal.invariant-loop-line
invariant-loop-line l = record {
  appended : l.lines.items ≡ l.fn.lines.items ++ map (moved_line l.by) (take l.line-index l.code);
  within : 1 ≤ l.line-index → l.by + l.line-index ≤ 4096;
}
