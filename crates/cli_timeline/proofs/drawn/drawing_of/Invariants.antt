use Rattle.std.proofs.Common.{◌+◌, ◌≤◌}
use Rattle.cli_timeline.proofs.drawn.drawing_of.Given as goal

-- the frames that are left can be numbered
abbrev pub invariant-loop-number : goal.invariant-loop-number
invariant-loop-number l = record { room : l.at.frame + l.at.left ≤ 18446744073709551615 }
