use Rattle.std.proofs.Common.{◌+◌, ◌≤◌}
use Rattle.cli_timeline.proofs.timeline.print_run.Given as goal

-- the frames that are left can be numbered
abbrev pub invariant-loop-number : goal.invariant-loop-number
invariant-loop-number g l = record { room : l.at.frame + l.at.left ≤ 18446744073709551615 }
