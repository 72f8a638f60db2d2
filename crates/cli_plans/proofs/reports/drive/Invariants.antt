use Rattle.script_tokens.specs.Scanning.{bytes_left}
use Rattle.cli_plans.proofs.reports.drive.Given as goal

abbrev pub decreases-loop-command : goal.decreases-loop-command
decreases-loop-command g l = bytes_left l.commands
