use Rattle.cli_plans.proofs.Words.{◌-◌, length}
use Rattle.cli_plans.proofs.reports.print_announcements.Given as goal

abbrev pub decreases-loop-announcement : goal.decreases-loop-announcement
decreases-loop-announcement g l = length l.debugger.announcements - l.index
