use Rattle.stream_check.proofs.Words.{count_findings, known_in, notice_faults, unit_faults}
use Rattle.stream_check.proofs.Chain.{more_thrice}
use Rattle.stream_check.proofs.checker_state.CheckerState.report_swap.Goals as goal

pub returns : goal.returns
returns g c =
    more_thrice c.args.at (g.R.Report.reported c.args.report.now) (g.R.Report.reported c.report_count.new.report)
    (g.R.Report.reported c.report_notice.new.report) (g.R.Report.reported c.report_units.new.report)
    (count_findings (known_in c.args.self.now) c.args.ensemble.now) (notice_faults (known_in c.args.self.now))
    (unit_faults (known_in c.args.self.now))
    c.report_count.ensures c.report_notice.ensures c.report_units.ensures
