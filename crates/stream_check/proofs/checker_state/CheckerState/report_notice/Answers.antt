use Rattle.stream_check.proofs.Words.{flags_faults, heard_faults, known_in, times_faults}
use Rattle.stream_check.proofs.Chain.{more_thrice}
use Rattle.stream_check.proofs.checker_state.CheckerState.report_notice.Goals as goal

pub returns : goal.returns
returns g c =
    let k = known_in c.args.self.now in
    more_thrice c.args.at (g.R.Report.reported c.args.report.now) (g.R.Report.reported c.report_times.new.report)
    (g.R.Report.reported c.report_heard.new.report) (g.R.Report.reported c.report_flags.new.report)
    (times_faults k) (heard_faults k) (flags_faults k) c.report_times.ensures c.report_heard.ensures
    c.report_flags.ensures
