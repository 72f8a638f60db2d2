use Rattle.stream_check.proofs.Words.{◌++◌, damaged_findings, first_line, map, missing_findings, size_findings}
use Rattle.stream_check.proofs.Chain.{more_pair, more_thrice}
use Rattle.stream_check.proofs.checker_state.CheckerState.report_frame.Goals as goal

pub returns : goal.returns
returns g c = λ r.
    let before = g.R.Report.reported c.args.report.now in
    let first = g.R.Report.reported c.report_first_line.new.report in
    let sized = g.R.Report.reported c.report_size.new.report in
    let whole = g.R.Report.reported c.report_damaged.new.report in
    let after = g.R.Report.reported c.report_missing.new.report in
    let frame = map r.read c.args.fibs.now in
    let missing = missing_findings c.args.self.now.step c.args.self.now.due frame in
    more_thrice c.args.at before first sized after (first_line c.args.self.now.due frame)
    (size_findings c.args.size frame) (damaged_findings frame ++ missing)
    (c.report_first_line.ensures r) (c.report_size.ensures r)
    (more_pair c.args.at sized whole after (damaged_findings frame) missing (c.report_damaged.ensures r)
    (c.report_missing.ensures r))
