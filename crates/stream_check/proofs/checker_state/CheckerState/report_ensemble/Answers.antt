use Rattle.stream_check.proofs.Words.{◌++◌, announcement, known_in, place_faults, swap_or_another, unannounced_findings}
use Rattle.stream_check.proofs.Chain.{more_pair, more_thrice}
use Rattle.stream_check.proofs.checker_state.CheckerState.report_ensemble.Goals as goal

pub returns : goal.returns
returns g c =
    let before = g.R.Report.reported c.args.report.now in
    let place = g.R.Report.reported c.report_place.new.report in
    let swap = g.R.Report.reported c.report_swap_or_another.new.report in
    let told = g.R.Report.reported c.report_announcement.new.report in
    let after = g.R.Report.reported c.report_unannounced.new.report in
    let k = known_in c.args.self.now in
    let e = c.args.ensemble.now in
    more_thrice c.args.at before place swap after (place_faults k c.args.first e) (swap_or_another k e)
    (announcement k e ++ unannounced_findings k e)
    c.report_place.ensures c.report_swap_or_another.ensures
    (more_pair c.args.at swap told after (announcement k e) (unannounced_findings k e) c.report_announcement.ensures
    c.report_unannounced.ensures)
