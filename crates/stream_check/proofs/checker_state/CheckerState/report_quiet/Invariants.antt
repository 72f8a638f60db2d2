use Rattle.stream_check.proofs.Words.{◌≡◌, ◌≢◌, AllByRecursion, Heard, in_frame, length, map, quiet_findings, with_more}
use Rattle.stream_check.proofs.checker_state.CheckerState.report_quiet.Given as goal

abbrev pub invariant-loop-entry : goal.invariant-loop-entry
invariant-loop-entry g l = record {
  reported : with_more (g.R.Report.reported l.report)
      (map (in_frame l.at) (quiet_findings l.self.swapped l.self.period l.self.frames l.rest))
      ≡ with_more (g.R.Report.reported l.initial.report)
      (map (in_frame l.at) (quiet_findings l.self.swapped l.self.period l.self.frames l.table));
  members : AllByRecursion (λ (h : Heard). h.raw.ext ≢ 0) l.rest;
}

abbrev pub decreases-loop-entry : goal.decreases-loop-entry
decreases-loop-entry g l = length l.rest
