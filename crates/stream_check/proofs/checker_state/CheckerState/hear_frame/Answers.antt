use Rattle.stream_check.proofs.Words.{◌∙◌, Bool, CheckerState, FrameAt, Hears, HearsFrame, List, ap}
use Rattle.stream_check.proofs.Words.{false, frame_sent, map, not, subst, sym, with_frame, ℕ}
use Rattle.stream_check.proofs.FrameEnd.{frame_done, frame_full}
use Rattle.stream_check.proofs.checker_state.CheckerState.hear_frame.Goals as goal

abbrev at_of : ℕ → ℕ → FrameAt
at_of n c = record { frame = n; count = c }

pub returns-clause-heard : goal.returns-clause-heard
returns-clause-heard g c = λ r.
    let is = c.count_of-count.ensures.value r in
    subst (λ (m : CheckerState). HearsFrame c.args.size (map r.read c.args.fibs.now) c.args.self.now
    (g.R.Report.reported c.args.report.now) m (g.R.Report.reported c.report_silent.new.report) false)
    (ap (λ n. with_frame n c.hear_fibs.new.self) (sym is)
    ∙ sym (c.end_frame.ensures ∙ ap (with_frame c.count_of-count.result) c.find_oldest.ensures))
    (frame_done c.args.size (map r.read c.args.fibs.now) (at_of c.args.self.now.frames c.count_of-count.result)
    c.args.self.now c.hear_fibs.new.self (g.R.Report.reported c.args.report.now)
    (g.R.Report.reported c.report_silent.new.report) (g.R.Report.reported c.report_frame.new.report)
    (g.R.Report.reported c.hear_fibs.new.report)
    (ap (at_of c.args.self.now.frames) is) (c.report_frame.ensures r)
    (subst (λ (t : Bool). Hears (at_of c.args.self.now.frames c.count_of-count.result)
    (frame_sent (map r.read c.args.fibs.now)) c.args.self.now (g.R.Report.reported c.report_frame.new.report)
    c.hear_fibs.new.self (g.R.Report.reported c.hear_fibs.new.report) (not t)) c.if-not-hear_fibs.false
    (subst (λ (fs : List (List ℕ)). Hears (at_of c.args.self.now.frames c.count_of-count.result)
    (frame_sent (map r.read fs)) c.args.self.now (g.R.Report.reported c.report_frame.new.report)
    c.hear_fibs.new.self (g.R.Report.reported c.hear_fibs.new.report) (not c.hear_fibs.result)) c.as_slice.ensures
    (c.hear_fibs.ensures.heard r)))
    c.hear_fibs.ensures.later c.report_silent.ensures)

pub returns-then-not-hear_fibs-clause-heard : goal.returns-then-not-hear_fibs-clause-heard
returns-then-not-hear_fibs-clause-heard g c = λ r.
    frame_full c.args.size (map r.read c.args.fibs.now) (at_of c.args.self.now.frames c.count_of-count.result)
    c.args.self.now c.hear_fibs.new.self (g.R.Report.reported c.args.report.now)
    (g.R.Report.reported c.hear_fibs.new.report) (g.R.Report.reported c.report_frame.new.report)
    (ap (at_of c.args.self.now.frames) (c.count_of-count.ensures.value r)) (c.report_frame.ensures r)
    (subst (λ (t : Bool). Hears (at_of c.args.self.now.frames c.count_of-count.result)
    (frame_sent (map r.read c.args.fibs.now)) c.args.self.now (g.R.Report.reported c.report_frame.new.report)
    c.hear_fibs.new.self (g.R.Report.reported c.hear_fibs.new.report) (not t)) c.if-not-hear_fibs.true
    (subst (λ (fs : List (List ℕ)). Hears (at_of c.args.self.now.frames c.count_of-count.result)
    (frame_sent (map r.read fs)) c.args.self.now (g.R.Report.reported c.report_frame.new.report)
    c.hear_fibs.new.self (g.R.Report.reported c.hear_fibs.new.report) (not c.hear_fibs.result)) c.as_slice.ensures
    (c.hear_fibs.ensures.heard r)))
