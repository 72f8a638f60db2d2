use Rattle.stream_check.proofs.Words.{Bool, Hears, ap, false, fib_sent, fibs_sent, frame_sent, map, not, subst}
use Rattle.stream_check.proofs.Loops.{sets_out, goes_on, breaks_off}
use Rattle.stream_check.proofs.Steps.{later_itself, later_twice}
use Rattle.stream_check.proofs.checker_state.CheckerState.hear_fibs.Goals as goal

pub loop-fib-init : goal.loop-fib-init
loop-fib-init g c = (
  later_itself c.args.self.now c.requires.sane,
  λ r. sets_out c.args.at (frame_sent (map r.read c.args.fibs.now)) c.args.self.now
      (g.R.Report.reported c.args.report.now) c.requires.sane,
)

pub loop-fib-preserved : goal.loop-fib-preserved
loop-fib-preserved g c = (
  later_twice c.args.self.now c.loop-fib.self c.hear_fib.new.self c.loop-fib.invariant.0 c.hear_fib.ensures.later,
  λ r.
      goes_on c.args.at (frame_sent (map r.read c.args.fibs.now))
      (fibs_sent c.loop-fib.is_first (map r.read c.loop-fib.rest.now))
      (fib_sent c.loop-fib.is_first (r.read c.in-Some.fib.now)) (fibs_sent false (map r.read c.in-Some.after.now))
      c.args.self.now c.loop-fib.self c.hear_fib.new.self (g.R.Report.reported c.args.report.now)
      (g.R.Report.reported c.loop-fib.report) (g.R.Report.reported c.hear_fib.new.report)
      (ap (λ fibs. fibs_sent c.loop-fib.is_first (map r.read fibs)) c.in-Some.ensures.cases.0) c.hear_fib.ensures.later
      (subst (λ (t : Bool). Hears c.args.at (fib_sent c.loop-fib.is_first (r.read c.in-Some.fib.now)) c.loop-fib.self
      (g.R.Report.reported c.loop-fib.report) c.hear_fib.new.self (g.R.Report.reported c.hear_fib.new.report)
      (not t)) c.if-not-hear_fib.false (c.hear_fib.ensures.heard r))
      (c.loop-fib.invariant.1 r),
)

pub returns-then-not-hear_fib-clause-heard : goal.returns-then-not-hear_fib-clause-heard
returns-then-not-hear_fib-clause-heard g c = λ r.
    breaks_off c.args.at (frame_sent (map r.read c.args.fibs.now))
    (fibs_sent c.loop-fib.is_first (map r.read c.loop-fib.rest.now))
    (fib_sent c.loop-fib.is_first (r.read c.in-Some.fib.now)) (fibs_sent false (map r.read c.in-Some.after.now))
    c.args.self.now c.loop-fib.self c.hear_fib.new.self (g.R.Report.reported c.args.report.now)
    (g.R.Report.reported c.loop-fib.report) (g.R.Report.reported c.hear_fib.new.report)
    (ap (λ fibs. fibs_sent c.loop-fib.is_first (map r.read fibs)) c.in-Some.ensures.cases.0)
    (subst (λ (t : Bool). Hears c.args.at (fib_sent c.loop-fib.is_first (r.read c.in-Some.fib.now)) c.loop-fib.self
    (g.R.Report.reported c.loop-fib.report) c.hear_fib.new.self (g.R.Report.reported c.hear_fib.new.report) (not t))
    c.if-not-hear_fib.true (c.hear_fib.ensures.heard r))
    (c.loop-fib.invariant.1 r)
