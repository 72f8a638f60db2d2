use Rattle.stream_check.proofs.Words.{Bool, Hears, ap, false, fig_sent, figs_sent, not, subst}
use Rattle.stream_check.proofs.Loops.{sets_out, goes_on, breaks_off}
use Rattle.stream_check.proofs.checker_state.CheckerState.hear_figs.Goals as goal

pub loop-fig-init : goal.loop-fig-init
loop-fig-init g c = sets_out _ _ _ _ c.requires.sane

pub loop-fig-preserved : goal.loop-fig-preserved
loop-fig-preserved g c =
    goes_on c.args.at (figs_sent c.args.first c.args.figs) (figs_sent c.loop-fig.is_first c.loop-fig.figs)
    (fig_sent c.loop-fig.is_first c.in-Some.fig) (figs_sent false c.next.new.self)
    c.args.self.now c.loop-fig.self c.hear_fig.new.self (g.R.Report.reported c.args.report.now)
    (g.R.Report.reported c.loop-fig.report) (g.R.Report.reported c.hear_fig.new.report)
    (ap (figs_sent c.loop-fig.is_first) c.in-Some.ensures.steps) c.hear_fig.ensures.later
    (subst (λ (t : Bool). Hears c.args.at (fig_sent c.loop-fig.is_first c.in-Some.fig) c.loop-fig.self
    (g.R.Report.reported c.loop-fig.report) c.hear_fig.new.self (g.R.Report.reported c.hear_fig.new.report) (not t))
    c.if-not-hear_fig.false c.hear_fig.ensures.heard)
    c.loop-fig.invariant

pub returns-then-not-hear_fig-clause-heard : goal.returns-then-not-hear_fig-clause-heard
returns-then-not-hear_fig-clause-heard g c =
    breaks_off c.args.at (figs_sent c.args.first c.args.figs) (figs_sent c.loop-fig.is_first c.loop-fig.figs)
    (fig_sent c.loop-fig.is_first c.in-Some.fig) (figs_sent false c.next.new.self)
    c.args.self.now c.loop-fig.self c.hear_fig.new.self (g.R.Report.reported c.args.report.now)
    (g.R.Report.reported c.loop-fig.report) (g.R.Report.reported c.hear_fig.new.report)
    (ap (figs_sent c.loop-fig.is_first) c.in-Some.ensures.steps)
    (subst (λ (t : Bool). Hears c.args.at (fig_sent c.loop-fig.is_first c.in-Some.fig) c.loop-fig.self
    (g.R.Report.reported c.loop-fig.report) c.hear_fig.new.self (g.R.Report.reported c.hear_fig.new.report) (not t))
    c.if-not-hear_fig.true c.hear_fig.ensures.heard)
    c.loop-fig.invariant
