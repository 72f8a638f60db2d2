use Rattle.stream_check.proofs.Words.{[], ◌∷◌, Bool, HearsItems, items_of, not, subst, sym}
use Rattle.stream_check.proofs.Steps.{hears_passed, answered_current, answered_next}
use Rattle.stream_check.proofs.checker_state.CheckerState.hear_member.Goals as goal

pub returns-then-not-self-clause-heard : goal.returns-then-not-self-clause-heard
returns-then-not-self-clause-heard g c =
    λ first. hears_passed c.args.at first c.args.next c.args.entry.now c.args.self.now
    (g.R.Report.reported c.args.report.now) c.requires.member c.if-not-self.true

pub returns-then-next-clause-heard : goal.returns-then-next-clause-heard
returns-then-next-clause-heard g c = λ first.
    subst (λ (t : Bool). HearsItems c.args.at (items_of first t (c.args.entry.now ∷ [])) c.args.self.now
    (g.R.Report.reported c.args.report.now) c.hear_next.new.self (g.R.Report.reported c.hear_next.new.report)
    (not c.hear_next.result)) (sym c.if-next.true)
    (answered_next c.hear_next.result c.args.at first c.args.entry.now c.args.self.now c.hear_next.new.self
    (g.R.Report.reported c.args.report.now) (g.R.Report.reported c.hear_next.new.report) c.requires.member
    c.requires.few c.if-not-self.false
    c.hear_next.ensures.room c.hear_next.ensures.reported c.hear_next.ensures.state c.hear_next.ensures.full
    c.hear_next.ensures.nothing)

pub returns-clause-heard : goal.returns-clause-heard
returns-clause-heard g c = λ first.
    subst (λ (t : Bool). HearsItems c.args.at (items_of first t (c.args.entry.now ∷ [])) c.args.self.now
    (g.R.Report.reported c.args.report.now) c.hear_current.new.self (g.R.Report.reported c.hear_current.new.report)
    (not c.hear_current.result)) (sym c.if-next.false)
    (answered_current c.hear_current.result c.args.at first c.args.entry.now c.args.self.now c.hear_current.new.self
    (g.R.Report.reported c.args.report.now) (g.R.Report.reported c.hear_current.new.report) c.requires.member
    c.requires.few c.if-not-self.false
    c.hear_current.ensures.room c.hear_current.ensures.reported c.hear_current.ensures.state c.hear_current.ensures.full
    c.hear_current.ensures.nothing)
