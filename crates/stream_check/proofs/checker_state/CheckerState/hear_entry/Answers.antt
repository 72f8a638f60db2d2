use Rattle.stream_check.proofs.Words.{◌==◌, ◌∙◌, ◌≡◌, ◌≢◌, EnsembleInformation, ap, ensemble_findings, eqb-true}
use Rattle.stream_check.proofs.Words.{false≢true, if◌then◌else◌, in_frame, known_in, makes_swap, map, subst, sym}
use Rattle.stream_check.proofs.Words.{with_ensemble, with_more, with_swap}
use Rattle.stream_check.proofs.Steps.{hears_ensemble}
use Rattle.stream_check.proofs.Parting.{sends_ensemble, sends_member}
use Rattle.stream_check.proofs.checker_state.CheckerState.hear_entry.Goals as goal

pub returns-then-is_ensemble-clause-heard : goal.returns-then-is_ensemble-clause-heard
returns-then-is_ensemble-clause-heard g c =
    let zero = eqb-true c.args.entry.now.ext 0 (sym c.is_ensemble.ensures.value ∙ c.if-is_ensemble.true) in
    let is = subst (λ (e : EnsembleInformation). c.hear_ensemble.new.self
    ≡ with_ensemble c.args.first e
    (if makes_swap (known_in c.args.self.now) e then with_swap c.args.self.now else c.args.self.now))
    c.ensemble.ensures c.hear_ensemble.ensures.state in
    sends_ensemble c.args.at c.args.first c.args.next c.args.entry.now c.args.self.now c.hear_ensemble.new.self
    (g.R.Report.reported c.args.report.now) (g.R.Report.reported c.hear_ensemble.new.report) zero is
    (hears_ensemble c.args.at c.args.first c.args.next c.args.entry.now c.args.self.now c.hear_ensemble.new.self
    (g.R.Report.reported c.args.report.now) (g.R.Report.reported c.hear_ensemble.new.report) zero
    (subst (λ (e : EnsembleInformation). g.R.Report.reported c.hear_ensemble.new.report
    ≡ with_more (g.R.Report.reported c.args.report.now)
    (map (in_frame c.args.at) (ensemble_findings (known_in c.args.self.now) c.args.first e))) c.ensemble.ensures
    c.hear_ensemble.ensures.reported)
    is)

pub returns-clause-heard : goal.returns-clause-heard
returns-clause-heard g c =
    let other : c.args.entry.now.ext ≢ 0 =
    λ zero. false≢true (sym c.if-is_ensemble.false ∙ c.is_ensemble.ensures.value ∙ ap (λ n. n == 0) zero) in
    sends_member _ _ _ _ _ _ _ _ _ other c.hear_member.ensures.noted (c.hear_member.ensures.heard c.args.first)
