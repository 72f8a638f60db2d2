use Rattle.stream_check.proofs.Words.{◌∙◌, Checking, ap, length, sym}
use Rattle.stream_check.proofs.Followed.{summed}
use Rattle.stream_check.proofs.checker.Checker.finish.Goals as goal

pub returns-clause-some : goal.returns-clause-some
returns-clause-some c = (
  sym c.has_begun.ensures ∙ c.if-not-has_begun.false,
  λ r mode period stream start reported f.
      summed r mode period stream start reported c.args.self.now _ f
      (c.frames.ensures ∙ ap (λ (x : Checking). x.state.frames) c.self.view_is)
      (ap (λ (x : Checking). x.skipped) c.self.view_is)
      (c.len.ensures.value ∙ ap (λ (x : Checking). length x.held) c.self.view_is)
      (ap (λ (x : Checking). x.damaged) c.self.view_is),
)
