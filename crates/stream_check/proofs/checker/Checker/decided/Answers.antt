use Rattle.stream_check.proofs.Words.{◌∙◌, Checking, ap, refl}
use Rattle.stream_check.proofs.Followed.{summed_so_far}
use Rattle.stream_check.proofs.checker.Checker.decided.Goals as goal

pub returns : goal.returns
returns c = λ r mode period stream start reported f.
    summed_so_far r mode period stream start reported c.args.self.now _ f
    (c.frames.ensures ∙ ap (λ (x : Checking). x.state.frames) c.self.view_is)
    (ap (λ (x : Checking). x.skipped) c.self.view_is)
    refl (ap (λ (x : Checking). x.damaged) c.self.view_is)
