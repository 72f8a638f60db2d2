use Rattle.stream_check.proofs.Words.{refl}
use Rattle.stream_check.proofs.Followed.{some_fibs, follows_nothing}
use Rattle.stream_check.proofs.checker.Checker.new.Goals as goal

pub returns : goal.returns
returns c = λ r start. follows_nothing r c.args.mode c.args.period start _ c.fibs.ensures.value c.new-2.ensures refl
    refl c.new.ensures.knows c.new.ensures.noted (some_fibs c.args.mode)
