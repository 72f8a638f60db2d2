use Rattle.fib_carousel.proofs.Words.{refl}
use Rattle.fib_carousel.proofs.Headed.{kept_with}
use Rattle.fib_carousel.proofs.kept_page.KeptPage.with_ensemble.Goals as goal

pub returns-in-Some : goal.returns-in-Some
returns-in-Some c =
    λ layout ms k kept. kept_with layout ms k c.args.self.now c.args.ensemble _ _ _ kept c.in-Some.ensures.value refl
    c.put_first.ensures
