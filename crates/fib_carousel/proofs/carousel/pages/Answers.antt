use Rattle.fib_carousel.proofs.Words.{◌∙◌, rounds_of}
use Rattle.fib_carousel.proofs.Least.{of_packing}
use Rattle.fib_carousel.proofs.carousel.pages.Goals as goal

pub returns-clause-packing : goal.returns-clause-packing
returns-clause-packing g c = λ ns p. c.pages.ensures ∙ of_packing c.args.layout (rounds_of c.args.layout) _ ns p
