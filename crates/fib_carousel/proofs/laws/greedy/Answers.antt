use Rattle.fib_carousel.proofs.Least.{greedy_is_packing, packing_is_one, small_of, no_fewer}
use Rattle.fib_carousel.proofs.laws.greedy.Goals as goal

pub returns-clause-packing : goal.returns-clause-packing
returns-clause-packing c = greedy_is_packing

pub returns-clause-one : goal.returns-clause-one
returns-clause-one c = packing_is_one

pub returns-clause-small : goal.returns-clause-small
returns-clause-small c = small_of

pub returns-clause-fewest : goal.returns-clause-fewest
returns-clause-fewest c = no_fewer
