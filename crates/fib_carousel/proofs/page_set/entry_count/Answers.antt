use Rattle.fib_carousel.proofs.Sendable.{sendable_facts}
use Rattle.fib_carousel.proofs.page_set.entry_count.Goals as goal

pub returns-clause-sendable : goal.returns-clause-sendable
returns-clause-sendable g c = λ next. sendable_facts _ next c.sub_count.ensures.configuration
