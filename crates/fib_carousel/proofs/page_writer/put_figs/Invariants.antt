use Rattle.fib_carousel.proofs.Words.{◌-◌}
use Rattle.fib_carousel.proofs.Filling.{FilledTo}
use Rattle.fib_carousel.proofs.page_writer.put_figs.Given as goal

abbrev pub invariant-entries : goal.invariant-entries
invariant-entries g l = FilledTo l.layout (g.L.EntryList.entries l.list) l.fn.place.number l.fn.fib l.position l.last
    l.fib

abbrev pub decreases-entries : goal.decreases-entries
decreases-entries g l = l.len - l.position.index
