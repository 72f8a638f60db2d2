use Rattle.fib_carousel.proofs.Words.{arith}
use Rattle.fib_carousel.proofs.Walk.{rounds_bound}
use Rattle.fib_carousel.proofs.page_cursor.Cursor.advance.Goals as goal

pub overflow_add-self : goal.overflow_add-self
overflow_add-self g c =
    omega (
      arith,
      rounds_bound c.args.layout (g.L.EntryList.entries c.args.list.now),
      c.len.ensures.count,
      c.requires.within,
    )
