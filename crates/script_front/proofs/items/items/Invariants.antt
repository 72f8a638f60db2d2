use Rattle.script_front.proofs.ReadingItems.{GoesOn}
use Rattle.script_front.proofs.items.items.Given as goal

abbrev pub invariant-loop-reader : goal.invariant-loop-reader
invariant-loop-reader l = GoesOn l.list.items l.fn.left l.left l.fn.reader l.reader

abbrev pub decreases-loop-reader : goal.decreases-loop-reader
decreases-loop-reader l = l.left
