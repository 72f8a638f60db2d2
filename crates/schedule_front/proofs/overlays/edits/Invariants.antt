use Rattle.schedule_front.proofs.ReadingEdits.{GoesOn}
use Rattle.schedule_front.proofs.overlays.edits.Given as goal

abbrev pub invariant-edits : goal.invariant-edits
invariant-edits l = GoesOn l.list.items l.fn.left l.left l.fn.reader l.reader

abbrev pub decreases-edits : goal.decreases-edits
decreases-edits l = l.left
