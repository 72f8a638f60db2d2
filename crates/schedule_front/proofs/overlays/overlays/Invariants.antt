use Rattle.schedule_front.proofs.Words.{◌-◌, length}
use Rattle.schedule_front.proofs.ReadingOverlays.{GoesOn}
use Rattle.schedule_front.proofs.overlays.overlays.Given as goal

abbrev pub invariant-overlays : goal.invariant-overlays
invariant-overlays l = GoesOn l.names l.list.items l.fn.left l.left l.fn.reader l.reader

abbrev pub decreases-overlays : goal.decreases-overlays
decreases-overlays l = 64 - length l.list.items
