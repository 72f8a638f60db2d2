use Rattle.schedule_front.proofs.Words.{string_bytes}
use Rattle.schedule_front.proofs.PrintedOverlays.{OverlaysPrinted}
use Rattle.schedule_front.proofs.printer.put_overlays.Given as goal

abbrev pub invariant-loop-index : goal.invariant-loop-index
invariant-loop-index l = OverlaysPrinted l.names (string_bytes l.fn.out) (string_bytes l.out) l.overlays l.index
