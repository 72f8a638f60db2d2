use Rattle.schedule_front.proofs.Words.{string_bytes}
use Rattle.schedule_front.proofs.PrintedOverlays.{EditsPrinted}
use Rattle.schedule_front.proofs.printer.put_edits.Given as goal

abbrev pub invariant-loop-edit : goal.invariant-loop-edit
invariant-loop-edit l = EditsPrinted (string_bytes l.fn.out) (string_bytes l.out) l.edits l.edit-index
