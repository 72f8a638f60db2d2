use Rattle.script_front.proofs.Words.{string_bytes}
use Rattle.script_front.proofs.Printed.{ItemsPrinted}
use Rattle.script_front.proofs.printer.put_items.Given as goal

abbrev pub invariant-loop-item : goal.invariant-loop-item
invariant-loop-item l = ItemsPrinted (string_bytes l.fn.out) (string_bytes l.out) l.items l.item-index
