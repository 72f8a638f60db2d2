use Rattle.script_front.proofs.Words.{AllFit, bodies, drop, string_bytes}
use Rattle.script_front.proofs.Printed.{AllPrinted}
use Rattle.script_front.proofs.printer.put_definitions.Given as goal

abbrev pub invariant-loop-index : goal.invariant-loop-index
invariant-loop-index l = record {
  so_far : AllPrinted l.names (string_bytes l.fn.out) (string_bytes l.out) l.blocks l.index;
  fits : AllFit l.index (bodies (drop l.index l.blocks));
}
