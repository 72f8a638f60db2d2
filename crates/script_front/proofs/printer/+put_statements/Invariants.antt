use Rattle.script_front.proofs.Words.{[], ◌*◌, ◌+◌, IsInBounds, block_of, drop, length, string_bytes}
use Rattle.script_front.proofs.Printed.{Printed}
use Rattle.script_front.proofs.printer.+put_statements.Given as goal

abbrev pub invariant-put_statements-loop-statement : goal.invariant-put_statements-loop-statement
invariant-put_statements-loop-statement l = record {
  so_far : Printed l.names (string_bytes l.fn.out) (string_bytes l.out) l.depth l.list l.statement-index;
  fits : IsInBounds (length l.names) l.left (block_of [] (drop l.statement-index l.list));
}

abbrev pub decreases-put_statement : goal.decreases-put_statement
decreases-put_statement l = 3 * l.left + 1

abbrev pub decreases-put_statements : goal.decreases-put_statements
decreases-put_statements l = 3 * l.left + 2
