use Rattle.script_front.proofs.Words.{◌++◌, ◌≡◌, indent, string_bytes}
use Rattle.script_front.proofs.printer.put_indent.Given as goal

abbrev pub invariant-loop-level : goal.invariant-loop-level
invariant-loop-level l = string_bytes l.out ≡ string_bytes l.fn.out ++ indent l._level
