use Rattle.script_front.proofs.Words.{string_bytes}
use Rattle.script_front.proofs.PrintedWaits.{OrPrinted}
use Rattle.script_front.proofs.wait_lexemes.put_each_or.Given as goal

abbrev pub invariant-loop-alternative : goal.invariant-loop-alternative
invariant-loop-alternative l = OrPrinted (string_bytes l.fn.out) (string_bytes l.out) l.alternatives l.alternative-index
