use Rattle.script_tokens.proofs.Digits.{Reading}
use Rattle.script_tokens.proofs.number.decimal.Given as goal

abbrev pub invariant-loop-byte : goal.invariant-loop-byte
invariant-loop-byte l = Reading l.atom l.byte-index l.value
