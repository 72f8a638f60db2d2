use Rattle.script_tokens.proofs.Words.{◌+◌, ◌≤◌}
use Rattle.script_tokens.proofs.fault.Position.past.Given as goal

abbrev pub invariant-loop-byte : goal.invariant-loop-byte
invariant-loop-byte l = record {
  line : l.line ≤ l.byte-index + 1;
  column : l.column ≤ l.byte-index + 1;
}
