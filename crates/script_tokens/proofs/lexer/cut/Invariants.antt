use Rattle.script_tokens.proofs.Words.{◌+◌, ◌≡◌, ◌≤◌, Nothing, drop, first_position, lexed}
use Rattle.script_tokens.proofs.Lexing.{CutSoFar}
use Rattle.script_tokens.proofs.lexer.cut.Given as goal

abbrev pub invariant-loop-byte : goal.invariant-loop-byte
invariant-loop-byte l = record {
  so_far : CutSoFar l.limits (lexed l.limits Nothing first_position l.byte-items) l.tokens.items
      (lexed l.limits l.inside l.place (drop l.byte-index l.byte-items));
  at : l.place.at ≡ l.byte-index;
  lines : l.place.position.line ≤ l.place.at + 1;
  columns : l.place.position.column ≤ l.place.at + 1;
}
