use Rattle.script_compiler.proofs.Words.{◌≡◌, Block, List, block_of, drop, facts_of, falls_out, map}
use Rattle.script_compiler.proofs.falls.+falls.Given as goal

abbrev pub invariant-all_fall-loop-statement : goal.invariant-all_fall-loop-statement
invariant-all_fall-loop-statement l = (table : List Block) → l.facts ≡ map facts_of table
    → falls_out (block_of table l.statements) ≡ falls_out (block_of table (drop l.statement-index l.statements))
