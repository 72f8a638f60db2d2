use Rattle.script_compiler.proofs.Words.{◌≡◌, Block, List, block_of, drop, facts_of, has_no_instr, map}
use Rattle.script_compiler.proofs.falls.all_silent.Given as goal

abbrev pub invariant-loop-statement : goal.invariant-loop-statement
invariant-loop-statement l = (table : List Block) → l.facts ≡ map facts_of table
    → has_no_instr (block_of table l.statements) ≡ has_no_instr (block_of table (drop l.statement-index l.statements))
