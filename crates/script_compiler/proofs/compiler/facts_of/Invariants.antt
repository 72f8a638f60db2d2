use Rattle.script_compiler.proofs.Words.{◌≡◌, facts_of, map, tables, take}
use Rattle.script_compiler.proofs.compiler.facts_of.Given as goal

abbrev pub invariant-loop-block : goal.invariant-loop-block
invariant-loop-block l = l.facts.items ≡ map facts_of (tables (take l.block-index l.blocks))
