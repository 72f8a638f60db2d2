use Rattle.script_compiler.proofs.Words.{◌≡◌, configuration_at, map, take}
use Rattle.script_compiler.proofs.table.select.Given as goal

abbrev pub invariant-loop-number : goal.invariant-loop-number
invariant-loop-number l = l.select.items ≡ map (configuration_at l.configs) (take l.number-index l.numbers)
