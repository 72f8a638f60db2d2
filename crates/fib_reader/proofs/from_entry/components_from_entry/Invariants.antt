use Rattle.fib_reader.proofs.Words.{◌≡◌, AllByRecursion, AreDifferent, IsComponent, component_entries, length, take}
use Rattle.fib_reader.proofs.from_entry.components_from_entry.Given as goal

abbrev pub invariant-loop-index : goal.invariant-loop-index
invariant-loop-index l = record {
  count : length l.components ≡ l.index;
  value : component_entries l.components ≡ take l.index l.entries;
  members : AllByRecursion IsComponent l.components;
  different : AreDifferent l.components;
}
