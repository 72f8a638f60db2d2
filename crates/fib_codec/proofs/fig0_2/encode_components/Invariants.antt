use Rattle.fib_codec.proofs.Words.{◌++◌, ◌≡◌, AllByRecursion, IsComponentEntry, components_bytes, take}
use Rattle.fib_codec.proofs.fig0_2.encode_components.Given as goal

abbrev pub invariant-loop-component : goal.invariant-loop-component
invariant-loop-component l = record {
  written : l.out ≡ l.fn.out ++ components_bytes (take l.component-index l.components);
  within : AllByRecursion IsComponentEntry (take l.component-index l.components);
}
