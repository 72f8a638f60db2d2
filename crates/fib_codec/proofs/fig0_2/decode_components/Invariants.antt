use Rattle.fib_codec.proofs.Words.{◌*◌, ◌++◌, ◌+◌, ◌≡◌, AllByRecursion, IsComponentEntry, components_bytes, length}
use Rattle.fib_codec.proofs.fig0_2.decode_components.Given as goal

abbrev pub invariant-loop-rest : goal.invariant-loop-rest
invariant-loop-rest l = record {
  spelled : components_bytes l.components ++ l.rest ≡ l.bytes;
  count : 2 * length l.components + length l.rest ≡ length l.bytes;
  within : AllByRecursion IsComponentEntry l.components;
}

abbrev pub decreases-loop-rest : goal.decreases-loop-rest
decreases-loop-rest l = length l.rest
