use Rattle.fib_carousel.proofs.Words.{◌++◌, ◌≡◌, component_entries, components_bytes, take}
use Rattle.fib_carousel.proofs.to_entries.put_components.Given as goal

abbrev pub invariant-loop-place : goal.invariant-loop-place
invariant-loop-place l = l.fib ≡ l.fn.fib ++ components_bytes (component_entries (take l.place l.components))
