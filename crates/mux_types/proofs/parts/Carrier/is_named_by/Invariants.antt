use Rattle.std.proofs.Common.{◌≡◌, drop}
use Rattle.std.specs.List.{list_any}
use Rattle.mux_types.specs.Sameness.{names}
use Rattle.mux_types.proofs.parts.Carrier.is_named_by.Given as goal

abbrev pub invariant-loop-component : goal.invariant-loop-component
invariant-loop-component l =
    (list_any (names l.self) (drop l.component-index l.components) ≡ list_any (names l.self) l.components)
