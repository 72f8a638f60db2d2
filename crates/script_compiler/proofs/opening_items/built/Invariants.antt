use Rattle.script_compiler.proofs.Words.{◌≡◌, AreFine, Cause, IsItemRefused, drop, with_items, ℕ}
use Rattle.mux_config.specs.Configuration.{nothing}
use Rattle.script_compiler.proofs.opening_items.built.Given as goal

abbrev pub invariant-loop-item : goal.invariant-loop-item
invariant-loop-item l = record {
  made : with_items (drop l.item-index l.items) l.config ≡ with_items l.items nothing;
  fine : AreFine (drop l.item-index l.items) l.config → AreFine l.items nothing;
  only : AreFine l.items nothing → AreFine (drop l.item-index l.items) l.config;
  why : (at : ℕ) (given : Cause) → IsItemRefused (drop l.item-index l.items) l.config at given
      → IsItemRefused l.items nothing at given;
}
