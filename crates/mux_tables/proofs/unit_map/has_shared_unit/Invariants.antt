use Rattle.mux_tables.proofs.Words.{◌<◌, ◌≤◌, get_or, units_at, ℕ}
use Rattle.mux_tables.proofs.unit_map.has_shared_unit.Given as goal

abbrev pub invariant-loop-block : goal.invariant-loop-block
invariant-loop-block l = (b j : ℕ) → b < l.block-index → j < 32 → get_or (units_at l.blocks b) j 0 ≤ 1
