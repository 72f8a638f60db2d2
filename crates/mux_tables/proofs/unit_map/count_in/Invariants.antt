use Rattle.mux_tables.proofs.Words.{◌%◌, ◌+◌, ◌/◌, ◌≤◌}
use Rattle.mux_tables.proofs.Lanes.{Stepped}
use Rattle.mux_tables.proofs.unit_map.count_in.Given as goal

abbrev pub invariant-loop-block : goal.invariant-loop-block
invariant-loop-block l = (l.span.start / 32 ≤ l.block)
    × Stepped (λ x y. (x + y) % 256) l.fn.blocks l.blocks l.span (l.span.start / 32) l.block
