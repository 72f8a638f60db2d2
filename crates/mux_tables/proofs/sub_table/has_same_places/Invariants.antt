use Rattle.mux_tables.proofs.Words.{◌<◌, ◌≡◌, None, get_or, ℕ}
use Rattle.mux_tables.proofs.sub_table.has_same_places.Given as goal

abbrev pub invariant-loop-place : goal.invariant-loop-place
invariant-loop-place l = (i : ℕ) → i < l.place → get_or l.one i None ≡ get_or l.other i None
