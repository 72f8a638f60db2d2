use Rattle.std.proofs.Common.{◌≡◌, length, drop}
use Rattle.mux_types.specs.Sameness.{is_same_list}
use Rattle.mux_types.proofs.sameness.has_same.Given as goal

abbrev pub invariant-loop-place : goal.invariant-loop-place
invariant-loop-place g l = record {
  lengths : length l.xs ≡ length l.ys;
  left : is_same_list g.T.Same.same (drop l.place l.xs) (drop l.place l.ys) ≡ is_same_list g.T.Same.same l.xs l.ys;
}
