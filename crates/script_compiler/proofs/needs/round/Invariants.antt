use Rattle.script_compiler.proofs.Words.{◌<◌, ◌≡◌, get_or, instrs_of, length, need_at, slice_get, ℕ}
use Rattle.script_compiler.proofs.needs.round.Given as goal

abbrev pub invariant-loop-pc : goal.invariant-loop-pc
invariant-loop-pc l = record {
  long : length l.next.items ≡ l.pc;
  each : (k : ℕ) → k < l.pc → get_or l.next.items k 0 ≡ need_at (slice_get (instrs_of l.lines) k) k
      (λ to. get_or l.further to 0);
}
