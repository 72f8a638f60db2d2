use Rattle.plan_code.proofs.Words.{◌-◌, ◌<◌, ◌≤◌, Label, get_or, length, ℕ}
use Rattle.plan_code.proofs.code.search.Given as goal

abbrev pub invariant-loop-low : goal.invariant-loop-low
invariant-loop-low l = record {
  ordered : l.low ≤ l.high;
  within : l.high ≤ length l.labels;
  below : (k : ℕ) (d : Label) → k < l.low → (get_or l.labels k d).pc < l.pc;
  above : (k : ℕ) (d : Label) → l.high ≤ k → k < length l.labels → l.pc < (get_or l.labels k d).pc;
}

abbrev pub decreases-loop-low : goal.decreases-loop-low
decreases-loop-low l = l.high - l.low
