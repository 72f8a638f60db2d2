use Rattle.plan_verifier.proofs.Words.{◌≡◌, Label, drop, find, length, nat_le, past_end, past_label}
use Rattle.plan_verifier.proofs.walk.past_end.Given as goal

abbrev pub invariant-loop-label : goal.invariant-loop-label
invariant-loop-label l = record {
  sought : past_end l.code ≡ past_label (find (λ (x : Label). nat_le (length l.code.lines) x.pc)
      (drop l.label-index l.code.labels));
  ends : l.end ≡ length l.code.lines;
}
