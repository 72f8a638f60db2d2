use Rattle.plan_verifier.proofs.Words.{◌≡◌, IsProgram, IsTracked, drop, known_if_reached, known_of, refusal_of, walk}
use Rattle.plan_verifier.proofs.walk.refusal.Given as goal

abbrev pub invariant-loop-pc : goal.invariant-loop-pc
invariant-loop-pc g l = record {
  walked : refusal_of l.code ≡ walk l.code (drop l.pc l.code.lines) l.pc
      (known_if_reached l.comes (known_of g.S.Store.content l.state));
  formed : IsProgram l.code;
  tracked : IsTracked g.S.Store.content l.code.configurations l.state.tracked;
}
