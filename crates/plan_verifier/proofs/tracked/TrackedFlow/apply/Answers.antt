use Rattle.plan_verifier.proofs.Words.{AreAt, Flow, Indices, held, indices_after, subst, sym}
use Rattle.plan_verifier.proofs.Moving.{tracked_after}
use Rattle.plan_verifier.proofs.tracked.TrackedFlow.apply.Goals as goal

pub returns-clause-tracked : goal.returns-clause-tracked
returns-clause-tracked g c = λ table tracked.
    let before = c.args.self.now in
    let t : Flow = held g.S.Store.content before.flow in
    subst (λ (k : Indices). AreAt table k (held g.S.Store.content c.apply.new.self)) (sym c.indices_after-self.ensures)
    (subst (λ (u : Flow). AreAt table (indices_after c.args.instr t.pending u.pending before.indices) u)
    (sym c.in_ok-apply.ensures.left) (tracked_after c.args.plan.now c.args.instr table before.indices t tracked))
