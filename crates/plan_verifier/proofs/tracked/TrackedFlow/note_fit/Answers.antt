use Rattle.plan_verifier.proofs.Words.{held}
use Rattle.plan_verifier.proofs.Moving.{tracked_fit}
use Rattle.plan_verifier.proofs.tracked.TrackedFlow.note_fit.Goals as goal

pub returns-clause-tracked : goal.returns-clause-tracked
returns-clause-tracked g c = λ table within h.
    let t = held g.S.Store.content c.args.self.now.flow in
    rw c.fit_indices-self.ensures (tracked_fit table c.args.other.now t within h)
