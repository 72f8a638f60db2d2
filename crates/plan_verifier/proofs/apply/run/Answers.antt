use Rattle.plan_verifier.proofs.Words.{held}
use Rattle.plan_verifier.proofs.Finding.{fine_in, fine_at}
use Rattle.plan_verifier.proofs.apply.run.Goals as goal

pub returns-in-CommitIn-clause-fine : goal.returns-in-CommitIn-clause-fine
returns-in-CommitIn-clause-fine g c = λ counters allowance counter.
    fine_in c.args.plan.now c.args.instr c.in-CommitIn.delay (held g.S.Store.content c.args.flow.now) counters allowance
    _ c.in-CommitIn.is c.commit_in.ensures.fine

pub returns-in-CommitAt-clause-fine : goal.returns-in-CommitAt-clause-fine
returns-in-CommitAt-clause-fine g c = λ counters allowance counter.
    fine_at c.args.plan.now c.args.instr c.in-CommitAt.count (held g.S.Store.content c.args.flow.now) counters allowance
    _ c.in-CommitAt.is c.commit_at.ensures.fine
