use Rattle.plan_verifier.proofs.Moving.{there_same}
use Rattle.plan_verifier.proofs.tracked.is_at.Goals as goal

pub returns-then-is_index : goal.returns-then-is_index
returns-then-is_index g c =
    there_same _ _ _ _ _ c.requires.known (c.is_index.ensures.0 c.if-is_index.true) c.if-is_index.true
