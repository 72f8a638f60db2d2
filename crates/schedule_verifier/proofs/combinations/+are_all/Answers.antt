use Rattle.schedule_verifier.proofs.Words.{◌≡◌, Some, slice_get, ℕ}
use Rattle.schedule_verifier.specs.Combinations.{held}
use Rattle.schedule_verifier.proofs.Regions.{by_parts}
use Rattle.schedule_verifier.proofs.combinations.+are_all.Goals as goal

pub returns : goal.returns
returns t c told =
    by_parts c.in-Ask.question c.args.region.now
    (λ contacts day. (i : ℕ) × (slice_get c.args.sets.now i ≡ Some (held c.args.schedule.now contacts day)))
    (rw c.first-first.ensures at (c.are_all.ensures c.if-not-are_all.false))
    (rw c.second-second.ensures at (c.are_all-2.ensures told))
