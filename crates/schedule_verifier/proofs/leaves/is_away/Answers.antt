use Rattle.schedule_verifier.proofs.Words.{◌∙◌, sym}
use Rattle.schedule_verifier.proofs.Waiting.{away_from, not_is}
use Rattle.schedule_verifier.proofs.leaves.is_away.Goals as goal

pub returns-then-not-any_open : goal.returns-then-not-any_open
returns-then-not-any_open c told =
    away_from c.args.region.now c.args.closed c.args.opened (sym c.any_open.ensures ∙ c.if-not-any_open.true)
    (sym c.any_open-then-not-any_open.ensures ∙ not_is _ told)
