use Rattle.schedule_verifier.proofs.verifier.implements.Goals as goal

pub returns : goal.returns
returns c told =
    c.schedules.ensures c.args.schedule.now c.args.opening.now c.args.code.now c.code.ensures.formed
    c.code.ensures.typed (rw c.code.ensures.value at (c.is_certified.ensures told))
