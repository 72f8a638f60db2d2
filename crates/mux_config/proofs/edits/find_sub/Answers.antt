use Rattle.mux_config.proofs.Words.{IsPlaced, sub_key, sym}
use Rattle.mux_config.proofs.Keeping.{entry_holds}
use Rattle.mux_config.proofs.edits.find_sub.Goals as goal

pub returns-in-Some-clause-placed : goal.returns-in-Some-clause-placed
returns-in-Some-clause-placed c =
    entry_holds IsPlaced sub_key c.from.result c.config.inside.subs c.in-Some.sub.now c.config.invariant.subs_placed
    (sym c.in-Some.ensures.value)
