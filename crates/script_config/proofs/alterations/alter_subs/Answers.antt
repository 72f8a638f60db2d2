use Rattle.script_config.proofs.Words.{IsPlaced, entry_holds, sub_key, sym}
use Rattle.script_config.proofs.alterations.alter_subs.Goals as goal

pub alter-requires : goal.alter-requires
alter-requires c = entry_holds IsPlaced sub_key _ _ _ c.sub.ensures.configuration.subs_placed
    (sym c.in-Some.ensures.value)
