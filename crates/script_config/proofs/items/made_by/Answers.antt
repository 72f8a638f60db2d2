use Rattle.script_config.proofs.Words.{nothing, sym}
use Rattle.script_config.proofs.ItemByItem.{made_leads, all_made}
use Rattle.script_config.proofs.items.made_by.Goals as goal

pub returns-clause-leads : goal.returns-clause-leads
returns-clause-leads c = made_leads _ nothing _ (sym (all_made _ _ _ _ c.loop-item-test.false c.loop-item.invariant))
