use Rattle.script_config.proofs.Words.{◌≡◌, drop, made_by, nothing}
use Rattle.script_config.proofs.items.made_by.Given as goal

abbrev pub invariant-loop-item : goal.invariant-loop-item
invariant-loop-item l = (made_by (drop l.item-index l.items) l.config ≡ made_by l.items nothing)
