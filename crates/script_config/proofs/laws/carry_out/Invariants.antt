use Rattle.script_config.proofs.Words.{drop}
use Rattle.script_config.proofs.Loops.{IsUnderWay}
use Rattle.script_config.proofs.laws.carry_out.Given as goal

abbrev pub invariant-loop-edit : goal.invariant-loop-edit
invariant-loop-edit g l = IsUnderWay l.edits (drop l.edit-index l.edits) (g.S.Store.content l.initial.store)
    (g.S.Store.content l.store)
