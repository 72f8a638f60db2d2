use Rattle.std.specs.List.{AllByRecursion}
use Rattle.schedule_compiler.specs.Refusals.{IsAmong}
use Rattle.schedule_compiler.proofs.Blaming.{FineTo}
use Rattle.schedule_compiler.proofs.states.States.new.Given as goal

abbrev pub invariant-loop-set : goal.invariant-loop-set
invariant-loop-set l = FineTo l.schedule l.combinations.sets.items l.set-index
    × AllByRecursion (IsAmong l.schedule l.combinations.sets.items) l.list.items
