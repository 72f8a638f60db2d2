use Rattle.schedule_compiler.proofs.Blaming.{confirmed}
use Rattle.schedule_compiler.proofs.compiler.confirmed.Goals as goal

pub returns-then-are_combinations : goal.returns-then-are_combinations
returns-then-are_combinations c start is =
    confirmed c.args.schedule.now start c.args.found.now.sets.items c.args.fault
    (rw c.as_slice.ensures at (c.are_combinations.ensures c.if-are_combinations.true)) is
