use Rattle.std.proofs.Common.{◌≡◌}
use Rattle.schedule_compiler.proofs.rounds.test_from.Given as goal

abbrev pub invariant-loop-index : goal.invariant-loop-index
invariant-loop-index l = (l.flow.current ≡ l.from) × (l.plan ≡ l.schedule.header)
