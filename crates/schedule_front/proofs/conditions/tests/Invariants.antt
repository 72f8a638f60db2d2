use Rattle.schedule_front.proofs.ReadingTests.{AndOn}
use Rattle.schedule_front.proofs.conditions.tests.Given as goal

abbrev pub invariant-tests : goal.invariant-tests
invariant-tests l = AndOn l.fn.room l.room l.list.items l.fn.reader l.reader

abbrev pub decreases-tests : goal.decreases-tests
decreases-tests l = l.room
