use Rattle.schedule_front.proofs.Words.{alternatives_of}
use Rattle.schedule_front.proofs.ReadingTests.{OrOn}
use Rattle.schedule_front.proofs.conditions.condition.Given as goal

abbrev pub invariant-alternatives : goal.invariant-alternatives
invariant-alternatives l = OrOn l.room (alternatives_of l.alternatives.items) l.fn.reader l.reader

abbrev pub decreases-alternatives : goal.decreases-alternatives
decreases-alternatives l = l.room
