use Rattle.script_front.proofs.Words.{◌*◌, ◌+◌}
use Rattle.script_front.proofs.ReadingOn.{GoesOn}
use Rattle.script_front.proofs.statements.+statements.Given as goal

abbrev pub decreases-statement : goal.decreases-statement
decreases-statement l = 6 * l.depth + 4

abbrev pub decreases-after_keyword : goal.decreases-after_keyword
decreases-after_keyword l = 6 * l.depth + 3

abbrev pub decreases-choice : goal.decreases-choice
decreases-choice l = 6 * l.depth + 2

abbrev pub decreases-repetition : goal.decreases-repetition
decreases-repetition l = 6 * l.depth + 2

abbrev pub decreases-endless : goal.decreases-endless
decreases-endless l = 6 * l.depth + 2

abbrev pub decreases-block : goal.decreases-block
decreases-block l = 6 * l.depth + 1

abbrev pub decreases-statements : goal.decreases-statements
decreases-statements l = 6 * l.depth + 5

abbrev pub invariant-statements-statements : goal.invariant-statements-statements
invariant-statements-statements l = GoesOn l.names l.depth l.fn.left l.left l.fn.reader l.reader l.list.items

abbrev pub decreases-statements-statements : goal.decreases-statements-statements
decreases-statements-statements l = l.left
