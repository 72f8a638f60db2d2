use Rattle.script_front.proofs.Words.{◌-◌, length}
use Rattle.script_front.proofs.ReadingDefinitions.{GoesOn}
use Rattle.script_front.proofs.parser.definitions.Given as goal

abbrev pub invariant-loop-alloc : goal.invariant-loop-alloc
invariant-loop-alloc l = GoesOn l.names l.fn.left l.left l.fn.reader l.reader l.blocks.items

abbrev pub decreases-loop-alloc : goal.decreases-loop-alloc
decreases-loop-alloc l = 64 - length l.blocks.items
