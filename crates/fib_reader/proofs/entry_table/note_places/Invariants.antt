use Rattle.fib_reader.proofs.Words.{length}
use Rattle.fib_reader.proofs.entry_table.note_places.Given as goal

abbrev pub decreases-loop-last : goal.decreases-loop-last
decreases-loop-last g l = length l.rest
