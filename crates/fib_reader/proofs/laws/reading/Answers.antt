use Rattle.fib_reader.proofs.FigFaults.{no_fault, one_fault, either}
use Rattle.fib_reader.proofs.laws.reading.Goals as goal

pub returns-clause-apart : goal.returns-clause-apart
returns-clause-apart c = no_fault

pub returns-clause-either : goal.returns-clause-either
returns-clause-either c = either

pub returns-clause-one_fault : goal.returns-clause-one_fault
returns-clause-one_fault c = one_fault
