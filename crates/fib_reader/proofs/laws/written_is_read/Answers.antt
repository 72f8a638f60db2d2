use Rattle.fib_reader.proofs.Words.{fib_bytes, fig_of, map}
use Rattle.fib_reader.proofs.laws.written_is_read.Goals as goal

pub returns-clause-good : goal.returns-clause-good
returns-clause-good c = λ figs fault written room wrong.
    c.reading.ensures.apart (fib_bytes figs) (map fig_of figs) fault (c.written.ensures.fib figs written room) wrong

pub returns-clause-read : goal.returns-clause-read
returns-clause-read c = λ figs read written room is_fib.
    c.one_list.ensures (fib_bytes figs) read (map fig_of figs) is_fib (c.written.ensures.fib figs written room)
