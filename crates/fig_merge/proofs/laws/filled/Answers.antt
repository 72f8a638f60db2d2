use Rattle.fig_merge.proofs.Alike.{filled_read, filled_heard, all_filled}
use Rattle.fig_merge.proofs.Heard.{filled_has_the_entries, filled_is_as_long}
use Rattle.fig_merge.proofs.laws.filled.Goals as goal

pub returns-clause-read : goal.returns-clause-read
returns-clause-read c = filled_read

pub returns-clause-heard : goal.returns-clause-heard
returns-clause-heard c = filled_heard

pub returns-clause-stream : goal.returns-clause-stream
returns-clause-stream c = all_filled

pub returns-clause-entries : goal.returns-clause-entries
returns-clause-entries c = filled_has_the_entries

pub returns-clause-length : goal.returns-clause-length
returns-clause-length c = filled_is_as_long c.fib_length.ensures
