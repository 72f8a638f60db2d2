use Rattle.fib_codec.proofs.Begun.{begun_is_filled}
use Rattle.fib_codec.proofs.data.Data.row.Goals as goal

pub returns-clause-filled : goal.returns-clause-filled
returns-clause-filled c = cc (begun_is_filled c.self.inside.len c.self.inside.bytes c.self.invariant, c.self.view_is)
