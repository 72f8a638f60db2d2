use Rattle.fib_codec.proofs.Begun.{begun_is_filled}
use Rattle.fib_codec.proofs.data.Data.finish.Goals as goal

pub returns-clause-value : goal.returns-clause-value
returns-clause-value c =
    cc (c.with_crc.ensures, begun_is_filled c.self.inside.len c.self.inside.bytes c.self.invariant, c.self.view_is)
