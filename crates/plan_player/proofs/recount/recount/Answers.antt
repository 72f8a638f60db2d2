use Rattle.plan_player.proofs.Recounting.{recounted}
use Rattle.plan_player.proofs.recount.recount.Goals as goal

pub returns-clause-bytes : goal.returns-clause-bytes
returns-clause-bytes c = λ a b c' d x y rest long is.
    recounted c.args.fib.now c.args.high c.args.low c.from.result c.from-2.result c.high_byte_crc.result
    c.low_byte_crc.result a b c' d x y rest long is
    c.from.ensures c.from-2.ensures c.high_byte_crc.ensures c.low_byte_crc.ensures
