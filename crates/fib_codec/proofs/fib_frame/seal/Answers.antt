use Rattle.fib_codec.proofs.Words.{arith, length-take-le}
use Rattle.fib_codec.proofs.U16.{sealed_end}
use Rattle.fib_codec.proofs.fib_frame.seal.Goals as goal

pub slice_bounds-crc16-end-2 : goal.slice_bounds-crc16-end-2
slice_bounds-crc16-end-2 c = let e = length-take-le 30 c.args.fib.now (omega (arith, c.requires)) in omega (arith, e)

pub returns : goal.returns
returns c = sealed_end _ _ _ c.requires c.crc16-crc.type_inv c.crc16-crc.ensures c.write_u16.ensures
