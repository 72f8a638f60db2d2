use Rattle.fib_codec.proofs.Words.{arith, length-take-le, sym}
use Rattle.fib_codec.proofs.U16.{sealed_row}
use Rattle.fib_codec.proofs.data.with_crc.Goals as goal

pub returns : goal.returns
returns c = sealed_row _ _ _ c.requires c.crc16-crc.type_inv c.crc16-crc.ensures c.write_u16.ensures

pub slice_bounds-crc16-end : goal.slice_bounds-crc16-end
slice_bounds-crc16-end c = sym (length-take-le 30 c.args.bytes (omega (arith, c.requires)))
