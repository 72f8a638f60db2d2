use Rattle.fib_codec.proofs.U16.{sealed_into}
use Rattle.fib_codec.proofs.fib_frame.write_sealed.Goals as goal

pub returns : goal.returns
returns c =
    sealed_into c.args.offset c.crc16-crc.result c.args.bytes.now c.args.row.now c.copy_from_slice.new.self
    c.write_u16.new.buf c.requires.whole
    c.copy_from_slice.ensures.after c.crc16-crc.type_inv c.crc16-crc.ensures c.write_u16.ensures
