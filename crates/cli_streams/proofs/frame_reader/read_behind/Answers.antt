use Rattle.cli_streams.proofs.Words.{◌≤◌, arith, length}
use Rattle.cli_streams.proofs.ReadingOn.{ok_reads}
use Rattle.cli_streams.proofs.frame_reader.read_behind.Goals as goal

pub returns-clause-bytes : goal.returns-clause-bytes
returns-clause-bytes g c =
    let within : c.args.filled ≤ length c.args.buffer.now = omega (arith, c.requires.room) in
    ok_reads _ _ c.args.filled _ c.args.buffer.now c.read.new.buf c.read.result within c.read.ensures.bound
    c.read.ensures.bytes
