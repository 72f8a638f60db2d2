use Rattle.fib_codec.proofs.Words.{◌*◌, arith, sym}
use Rattle.fib_codec.proofs.Frames.{written_over, written_fib}
use Rattle.fib_codec.proofs.fib_frame.FibFrame.write_fib.Goals as goal

pub invariant_of-self : goal.invariant_of-self
invariant_of-self c =
    let frame = c.self.inside in
    let is = written_over frame.len (32 * c.args.index) frame.bytes c.args.fib.now c.self.invariant
    (rw c.self.view_is c.requires) (omega arith) in
    rw (c.write_at.ensures) is.kept

pub returns-clause-written : goal.returns-clause-written
returns-clause-written c =
    let frame = c.self.inside in
    let is = written_over frame.len (32 * c.args.index) frame.bytes c.args.fib.now c.self.invariant
    (rw c.self.view_is c.requires) (omega arith) in
    rw (sym c.self.view_is) (written_fib frame.len c.args.index frame.bytes c.args.fib.now c.write_at.new.bytes is
    c.write_at.ensures)
