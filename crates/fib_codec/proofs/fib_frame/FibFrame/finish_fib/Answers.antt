use Rattle.fib_codec.proofs.Words.{◌*◌, ◌≡◌, List, arith, checked, filled, length, length-take-le, sym, take, ℕ}
use Rattle.fib_codec.proofs.U16.{checked_len}
use Rattle.fib_codec.proofs.Frames.{written_over, written_fib, front_of}
use Rattle.fib_codec.proofs.fib_frame.FibFrame.finish_fib.Goals as goal

pub invariant_of-self : goal.invariant_of-self
invariant_of-self c =
    let frame = c.self.inside in
    let fib : List ℕ = checked (take 30 c.row.result.now) in
    let is = written_over frame.len (32 * c.args.index) frame.bytes fib c.self.invariant (rw c.self.view_is c.requires)
    (checked_len _ (length-take-le 30 c.row.result.now (omega (arith, c.row.ensures.whole)))) in
    rw (c.write_sealed.ensures) is.kept

pub returns-clause-written : goal.returns-clause-written
returns-clause-written c =
    let frame = c.self.inside in
    let fib : List ℕ = checked (take 30 c.row.result.now) in
    let is = written_over frame.len (32 * c.args.index) frame.bytes fib c.self.invariant (rw c.self.view_is c.requires)
    (checked_len _ (length-take-le 30 c.row.result.now (omega (arith, c.row.ensures.whole)))) in
    rw (sym c.self.view_is) (rw (← c.row.ensures.filled) (written_fib _ _ _ _ _ is c.write_sealed.ensures))

pub returns-clause-front : goal.returns-clause-front
returns-clause-front c =
    let long : length (checked (filled c.args.fib.now)) ≡ 32 =
    rw (← c.row.ensures.filled) (checked_len _ (length-take-le 30 c.row.result.now
    (omega (arith, c.row.ensures.whole)))) in
    front_of c.args.index _ (checked (filled c.args.fib.now)) _ long c.requires (returns-clause-written c)
