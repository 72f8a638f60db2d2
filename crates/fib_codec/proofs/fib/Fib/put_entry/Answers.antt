use Rattle.fib_codec.proofs.Words.{◌+◌, ◌≡◌, ap, arith, entry_bytes, length, length-append}
use Rattle.fib_codec.proofs.Lengths.{entry_length}
use Rattle.fib_codec.proofs.fib.Fib.put_entry.Goals as goal

pub invariant_of-self : goal.invariant_of-self
invariant_of-self c =
    let grown : length c.put_entry.new.out ≡ length c.self.inside.bytes + length (entry_bytes c.args.entry.now) =
    rw (c.put_entry.ensures.written) (length-append c.self.inside.bytes (entry_bytes c.args.entry.now)) in
    omega (arith, entry_length c.args.entry.now, grown, ap length c.self.view_is, c.requires)
