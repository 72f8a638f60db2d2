use Rattle.fib_codec.proofs.Lengths.{entry_fits}
use Rattle.fib_codec.proofs.fib.put_entries.Goals as goal

pub put_entry-requires : goal.put_entry-requires
put_entry-requires c =
    entry_fits _ _ _ _ _ c.requires c.loop-entry-test.true c.loop-entry.invariant.written c.entry-item.is
