use Rattle.fib_codec.proofs.Lengths.{entry_passes}
use Rattle.fib_codec.proofs.fib.len_within.Goals as goal

pub returns-then-more-room : goal.returns-then-more-room
returns-then-more-room c =
    entry_passes c.args.entries.now c.loop-entry.entry-index c.loop-entry.len c.args.room c.entry_len-more.result
    c.entry-item.result
    c.loop-entry-test.true c.entry-item.is c.loop-entry.invariant.counted c.entry_len-more.ensures.size
    c.loop-entry.invariant.within
    c.if-more-room.true
