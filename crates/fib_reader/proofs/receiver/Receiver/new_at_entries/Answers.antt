use Rattle.fib_reader.proofs.Words.{hear_entries, hear_entry}
use Rattle.fib_reader.proofs.Forecast.{leaves_both}
use Rattle.fib_reader.proofs.receiver.Receiver.new_at_entries.Goals as goal

pub loop-entry-preserved : goal.loop-entry-preserved
loop-entry-preserved c =
    λ all more. c.loop-entry.invariant all (rw (c.in-Some.ensures.steps)
    (leaves_both c.args.self.now c.loop-entry.new c.in_ok-new.new all (hear_entry c.args.next c.in-Some.entry)
    (hear_entries c.args.next c.next.new.self) c.in_ok-new.ensures more))
