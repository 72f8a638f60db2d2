use Rattle.stream_monitor.proofs.Words.{Unknown}
use Rattle.stream_monitor.proofs.Endings.{starts}
use Rattle.stream_monitor.proofs.check.start.Goals as goal

pub returns : goal.returns
returns c = λ r. starts r c.args.options (record { checker = c.new.result; tally = c.no_tally.result })
    (c.new.ensures r Unknown) c.no_tally.ensures
