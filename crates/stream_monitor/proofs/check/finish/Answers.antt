use Rattle.stream_monitor.proofs.Words.{Unknown}
use Rattle.stream_monitor.proofs.Endings.{ends_counted, ends_without}
use Rattle.stream_monitor.proofs.check.finish.Goals as goal

pub returns-in-Some-clause-ends : goal.returns-in-Some-clause-ends
returns-in-Some-clause-ends c = λ r fibs text h.
    ends_counted r c.args.options fibs text c.args.state.now c.in-Some.summary c.totals_of.result h
    c.in-Some.ensures.some.0
    (c.in-Some.ensures.some.1 r c.args.options.mode c.args.options.period h.stream Unknown Unknown h.follows)
    c.totals_of.ensures

pub returns-in-None-clause-ends : goal.returns-in-None-clause-ends
returns-in-None-clause-ends c =
    λ r fibs text h. ends_without r c.args.options fibs text c.args.state.now h c.in-None.ensures.none
