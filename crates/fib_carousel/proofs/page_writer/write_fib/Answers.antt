use Rattle.fib_carousel.proofs.Sent.{fib_room, fib_fits}
use Rattle.fib_carousel.proofs.Closing.{closed_stands}
use Rattle.fib_carousel.proofs.page_writer.write_fib.Goals as goal

pub put_figs-requires-clause-room : goal.put_figs-requires-clause-room
put_figs-requires-clause-room g c =
    fib_room c.args.layout c.args.ensemble c.args.place.number _ _ c.put_ensemble.ensures.bound
    c.put_ensemble.ensures.none c.requires.first
    (fib_fits c.args.layout _ c.args.place.number c.requires.sendable)

pub returns-clause-next : goal.returns-clause-next
returns-clause-next g c = closed_stands c.args.layout _ c.args.place.number c.put_figs.new.position _ c.close.ensures
    c.put_figs.ensures.next c.put_figs.ensures.passed c.put_figs.ensures.past
