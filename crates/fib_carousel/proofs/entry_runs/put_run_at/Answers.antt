use Rattle.fib_carousel.proofs.Words.{◌-◌, ◌<◌, EntryShape, IsShapeAt, PutsRun, arith, config_entries, facts_of, length}
use Rattle.fib_carousel.proofs.Words.{length-map, marked, subst, sym}
use Rattle.fib_carousel.proofs.Sections.{facts_length, subs_done, subs_room, packets_done, packets_room, behind_subs}
use Rattle.fib_carousel.proofs.Sections.{behind_services}
use Rattle.fib_carousel.proofs.entry_runs.put_run_at.Goals as goal

pub put_subs-requires-clause-room : goal.put_subs-requires-clause-room
put_subs-requires-clause-room g c =
    (subs_room _ c.args.next c.args.index c.from-index.result c.args.room _ c.from-index.ensures
    (omega (arith, c.if-index-subs.true, c.sub_count-subs.ensures.value)) c.requires.first c.requires.room).1
    c.as_many-count.result (omega (
      arith,
      c.as_many-count.ensures.within,
      c.if-index-subs.true,
      c.sub_count-subs.ensures.value,
    )) c.as_many-count.ensures.fits

pub returns-then-index-subs : goal.returns-then-index-subs
returns-then-index-subs g c =
    let room =
    subs_room _ c.args.next c.args.index c.from-index.result c.args.room _ c.from-index.ensures
    (omega (arith, c.if-index-subs.true, c.sub_count-subs.ensures.value)) c.requires.first c.requires.room in
    subs_done _ c.args.next c.args.index c.from-index.result c.as_many-count.result c.args.room _ _ c.from-index.ensures
    (omega (arith, c.as_many-count.ensures.within, c.if-index-subs.true, c.sub_count-subs.ensures.value))
    (c.as_many-count.ensures.some room.0 (omega (arith, c.if-index-subs.true))) c.as_many-count.ensures.fits
    c.put_subs.ensures

pub returns-then-index-subs-2 : goal.returns-then-index-subs-2
returns-then-index-subs-2 g c =
    let all = facts_of (g.S.Store.content c.args.store.now) c.args.next in
    let at = behind_subs (g.S.Store.content c.args.store.now) c.args.index c.from-index.result c.sub_count-subs.result
    c.from-index.ensures c.sub_count-subs.ensures.value c.if-index-subs.false in
    subst (λ j. (s : EntryShape) → IsShapeAt all j s → PutsRun all j s c.args.room c.put_services.result c.args.fib.now
    c.put_services.new.fib) (sym at) c.put_services.ensures.puts

pub put_packets-requires-clause-room : goal.put_packets-requires-clause-room
put_packets-requires-clause-room g c =
    let k = g.S.Store.content c.args.store.now in
    let at = behind_services k c.args.index c.from-index.result c.sub_count-subs.result c.service_count-services.result
    c.from-index.ensures c.sub_count-subs.ensures.value c.service_count-services.ensures.value
    c.if-index-subs-2.false in
    let long : c.args.index < length (facts_of k c.args.next) =
    omega (arith, c.requires.here, length-map (config_entries k) (marked c.args.next)) in
    (packets_room k c.args.next c.args.index _ c.args.room _ at (omega (arith, long, facts_length k c.args.next, at))
    c.requires.first c.requires.room).1
    c.as_many-count-2.result (omega (
      arith,
      c.as_many-count-2.ensures.within,
      c.packet_count.ensures.value,
      long,
      facts_length k c.args.next,
      at,
    )) c.as_many-count-2.ensures.fits

pub returns : goal.returns
returns g c =
    let k = g.S.Store.content c.args.store.now in
    let at = behind_services k c.args.index c.from-index.result c.sub_count-subs.result c.service_count-services.result
    c.from-index.ensures c.sub_count-subs.ensures.value c.service_count-services.ensures.value
    c.if-index-subs-2.false in
    let long : c.args.index < length (facts_of k c.args.next) =
    omega (arith, c.requires.here, length-map (config_entries k) (marked c.args.next)) in
    let there : c.from-index.result - c.sub_count-subs.result - c.service_count-services.result < length k.packets =
    omega (arith, long, facts_length k c.args.next, at) in
    let room = packets_room k c.args.next c.args.index _ c.args.room _ at there c.requires.first c.requires.room in
    packets_done k c.args.next c.args.index _ c.as_many-count-2.result c.args.room _ _ at
    (omega (arith, c.as_many-count-2.ensures.within, c.packet_count.ensures.value, there))
    (c.as_many-count-2.ensures.some room.0 (omega (arith, c.packet_count.ensures.value, there)))
    c.as_many-count-2.ensures.fits c.put_packets.ensures
