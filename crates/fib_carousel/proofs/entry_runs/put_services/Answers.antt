use Rattle.fib_carousel.proofs.Words.{◌*◌, ◌++◌, ◌-◌, ◌∙◌, ◌≡◌, ◌≤◌, ap, append-nil, arith, drop, entries_bytes, map}
use Rattle.fib_carousel.proofs.Words.{marked, service_entry, shape_of, sym, take}
use Rattle.fib_carousel.proofs.Sections.{NextService, one_more, service_formed, service_shaped, services_put}
use Rattle.fib_carousel.proofs.Sections.{next_service, first_service}
use Rattle.fib_carousel.proofs.entry_runs.put_services.Goals.{After-service_shape-shape, Else-not-is_same_shape}
use Rattle.fib_carousel.proofs.entry_runs.put_services.Given as given
use Rattle.fib_carousel.proofs.entry_runs.put_services.Goals as goal

-- the first service, and each later one with its head and size, has room
first_put : (g : given.Over) (c : After-service_shape-shape g)
    → NextService (g.S.Store.content c.args.store.now) c.args.next c.args.from c.args.from c.service_shape-shape.result
    c.args.fib.now × (c.service_shape-shape.result.size ≤ c.args.room)
first_put g c =
    let sh = c.service_shape-shape.ensures in
    first_service _ c.args.next c.args.from c.args.room c.service_at-first.result.now _ _
    c.service_at-first.ensures.value
    (service_shaped c.args.next _ _ sh.next sh.ours sh.long sh.ext sh.size) c.requires.first c.requires.room

same_shape : (g : given.Over) (c : Else-not-is_same_shape g) → c.service_shape.result ≡ c.service_shape-shape.result
same_shape g c = c.is_same_shape.ensures.0 c.if-not-is_same_shape.false

next_put : (g : given.Over) (c : Else-not-is_same_shape g)
    → NextService (g.S.Store.content c.args.store.now) c.args.next c.args.from c.services.place
    c.service_shape-shape.result c.services.fib
next_put g c =
    let sh = c.service_shape.ensures in
    let own : shape_of (marked c.args.next (service_entry c.service_at-service.result.now)) ≡ c.service_shape.result =
    service_shaped c.args.next _ _ sh.next sh.ours sh.long sh.ext sh.size in
    let i = c.services.invariant in
    next_service _ c.args.next c.args.from c.services.place c.args.room c.services.left c.service_at-service.result.now
    c.service_shape-shape.result _ _
    (omega (arith, i.low)) c.service_at-service.ensures.value (own ∙ same_shape g c) i.alike i.bytes i.room
    c.if-left-shape.false c.requires.room

pub put_service-requires-clause-room : goal.put_service-requires-clause-room
put_service-requires-clause-room g c =
    let first = first_put g (goal.at.put_service-requires-clause-room g c).After-service_shape-shape in
    omega (arith, first.0.room, c.service_shape-shape.ensures.size)

pub overflow_sub-left : goal.overflow_sub-left
overflow_sub-left g c = (first_put g (goal.at.overflow_sub-left g c).After-service_shape-shape).1

pub services-init : goal.services-init
services-init g c =
    let first = first_put g (goal.at.services-init g c).After-service_shape-shape in
    let none : c.args.from - c.args.from ≡ 0 = omega arith in
    let zero_times : (c.args.from - c.args.from) * c.service_shape-shape.result.size ≡ 0 =
    ap (λ k. k * c.service_shape-shape.result.size) none ∙ omega arith in
    record {
      low = omega arith;
      high = omega (arith, c.requires.there);
      room = omega (arith, first.0.times, zero_times, first.1);
      alike = first.0.alike;
      bytes =
          one_more service_entry _ c.args.from c.args.from c.service_at-first.result.now _ _ _ (omega arith)
          c.service_at-first.ensures.value
          (sym (append-nil _) ∙ ap (λ k. c.args.fib.now
          ++ entries_bytes (map service_entry
          (take k (drop c.args.from (g.S.Store.content c.args.store.now).services)))) (sym none))
          c.put_service.ensures;
    }

pub service_shape-requires : goal.service_shape-requires
service_shape-requires g c = service_formed _ c.services.place _ c.service_at-service.ensures.configuration
    c.service_at-service.ensures.value

pub put_service-requires-in-services-clause-service : goal.put_service-requires-in-services-clause-service
put_service-requires-in-services-clause-service g c =
    service_formed _ c.services.place _ c.service_at-service.ensures.configuration c.service_at-service.ensures.value

pub put_service-requires-in-services-clause-room : goal.put_service-requires-in-services-clause-room
put_service-requires-in-services-clause-room g c =
    let here = (goal.at.put_service-requires-in-services-clause-room g c).Else-not-is_same_shape in
    let next = next_put g here in
    omega (arith, next.room, c.service_shape.ensures.size, ap (λ t. t.size) (same_shape g here))

pub services-preserved : goal.services-preserved
services-preserved g c =
    let i = c.services.invariant in
    let next = next_put g (goal.at.services-preserved g c).Else-not-is_same_shape in
    record {
      low = omega (arith, i.low);
      high = omega (arith, c.services-test.true, c.service_count.ensures.value);
      room = omega (arith, next.times, i.room, c.if-left-shape.false);
      alike = next.alike;
      bytes = one_more service_entry _ c.args.from c.services.place c.service_at-service.result.now _ _ _
          (omega (arith, i.low)) c.service_at-service.ensures.value i.bytes c.put_service-in-services.ensures;
    }

pub returns-clause-puts : goal.returns-clause-puts
returns-clause-puts g c =
    let i = c.services.invariant in
    services_put _ c.args.next c.args.from (c.services.place - c.args.from) c.args.room _ _ c.service_shape-shape.result
    (omega (arith, i.low, i.high)) i.alike (omega (arith, i.low)) (omega (arith, i.room)) i.bytes
