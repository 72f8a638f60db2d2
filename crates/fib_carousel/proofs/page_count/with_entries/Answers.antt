use Rattle.fib_carousel.proofs.Runs.{config_placed}
use Rattle.fib_carousel.proofs.page_count.with_entries.Goals as goal

pub returns-clause-value : goal.returns-clause-value
returns-clause-value g c =
    config_placed c.args.layout (g.S.Store.content c.args.store.now) c.args.next c.args.before c.run-subs.result
    c.with_services-services.result c.run.result c.sub_shape.result c.packet_shape.result
    c.sub_count.result c.packet_count.result c.sub_shape.ensures c.sub_count.ensures.value c.run-subs.ensures.value
    c.with_services-services.ensures.value c.packet_shape.ensures c.packet_count.ensures.value c.run.ensures.value
