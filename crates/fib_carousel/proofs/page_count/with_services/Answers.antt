use Rattle.fib_carousel.proofs.Words.{Configuration, arith}
use Rattle.fib_carousel.proofs.Runs.{service_placed}
use Rattle.fib_carousel.proofs.Sharing.{same_fields}
use Rattle.fib_carousel.proofs.page_count.with_services.Goals as goal

pub loop-index-preserved : goal.loop-index-preserved
loop-index-preserved g c =
    let d : Configuration = g.S.Store.content c.args.store.now in
    let shape = c.service_shape.ensures in
    record {
      used = c.then-state.ensures.used;
      fib = omega (arith, c.then-state.ensures.to, c.loop-index.invariant.fib);
      rest = service_placed c.args.layout c.args.next d.services c.loop-index.index c.service_at.result.now
          c.loop-index.state c.then-state.result c.service_shape.result _ c.service_at.ensures.value
          (same_fields _ _ shape.next shape.ours shape.long shape.ext) shape.size c.then-state.ensures.value
          c.loop-index.invariant.rest;
    }
