use Rattle.mux_config.proofs.Words.{◌∙◌, is_same_list, is_same_service, same_more, same_not, sym}
use Rattle.mux_config.proofs.reconfiguration.has_same_service_set.Goals as goal

pub returns-then-not-is_same_service : goal.returns-then-not-is_same_service
returns-then-not-is_same_service g c =
    let k = g.S.Store.content c.args.current.now in
    let d = g.T.Store.content c.args.next.now in
    same_not is_same_service k.services d.services c.loop-place.place c.service_at.result.now
    c.service_at-in-loop-place.result.now (is_same_list is_same_service k.services d.services)
    c.loop-place.invariant.left c.service_at.ensures.value c.service_at-in-loop-place.ensures.value
    (sym c.is_same_service.ensures ∙ c.if-not-is_same_service.true)

pub loop-place-preserved : goal.loop-place-preserved
loop-place-preserved g c =
    let k = g.S.Store.content c.args.current.now in
    let d = g.T.Store.content c.args.next.now in
    record {
      lengths = c.loop-place.invariant.lengths;
      left = same_more is_same_service k.services d.services c.loop-place.place c.service_at.result.now
          c.service_at-in-loop-place.result.now (is_same_list is_same_service k.services d.services)
          c.loop-place.invariant.left c.service_at.ensures.value c.service_at-in-loop-place.ensures.value
          (sym c.is_same_service.ensures ∙ c.if-not-is_same_service.false);
    }
