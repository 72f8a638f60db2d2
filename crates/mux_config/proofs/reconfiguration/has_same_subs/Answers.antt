use Rattle.mux_config.proofs.Words.{◌∙◌, is_same_list, is_same_sub, same_more, same_not, sym}
use Rattle.mux_config.proofs.reconfiguration.has_same_subs.Goals as goal

pub returns-then-not-is_same_sub-clause-value : goal.returns-then-not-is_same_sub-clause-value
returns-then-not-is_same_sub-clause-value g c =
    let k = g.S.Store.content c.args.current.now in
    let d = g.T.Store.content c.args.next.now in
    same_not is_same_sub k.subs d.subs c.loop-place.place c.sub_at.result c.sub_at-in-loop-place.result
    (is_same_list is_same_sub k.subs d.subs) c.loop-place.invariant.left c.sub_at.ensures.value
    c.sub_at-in-loop-place.ensures.value (sym c.is_same_sub.ensures ∙ c.if-not-is_same_sub.true)

pub loop-place-preserved : goal.loop-place-preserved
loop-place-preserved g c =
    let k = g.S.Store.content c.args.current.now in
    let d = g.T.Store.content c.args.next.now in
    record {
      lengths = c.loop-place.invariant.lengths;
      left = same_more is_same_sub k.subs d.subs c.loop-place.place c.sub_at.result c.sub_at-in-loop-place.result
          (is_same_list is_same_sub k.subs d.subs) c.loop-place.invariant.left c.sub_at.ensures.value
          c.sub_at-in-loop-place.ensures.value (sym c.is_same_sub.ensures ∙ c.if-not-is_same_sub.false);
    }
