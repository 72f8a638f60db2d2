use Rattle.plan_session.proofs.Words.{[], ◌++◌, ◌∙◌, ◌∷◌, HoldsItems, List, ap, append_assoc, subst, sym}
use Rattle.plan_session.proofs.reading.read_items.Goals as goal

pub loop-item-preserved : goal.loop-item-preserved
loop-item-preserved g c =
    let so_far : List g.row.T.Denot = c.loop-item.items.items in
    let left = c.loop-item.invariant in
    let on = c.in-Some.ensures.item.on left.0 left.2 in
    let moved = ap (λ (l : List g.row.T.Denot). so_far ++ l) on.1
    ∙ sym (append_assoc so_far (c.in-Some.item ∷ []) on.0)
    ∙ ap (λ (l : List g.row.T.Denot). l ++ on.0) (sym c.in_ok-push.ensures.added) in
    (on.0, subst (HoldsItems g.T.Item.spelled g.T.Item.is_item c.args.text.now) moved left.1, on.2)
