use Rattle.std.proofs.Common.{◌≡◌, ◌∙◌, ◌+◌, ◌++◌, [], ◌∷◌, List, take, sym, ap, subst}
use Rattle.std.proofs.lemmas.List.{take_more}
use Rattle.plan_explain.specs.declared.warning.Warning.{Warning}
use Rattle.plan_explain.specs.Repeats.{AreEachOnce}
use Rattle.plan_explain.proofs.RepeatLaws.{kept_more}
use Rattle.plan_explain.proofs.once.each_once.Goals as goal

pub loop-warning-preserved : goal.loop-warning-preserved
loop-warning-preserved c =
    let i = c.loop-warning.warning-index in
    let found = c.args.found.now in
    let w = c.warning-item.result in
    let more : take (i + 1) found ≡ take i found ++ w ∷ [] =
    take_more found i w c.loop-warning-test.true ∙ ap (λ (x : Warning). take i found ++ x ∷ [])
    (sym c.warning-item.is) in
    subst (λ (ws : List Warning). AreEachOnce ws c.push_new.new.kept.items) (sym more)
    (kept_more (take i found) c.loop-warning.kept.items c.push_new.new.kept.items w c.loop-warning.invariant
    c.in_ok-push_new.ensures)
