use Rattle.script_compiler.proofs.Words.{[], ◌++◌, ◌<◌, ◌∷◌, ◌≡◌, AreInTable, IndexedLabel, List, UnpricedPool, length}
use Rattle.script_compiler.proofs.Words.{rules, subst, sym}
use Rattle.script_compiler.proofs.Labelling.{within_push}
use Rattle.script_compiler.proofs.unpriced.UnpricedLabels.push.Goals as goal

pub invariant_of-self-2 : goal.invariant_of-self-2
invariant_of-self-2 c =
    let e : c.push.new.self.items ≡ c.self.inside.short.items ++ c.args.unpriced_label ∷ [] =
    search (rules, c.push.ensures.items, c.if-is_err.false, c.is_err.ensures.value) in
    let cur = subst (λ (v : UnpricedPool). c.args.unpriced_label.cur < length v.table) (sym c.self.view_is)
    c.requires.current in
    let next = subst (λ (v : UnpricedPool). c.args.unpriced_label.next < length v.table) (sym c.self.view_is)
    c.requires.following in
    subst (λ (xs : List IndexedLabel). AreInTable (length c.self.inside.table.table) xs) (sym e)
    (within_push (length c.self.inside.table.table) c.self.inside.short.items c.args.unpriced_label cur next
    c.self.invariant)
