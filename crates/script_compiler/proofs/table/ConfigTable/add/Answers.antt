use Rattle.script_compiler.proofs.Words.{[], ◌++◌, ◌<◌, ◌∷◌, ◌≡◌, AreBelow, List, PooledTable, length, rules, subst}
use Rattle.script_compiler.proofs.Words.{sym, ℕ}
use Rattle.script_compiler.proofs.Labelling.{below_push}
use Rattle.script_compiler.proofs.table.ConfigTable.add.Goals as goal

pub invariant_of-self-2 : goal.invariant_of-self-2
invariant_of-self-2 c =
    let n = length c.self.inside.pool.items in
    let e : c.push.new.self.items ≡ c.self.inside.order.items ++ c.args.number ∷ [] =
    search (rules, c.push.ensures.items, c.if-is_err.false, c.is_err.ensures.value) in
    let lt = subst (λ (v : PooledTable). c.args.number < length v.pool) (sym c.self.view_is) c.requires in
    subst (λ (ks : List ℕ). AreBelow n ks) (sym e)
    (below_push n c.self.inside.order.items c.args.number lt c.self.invariant)
