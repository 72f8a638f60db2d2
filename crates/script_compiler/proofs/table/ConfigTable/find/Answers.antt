use Rattle.script_compiler.proofs.Words.{◌<◌, ◌≡◌, List, PooledTable, Some, configuration_at, length, slice_get, subst}
use Rattle.script_compiler.proofs.Words.{sym, ℕ}
use Rattle.script_compiler.proofs.Labelling.{none_in_table}
use Rattle.script_compiler.proofs.table.ConfigTable.find.Goals as goal

pub returns-clause-none : goal.returns-clause-none
returns-clause-none c = λ e i there.
    let n = c.args.number in
    let pool = c.self.inside.pool.items in
    let ks = c.self.inside.order.items in
    let lt = subst (λ (v : PooledTable). n < length v.pool) (sym c.self.view_is) c.requires in
    let none = subst (λ (l : List ℕ). (j : ℕ) → slice_get l j ≡ Some n → ⊥) c.deref.ensures.value
    (c.position.ensures.none e) in
    let h = none_in_table pool ks n c.is_distinct.ensures c.self.invariant lt none i in
    subst (λ (v : PooledTable). slice_get v.table i ≡ Some (configuration_at v.pool n) → ⊥) c.self.view_is h there
