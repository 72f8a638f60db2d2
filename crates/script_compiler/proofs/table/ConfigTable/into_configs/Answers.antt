use Rattle.script_compiler.proofs.Words.{◌∙◌, ◌≡◌, Configuration, List, PooledTable, Some, ap, length, slice_get, subst}
use Rattle.script_compiler.proofs.Words.{take, ℕ}
use Rattle.script_compiler.proofs.Labelling.{in_order}
use Rattle.script_compiler.proofs.table.ConfigTable.into_configs.Goals as goal

pub returns-then-is_in_order-clause-value : goal.returns-then-is_in_order-clause-value
returns-then-is_in_order-clause-value c =
    let pool = c.self.inside.pool.items in
    let ks = c.self.inside.order.items in
    let configs = c.into_configs-configs.result.items in
    let each = subst (λ (l : List ℕ). (i k : ℕ) → slice_get l i ≡ Some k → k ≡ i) c.deref.ensures.value
    (c.is_in_order.ensures c.if-is_in_order.true) in
    c.truncate.ensures.items
    ∙ ap (λ n. take n configs) (c.len.ensures ∙ c.self.inside.order.ok.0)
    ∙ ap (λ (l : List Configuration). take (length ks) l) c.into_configs-configs.ensures
    ∙ in_order pool ks c.self.invariant each
    ∙ ap (λ (v : PooledTable). v.table) c.self.view_is
