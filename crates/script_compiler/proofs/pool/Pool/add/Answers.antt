use Rattle.script_compiler.proofs.Words.{[], ◌++◌, ◌∙◌, ◌∷◌, ◌≡◌, Configuration, IsDistinct, Listed, Some, ap, rules}
use Rattle.script_compiler.proofs.Words.{slice_get, subst, sym, ℕ}
use Rattle.script_compiler.proofs.Labelling.{distinct_more, prints_push}
use Rattle.script_compiler.proofs.pool.Pool.add.Goals as goal

pub invariant_of-self-else-is_err-2 : goal.invariant_of-self-else-is_err-2
invariant_of-self-else-is_err-2 c =
    let xs = c.self.inside.configs.items in
    let p : c.push.new.self.items ≡ c.self.inside.prints.items ++ c.args.print ∷ [] =
    search (rules, c.push.ensures.items, c.if-is_err.false, c.is_err.ensures.value) in
    let q : c.push-2.new.self.items ≡ xs ++ c.to_config.result ∷ [] =
    search (rules, c.push-2.ensures.items, c.if-is_err-2.false, c.is_err-2.ensures.value) in
    let r : c.push-2.new.self.items ≡ xs ++ c.args.config.now ∷ [] =
    q ∙ ap (λ (x : Configuration). xs ++ x ∷ []) c.to_config.ensures in
    let new = subst (λ (v : Listed). (i : ℕ) → slice_get v.items i ≡ Some c.args.config.now → ⊥) (sym c.self.view_is)
    c.requires.new in (
      p ∙ prints_push c.self.inside.prints.items xs c.args.print c.args.config.now c.self.invariant.0 c.requires.print
          c.push-2.new.self.items r,
      subst IsDistinct (sym r) (distinct_more xs c.args.config.now c.self.invariant.1 new),
    )
