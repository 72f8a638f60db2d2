use Rattle.script_compiler.proofs.Words.{[], ◌++◌, ◌∙◌, ◌∷◌, ◌≡◌, AreInPool, IndexedPoint, List, Option, ap, length}
use Rattle.script_compiler.proofs.Words.{option_to_list, subst}
use Rattle.script_compiler.proofs.Labelling.{popped_in_pool}
use Rattle.script_compiler.proofs.work.Work.restore.Goals as goal

pub invariant_of-self : goal.invariant_of-self
invariant_of-self c =
    let n = length c.self.inside.unpriced.pool in
    let left = c.pop.new.self.items in
    let e : c.self.inside.saved.items ≡ left ++ c.in-Some.point ∷ [] =
    c.pop.ensures.items ∙ ap (λ (r : Option IndexedPoint). left ++ option_to_list r) c.in-Some.is in (
      c.self.invariant.0,
      (popped_in_pool n left c.in-Some.point
          (subst (λ (l : List IndexedPoint). AreInPool n l) e c.self.invariant.1)).1,
    )

pub returns-clause-within : goal.returns-clause-within
returns-clause-within c =
    let n = length c.self.inside.unpriced.pool in
    let left = c.pop.new.self.items in
    let e : c.self.inside.saved.items ≡ left ++ c.in-Some.point ∷ [] =
    c.pop.ensures.items ∙ ap (λ (r : Option IndexedPoint). left ++ option_to_list r) c.in-Some.is in
    (popped_in_pool n left c.in-Some.point (subst (λ (l : List IndexedPoint). AreInPool n l) e c.self.invariant.1)).0
