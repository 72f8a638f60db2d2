use Rattle.script_compiler.proofs.Words.{[], ◌++◌, ◌∷◌, ◌≡◌, AreInPool, IndexedPoint, IsInPool, List, Work, length}
use Rattle.script_compiler.proofs.Words.{rules, subst, sym}
use Rattle.script_compiler.proofs.Labelling.{pushed_in_pool}
use Rattle.script_compiler.proofs.work.Work.save.Goals as goal

pub invariant_of-self-2 : goal.invariant_of-self-2
invariant_of-self-2 c =
    let n = length c.self.inside.unpriced.pool in
    let saved = c.self.inside.saved.items in
    let point_here = c.in_ok-point_here.point_here in
    let e : c.push.new.self.items ≡ saved ++ point_here ∷ [] =
    search (rules, c.push.ensures.items, c.if-is_err.false, c.is_err.ensures.value) in
    let within = subst (λ (v : Work). IsInPool (length v.pool) point_here) (sym c.self.view_is)
    c.in_ok-point_here.ensures.within in (
      c.self.invariant.0,
      subst (λ (l : List IndexedPoint). AreInPool n l) (sym e)
          (pushed_in_pool n saved point_here within c.self.invariant.1),
    )
