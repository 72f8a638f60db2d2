use Rattle.script_compiler.proofs.Words.{◌∙◌, AreAt, Flow, List, Points, ProgramPoint, Work, ap, subst}
use Rattle.script_compiler.proofs.Labelling.{tracked_in, all_in_pool, all_same}
use Rattle.script_compiler.proofs.work.Work.point_here.Goals as goal

pub invariant_of-self : goal.invariant_of-self
invariant_of-self c =
    let old = c.self.inside.unpriced.pool in
    let new = c.numbered.new.unpriced.pool in
    let kept = c.numbered.ensures.kept in (
      tracked_in old new c.self.inside.now kept c.self.invariant.0,
      all_in_pool old new c.self.inside.saved.items kept c.self.invariant.1,
    )

pub returns-in-Err-clause-saved : goal.returns-in-Err-clause-saved
returns-in-Err-clause-saved c =
    ap (λ (l : List ProgramPoint). let x : Points = record { items = l } in x)
    (all_same c.self.inside.unpriced.pool c.numbered.new.unpriced.pool c.self.inside.saved.items
    c.numbered.ensures.kept c.self.invariant.1)
    ∙ ap (λ (v : Work). v.saved) c.self.view_is

pub invariant_of-self-2 : goal.invariant_of-self-2
invariant_of-self-2 c =
    let old = c.self.inside.unpriced.pool in
    let new = c.numbered.new.unpriced.pool in (
      subst (λ (t : Flow). AreAt new c.indices-self-inside.result t) c.in-Ok.ensures.same
          (c.indices-self-inside.ensures.at new c.in-Ok.ensures.within),
      all_in_pool old new c.self.inside.saved.items c.numbered.ensures.kept c.self.invariant.1,
    )

pub returns-clause-saved : goal.returns-clause-saved
returns-clause-saved c =
    ap (λ (l : List ProgramPoint). let x : Points = record { items = l } in x)
    (all_same c.self.inside.unpriced.pool c.numbered.new.unpriced.pool c.self.inside.saved.items
    c.numbered.ensures.kept c.self.invariant.1)
    ∙ ap (λ (v : Work). v.saved) c.self.view_is
