use Rattle.script_compiler.proofs.Words.{[], ◌∙◌, ◌∷◌, ap, arith, false, length, length-append, trues}
use Rattle.script_compiler.proofs.Cycles.{none_true, none_at}
use Rattle.script_compiler.proofs.cost.no_flags.Goals as goal

pub loop-place-preserved : goal.loop-place-preserved
loop-place-preserved c =
    let ps = c.loop-place.places.items in
    let e = c.in_ok-push.ensures.items in
    let i = c.loop-place.invariant.0 in (
      (let h = ap length e ∙ length-append ps (false ∷ []) in omega (arith, h, i)),
      ap trues e
          ∙ none_true ps c.loop-place.invariant.1,
    )

pub returns-clause-none : goal.returns-clause-none
returns-clause-none c = λ k at. none_at c.loop-place.places.items k c.loop-place.invariant.1 at
