use Rattle.script_compiler.proofs.Words.{◌+◌, ◌∙◌, ◌∷◌, ◌≡◌, AreFine, add-one, ap, drop, drop-cons, err_from_is_err_and}
use Rattle.script_compiler.proofs.Words.{get_or, refl, subst, sym}
use Rattle.script_compiler.proofs.opening_items.built.Goals as goal

pub returns-in_err-add-clause-fine : goal.returns-in_err-add-clause-fine
returns-in_err-add-clause-fine c =
    let items = c.args.items.now in
    let k = c.loop-item.item-index in
    let item = c.item-item.result in
    let cut : drop k items ≡ get_or items k item ∷ drop (k + 1) items =
    rw (add-one, drop-cons items k item c.loop-item-test.true) refl in
    let first : drop k items ≡ item ∷ drop (k + 1) items =
    cut ∙ ap (λ x. x ∷ drop (k + 1) items) (sym c.item-item.is) in
    let p = err_from_is_err_and c.from_residual.result c.from_residual.ensures.1 in
    rw (p.1) (
      λ e. cc,
      λ fine. let there : AreFine (item ∷ drop (k + 1) items) c.loop-item.config =
          subst (λ xs. AreFine xs c.loop-item.config) first (c.loop-item.invariant.only fine) in
          c.in_err-add.ensures.fine.1 there.0,
    )
