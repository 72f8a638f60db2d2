use Rattle.script_front.proofs.Words.{◌∙◌, arith, err_from_is_err_and, sym}
use Rattle.script_front.proofs.ReadingDefinitions.{all_read, no_room, none_next}
use Rattle.script_front.proofs.parser.definitions.Goals as goal

pub returns-clause-defined : goal.returns-clause-defined
returns-clause-defined c = all_read _ _ _ _ _ _ (sym c.is_next.ensures.is ∙ c.loop-alloc-test.false)
    c.loop-alloc.invariant

pub returns-then-len-eq-MOST_BLOCKS-clause-none : goal.returns-then-len-eq-MOST_BLOCKS-clause-none
returns-then-len-eq-MOST_BLOCKS-clause-none c =
    λ ne. no_room _ _ _ _ _ _ (omega (arith, c.len.ensures)) (sym c.is_next.ensures.is ∙ c.loop-alloc-test.true)
    c.loop-alloc.invariant

pub returns-in_err-body-clause-none : goal.returns-in_err-body-clause-none
returns-in_err-body-clause-none c =
    let r = err_from_is_err_and c.from_residual.result c.from_residual.ensures.1 in
    rw (r.1, r.2) (λ ne. none_next _ _ _ _ _ _ (let few = c.if-len-eq-MOST_BLOCKS.false in
    let f = c.loop-alloc.invariant.fills in omega (arith, few, f, c.len.ensures))
    (sym c.is_next.ensures.is ∙ c.loop-alloc-test.true) (c.in_err-body.ensures.none ne) c.loop-alloc.invariant)
