use Rattle.schedule_front.proofs.Words.{◌∙◌, err_from_is_err_and, sym}
use Rattle.schedule_front.proofs.ReadingTests.{condition_read, none_on}
use Rattle.schedule_front.proofs.conditions.condition.Goals as goal

pub returns-in_err-next_tests-2-clause-none : goal.returns-in_err-next_tests-2-clause-none
returns-in_err-next_tests-2-clause-none c =
    let r = err_from_is_err_and c.from_residual-in_err-next_tests-2.result
    c.from_residual-in_err-next_tests-2.ensures.1 in
    rw (r.1, r.2) (λ ne. none_on _ _ _ _ c.advance.new.self c.alternatives.invariant
    (sym c.is_next.ensures.is ∙ c.alternatives-test.true) c.advance.ensures.lexemes
    (c.in_err-next_tests-2.ensures.none ne))

pub returns-clause-read : goal.returns-clause-read
returns-clause-read c = condition_read _ _ _ _ c.alternatives.invariant
    (sym c.is_next.ensures.is ∙ c.alternatives-test.false)
