use Rattle.script_tokens.proofs.Words.{◌∙◌, arith, eqb-true, get_or, length, refl, sym}
use Rattle.script_tokens.proofs.Digits.{no_digit, reads_on, found_all, value_small, too_long, empty}
use Rattle.script_tokens.proofs.Digits.{zero_first, digit_range, nonzero}
use Rattle.script_tokens.proofs.number.decimal.Goals.{then-atom-eq48+else-atom-gt1, else-atom-eq48}
use Rattle.script_tokens.proofs.number.decimal.Goals as goal

pub returns-then-is_empty-clause-none : goal.returns-then-is_empty-clause-none
returns-then-is_empty-clause-none c =
    λ e. empty c.args.atom.now (eqb-true _ 0 (sym c.is_empty.ensures ∙ c.if-is_empty.true))

pub returns-then-atom-gt9-clause-none : goal.returns-then-atom-gt9-clause-none
returns-then-atom-gt9-clause-none c = λ e. too_long c.args.atom.now c.if-atom-gt9.true

pub returns-then-atom-gt1-clause-none : goal.returns-then-atom-gt1-clause-none
returns-then-atom-gt1-clause-none c = λ e. zero_first c.args.atom.now c.if-atom-eq48.true c.if-atom-gt1.true

pub returns-then-not-is_ascii_digit-clause-none : goal.returns-then-not-is_ascii_digit-clause-none
returns-then-not-is_ascii_digit-clause-none c =
    λ e. no_digit c.args.atom.now c.loop-byte.byte-index c.loop-byte.value c.loop-byte-test.true
    (sym c.is_ascii_digit.ensures.value ∙ c.if-not-is_ascii_digit.true) c.loop-byte.invariant

pub overflow_mul-value : goal.overflow_mul-value
overflow_mul-value c = let small =
    value_small c.args.atom.now c.loop-byte.byte-index c.loop-byte.value c.loop-byte-test.true (omega arith)
    c.loop-byte.invariant in omega (arith, small)

pub overflow_add-value : goal.overflow_add-value
overflow_add-value c =
    let small = value_small _ _ _ c.loop-byte-test.true (omega arith) c.loop-byte.invariant in
    let range = digit_range (get_or c.args.atom.now c.loop-byte.byte-index 0)
    (sym c.is_ascii_digit.ensures.value ∙ c.if-not-is_ascii_digit.false) in
    omega (arith, small, range.1, c.from.ensures)

pub loop-byte-preserved : goal.loop-byte-preserved
loop-byte-preserved c =
    let good = sym c.is_ascii_digit.ensures.value ∙ c.if-not-is_ascii_digit.false in
    let range = digit_range (get_or c.args.atom.now c.loop-byte.byte-index 0) good in
    let next = reads_on _ _ _ _ c.loop-byte-test.true refl good range.0 range.1 c.loop-byte.invariant in
    rw c.from.ensures next

pub returns-clause-found : goal.returns-clause-found
returns-clause-found c =
    let some = nonzero (length c.args.atom.now) (sym c.is_empty.ensures ∙ c.if-is_empty.false) in
    found_all c.args.atom.now c.loop-byte.byte-index c.loop-byte.value c.loop-byte-test.false some c.if-atom-gt9.false
    (elim c.if-atom-eq48.branch [
      | then-atom-eq48+else-atom-gt1 w ↦ λ e. omega (arith, some, w.if-atom-gt1.false)
      | else-atom-eq48 w ↦ λ e. absurd (w.if-atom-eq48.false e)
    ])
    c.loop-byte.invariant
