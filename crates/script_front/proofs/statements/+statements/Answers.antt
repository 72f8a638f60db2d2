use Rattle.script_front.proofs.Words.{◌∙◌, ap, arith, err_from_is_err_and, not, refl, sym}
use Rattle.std.proofs.ResultArms.{chosen}
use Rattle.script_front.proofs.ReadingOn.{begins_on, goes_on, all_read, none_read}
use Rattle.script_front.proofs.statements.+statements.Goals as goal

pub statements-statements-preserved : goal.statements-statements-preserved
statements-statements-preserved t c =
    let pushed = chosen _ _ _ _ c.push.ensures.items (c.is_err.ensures.negation ∙ ap not c.if-is_err.false) in
    goes_on _ _ _ _ _ _ _ _ _ _ c.in_ok-next.next pushed c.statements.invariant c.in_ok-next.ensures.read

pub statements-returns-clause-read : goal.statements-returns-clause-read
statements-returns-clause-read t c = all_read _ _ _ _ _ _ _ c.statements.invariant (sym c.statements-test.ensures)

pub statements-statements-init : goal.statements-statements-init
statements-statements-init t c =
    rw (c.new-list.ensures.items)
    (begins_on c.before.args.names.now c.before.args.depth c.before.args.left.now c.before.args.reader.now)

pub statement-returns-in_err-statement-clause-none : goal.statement-returns-in_err-statement-clause-none
statement-returns-in_err-statement-clause-none t c =
    let r = err_from_is_err_and c.from_residual.result c.from_residual.ensures.1 in
    rw (r.1, r.2) (λ ne. none_read _ c.line-line.result _ c.args.left.now c.args.reader.now c.advance.new.self
    c.in-Some.first c.requires.not_stopped (sym c.statement_keyword.ensures.first ∙ c.in-Some.is)
    (let some = c.if-left-eq0.false in omega (arith, some)) (c.line-line.ensures (c.in-Some.ensures.some refl))
    c.advance.ensures.lexemes c.advance.ensures.lines (c.in_err-statement.ensures.none ne))
