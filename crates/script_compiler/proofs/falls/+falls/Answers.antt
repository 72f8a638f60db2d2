use Rattle.script_compiler.proofs.Words.{◌&&◌, ◌+◌, ◌∙◌, ap, block_of, drop, falls_out, sym}
use Rattle.script_compiler.proofs.Trees.{falls_cut, none_left}
use Rattle.script_compiler.proofs.falls.+falls.Goals as goal

pub all_fall-returns-then-not-falls : goal.all_fall-returns-then-not-falls
all_fall-returns-then-not-falls t c = λ table h.
    let k = c.loop-statement.statement-index in
    let ss = c.args.statements.now in
    let rest = falls_out (block_of table (drop (k + 1) ss)) in
    sym (c.loop-statement.invariant table h
    ∙ falls_cut table ss k c.statement-item.result c.statement-item.is c.loop-statement-test.true
    ∙ ap (λ b. b && rest) (sym (c.falls.ensures table h) ∙ c.if-not-falls.true))

pub all_fall-loop-statement-preserved : goal.all_fall-loop-statement-preserved
all_fall-loop-statement-preserved t c = λ table h.
    let k = c.loop-statement.statement-index in
    let ss = c.args.statements.now in
    let rest = falls_out (block_of table (drop (k + 1) ss)) in
    c.loop-statement.invariant table h
    ∙ falls_cut table ss k c.statement-item.result c.statement-item.is c.loop-statement-test.true
    ∙ ap (λ b. b && rest) (sym (c.falls.ensures table h) ∙ c.if-not-falls.false)

pub all_fall-returns : goal.all_fall-returns
all_fall-returns t c = λ table h.
    sym (c.loop-statement.invariant table h ∙ ap falls_out
    (none_left table c.args.statements.now c.loop-statement.statement-index c.loop-statement-test.false))
