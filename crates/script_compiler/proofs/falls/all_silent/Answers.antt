use Rattle.script_compiler.proofs.Words.{◌&&◌, ◌+◌, ◌∙◌, ap, block_of, drop, has_no_instr, sym}
use Rattle.script_compiler.proofs.Trees.{silent_cut, none_left}
use Rattle.script_compiler.proofs.falls.all_silent.Goals as goal

pub returns-then-not-is_silent : goal.returns-then-not-is_silent
returns-then-not-is_silent c = λ table h.
    let k = c.loop-statement.statement-index in
    let ss = c.args.statements.now in
    let rest = has_no_instr (block_of table (drop (k + 1) ss)) in
    sym (c.loop-statement.invariant table h
    ∙ silent_cut table ss k c.statement-item.result c.statement-item.is c.loop-statement-test.true
    ∙ ap (λ b. b && rest) (sym (c.is_silent.ensures table h) ∙ c.if-not-is_silent.true))

pub loop-statement-preserved : goal.loop-statement-preserved
loop-statement-preserved c = λ table h.
    let k = c.loop-statement.statement-index in
    let ss = c.args.statements.now in
    let rest = has_no_instr (block_of table (drop (k + 1) ss)) in
    c.loop-statement.invariant table h
    ∙ silent_cut table ss k c.statement-item.result c.statement-item.is c.loop-statement-test.true
    ∙ ap (λ b. b && rest) (sym (c.is_silent.ensures table h) ∙ c.if-not-is_silent.false)

pub returns : goal.returns
returns c = λ table h.
    sym (c.loop-statement.invariant table h ∙ ap has_no_instr
    (none_left table c.args.statements.now c.loop-statement.statement-index c.loop-statement-test.false))
