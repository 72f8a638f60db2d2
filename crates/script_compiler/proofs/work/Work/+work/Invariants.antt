use Rattle.script_compiler.proofs.Words.{◌*◌, ◌+◌, Compiled, block_in, drop, either, forever, nothing, repeat}
use Rattle.script_compiler.proofs.Words.{statement_in, when}
use Rattle.script_compiler.proofs.Trees.{weight}
use Rattle.script_compiler.proofs.work.Work.+work.Given as goal

abbrev pub decreases-block : goal.decreases-block
decreases-block l = 4 * weight (block_in l.context l.statements.now) + 3

abbrev pub decreases-statement : goal.decreases-statement
decreases-statement l = 4 * weight (statement_in l.context l.statement.now nothing) + 2

abbrev pub decreases-when : goal.decreases-when
decreases-when l = 4 * weight (when l.line l.condition.now (block_in l.context l.first.now) nothing) + 1

abbrev pub decreases-either : goal.decreases-either
decreases-either l = 4 * weight
    (either l.line l.condition.now (block_in l.context l.first.now) (block_in l.context l.second.now) nothing) + 1

abbrev pub decreases-repeat : goal.decreases-repeat
decreases-repeat l = 4 * weight (repeat l.line l.times (block_in l.context l.body.now) nothing) + 1

abbrev pub decreases-forever : goal.decreases-forever
decreases-forever l = 4 * weight (forever l.line (block_in l.context l.body.now) nothing) + 1

abbrev pub invariant-block-loop-statement : goal.invariant-block-loop-statement
invariant-block-loop-statement l =
    Compiled l.context (block_in l.context l.statements) (block_in l.context (drop l.statement-index l.statements))
    l.initial.self l.self l.is_reached
