use Rattle.std.proofs.Common.{◌≡◌, ◌++◌, [], drop}
use Rattle.script_front.specs.Block.{block_of}
use Rattle.plan_explain.specs.Straight.{straight_from, straight_in}
use Rattle.plan_explain.proofs.straight.+straight.Given as goal

abbrev pub invariant-push_statements-loop-statement : goal.invariant-push_statements-loop-statement
invariant-push_statements-loop-statement l =
    l.found.items ++ straight_from (record { wait = l.wait; way = l.way })
    (block_of [] (drop l.statement-index l.statements)) ≡ l.fn.found.items ++ straight_in l.statements
