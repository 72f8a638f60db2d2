use Rattle.std.proofs.Common.{◌≡◌, drop}
use Rattle.plan_explain.specs.Blocks.{first_line}
use Rattle.plan_explain.proofs.blocks.first_line.Given as goal

abbrev pub invariant-loop-statement : goal.invariant-loop-statement
invariant-loop-statement l = first_line (drop l.statement-index l.block) ≡ first_line l.block
