use Rattle.plan_explain.proofs.Known.{SoFar}
use Rattle.plan_explain.proofs.changes.push_commits.Given as goal

abbrev pub invariant-loop-line : goal.invariant-loop-line
invariant-loop-line l = SoFar l.code l.fn.found.items l.found.items l.pc l.line-index l.flow
