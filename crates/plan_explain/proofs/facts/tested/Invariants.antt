use Rattle.std.specs.List.{AllByRecursion}
use Rattle.plan_explain.specs.Facts.{Holds}
use Rattle.plan_explain.proofs.facts.tested.Given as goal

-- those so far hold
abbrev pub invariant-loop-fact : goal.invariant-loop-fact
invariant-loop-fact l = AllByRecursion (λ f. Holds f l.stop) l.facts.items
