use Rattle.plan_map.proofs.Words.{◌≡◌, drop, first_with}
use Rattle.plan_map.proofs.layout.first_with.Given as goal

abbrev pub invariant-loop-sub : goal.invariant-loop-sub
invariant-loop-sub l = first_with l.id (drop l.sub-index l.subs) ≡ first_with l.id l.subs
