use Rattle.plan_map.proofs.Words.{◌≡◌, drop, first_clash}
use Rattle.plan_map.proofs.layout.first_clash.Given as goal

abbrev pub invariant-loop-sub : goal.invariant-loop-sub
invariant-loop-sub l = first_clash l.layout (drop l.sub-index l.subs) ≡ first_clash l.layout l.subs
