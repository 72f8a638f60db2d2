use Rattle.std.proofs.Common.{◌≡◌, ◌++◌, take}
use Rattle.std.specs.List.{flat_map}
use Rattle.plan_explain.specs.Flaws.{audio}
use Rattle.plan_explain.proofs.flaw.push_audios.Given as goal

abbrev pub invariant-loop-component : goal.invariant-loop-component
invariant-loop-component l = l.flaws.items ≡ l.fn.flaws.items
    ++ flat_map (audio l.sid) (take l.component-index l.components)
