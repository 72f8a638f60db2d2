use Rattle.std.proofs.Common.{◌≡◌, map, take}
use Rattle.script_compiler.specs.Alternatives.{instr_of_act}
use Rattle.plan_takeover.proofs.leading.leading.Given as goal

abbrev pub invariant-loop-act : goal.invariant-loop-act
invariant-loop-act l =
    l.lines.items
    ≡ map (λ act. record { number = l.line; instr = instr_of_act act }) (take l.act-index l.act-items)
