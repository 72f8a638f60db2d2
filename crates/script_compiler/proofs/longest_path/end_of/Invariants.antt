use Rattle.script_compiler.proofs.Words.{◌+◌, ◌<◌, ◌≡◌, RunsTo, get_or, instrs_of, length}
use Rattle.script_compiler.proofs.longest_path.end_of.Given as goal

abbrev pub invariant-loop-step : goal.invariant-loop-step
invariant-loop-step l =
    RunsTo (instrs_of l.lines) l.first l._step l.pc
    × (get_or l.needs l.pc 0 + l._step ≡ get_or l.needs l.first 0 + 1)
    × (l.pc < length l.lines)
