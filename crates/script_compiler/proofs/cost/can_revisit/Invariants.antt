use Rattle.script_compiler.proofs.Words.{Searched, instrs_of}
use Rattle.script_compiler.proofs.cost.can_revisit.Given as goal

abbrev pub invariant-loop-step : goal.invariant-loop-step
invariant-loop-step l = Searched (instrs_of l.lines) l.pc l._step l.reached.places.items l.reached.waiting.items
