use Rattle.console.proofs.LineReading.{Held}
use Rattle.console.proofs.lines.read_line.Given as goal

-- the part of the line that was read
abbrev pub invariant-loop : goal.invariant-loop
invariant-loop g l = Held (g.R.Read.remaining l.initial.input) (g.R.Read.remaining l.input) l.line.items l.is_long
