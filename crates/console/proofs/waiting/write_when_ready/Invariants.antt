use Rattle.std.specs.Io.KnownBytes.{Keeps}
use Rattle.console.proofs.waiting.write_when_ready.Given as goal

-- a write that would block wrote nothing
abbrev pub invariant-loop : goal.invariant-loop
invariant-loop g l = Keeps (g.T.Write.contents l.initial.inner) (g.T.Write.contents l.inner)
