use Rattle.std.specs.Io.KnownBytes.{Keeps}
use Rattle.console.proofs.waiting.read_when_ready.Given as goal

-- a read that would block consumed nothing
abbrev pub invariant-loop : goal.invariant-loop
invariant-loop g l = Keeps (g.T.Read.remaining l.initial.inner) (g.T.Read.remaining l.inner)
