-- `fill` terminates by its counter, and the filled part is what was kept and read so far.
use Rattle.std.proofs.Common.{◌≡◌, ◌≤◌, length, take}
use Rattle.std.specs.Io.KnownBytes.{Consumes, prepend_known}
use Rattle.console.proofs.pieces.fill.Given as goal

abbrev pub invariant-loop : goal.invariant-loop
invariant-loop g l = (length l.buffer ≡ length l.initial.buffer) × (l.filled ≤ length l.buffer)
    × Consumes (prepend_known (take l.kept l.initial.buffer) (g.R.Read.remaining l.initial.source))
    (g.R.Read.remaining l.source) (take l.filled l.buffer)
