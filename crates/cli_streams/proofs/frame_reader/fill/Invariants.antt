-- the filled part is what was kept and read so far
use Rattle.cli_streams.proofs.Words.{◌≡◌, ◌≤◌, Consumes, length, prepend_known, take}
use Rattle.cli_streams.proofs.frame_reader.fill.Given as goal

abbrev pub invariant-loop : goal.invariant-loop
invariant-loop g l = (length l.buffer ≡ length l.initial.buffer) × (l.filled ≤ length l.buffer)
    × Consumes (prepend_known (take l.kept l.initial.buffer) (g.R.Read.remaining l.initial.source))
    (g.R.Read.remaining l.source) (take l.filled l.buffer)
