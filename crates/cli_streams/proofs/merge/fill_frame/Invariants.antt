use Rattle.cli_streams.proofs.Words.{◌/◌, length}
use Rattle.cli_streams.proofs.Merging.{FilledSoFar}
use Rattle.cli_streams.proofs.merge.fill_frame.Given as goal

-- the first FIBs are filled
abbrev pub invariant-loop-index : goal.invariant-loop-index
invariant-loop-index l = FilledSoFar l.index (length l.initial.frame / 32) l.initial.frame l.frame l.initial.merger
    l.merger
