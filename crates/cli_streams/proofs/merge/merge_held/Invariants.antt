use Rattle.cli_streams.proofs.Words.{◌≡◌, ◌≤◌, finished, left_of, length, writer_of}
use Rattle.cli_streams.proofs.MergingStreams.{MergesSoFar}
use Rattle.cli_streams.proofs.merge.merge_held.Given as goal

-- the frames so far are merged, and written or held; the buffer has the size of a frame, and the output is the same one
abbrev pub invariant-loop-frames : goal.invariant-loop-frames
invariant-loop-frames g l =
    (length l.frame ≡ length l.initial.frame) × (l.out.size ≡ length l.initial.frame)
    × (l.out.out.ghost_name ≡ l.initial.out.out.ghost_name) × (length l.out.held.items ≤ 65536)
    × MergesSoFar (length l.initial.frame) (left_of l.initial.plan) (left_of l.plan) (left_of l.initial.other.source)
    (left_of l.other.source)
    (g.W.Write.contents (writer_of l.initial.out)) (finished g.W.Write.contents l.out) l.other.is_open l.other.status
    l.frames l.merger
