use Rattle.cli_streams.proofs.Words.{◌*◌, ◌∙◌, ◌≤◌, ap, arith, length-take-le}
use Rattle.cli_streams.proofs.MergingFiles.{merges_files}
use Rattle.cli_streams.proofs.merge.show_merged.Goals as goal

pub returns-in-Ok-merge_frames : goal.returns-in-Ok-merge_frames
returns-in-Ok-merge_frames g c =
    let fits : c.fibs.result * 32 ≤ 128 = omega (arith, c.fibs.ensures.in_range) in
    record {
      success = λ two. merges_files _ (length-take-le (c.fibs.result * 32) _ fits
          ∙ ap (λ n. n * 32) c.fibs.ensures.value) c.in-Ok.ensures.bytes (c.in-Ok.ensures.kept _ two)
          (rw c.new-other.ensures.source c.in-Ok-frames_of.ensures.bytes) c.in-Ok-merge_frames.ensures.merges;
    }
