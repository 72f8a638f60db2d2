use Rattle.cli_streams.proofs.MergingFiles.{kept_reads}
use Rattle.cli_streams.proofs.merge.read_frame.Goals as goal

pub returns-in-Ok-false-clause-reads : goal.returns-in-Ok-false-clause-reads
returns-in-Ok-false-clause-reads g c =
    kept_reads _ _ _ _ _ c.in-Ok-false.ensures.left (c.end_of.ensures.reads c.args.frame.now)
