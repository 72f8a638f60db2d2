use Rattle.stream_check.proofs.Words.{length, picture_of_heard}
use Rattle.stream_check.proofs.Mentioned.{AreLeft}
use Rattle.stream_check.proofs.mention_rules.note_entries.Given as goal

abbrev pub invariant-loop-rest : goal.invariant-loop-rest
invariant-loop-rest g l =
    AreLeft l.at (picture_of_heard l.current) l.ext l.long l.entries l.rest l.initial.noted
    (g.R.Report.reported l.initial.report) l.noted (g.R.Report.reported l.report)

abbrev pub decreases-loop-rest : goal.decreases-loop-rest
decreases-loop-rest g l = length l.rest
