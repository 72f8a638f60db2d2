use Rattle.stream_check.proofs.Chain.{more_none}
use Rattle.stream_check.proofs.Waiting.{none_quiet}
use Rattle.stream_check.proofs.checker_state.CheckerState.report_quiet.Goals as goal

pub returns-then-is_too_soon : goal.returns-then-is_too_soon
returns-then-is_too_soon g c =
    rw (none_quiet _ _ _ _ _ c.oldest.ensures (c.is_too_soon.ensures c.if-is_too_soon.true)) (more_none _)
