use Rattle.plan_session.proofs.Words.{[], append-nil, step_lexemes, sym}
use Rattle.plan_session.proofs.StepLexemes.{no_step}
use Rattle.plan_session.proofs.events.StepItem.further.Goals as goal

pub returns-in-None-clause-count : goal.returns-in-None-clause-count
returns-in-None-clause-count c =
    λ s rest e. absurd (no_step (step_lexemes s) c.args.word.now rest e c.in-None.ensures.none s []
    (sym (append-nil (step_lexemes s))))
