use Rattle.plan_session.proofs.Words.{refl}
use Rattle.plan_session.proofs.StepLexemes.{no_step}
use Rattle.plan_session.proofs.WrongSteps.{no_step_left, no_step_begins}
use Rattle.plan_session.proofs.events.StepItem.read.Goals as goal

pub returns-in_default-begins_frames-clause-none : goal.returns-in_default-begins_frames-clause-none
returns-in_default-begins_frames-clause-none c = λ s rest is e.
    no_step c.args.reader.now.lexemes c.in-Some.word.now c.in-Some.ensures.rest c.in-Some.ensures.begins
    c.in_default-begins_frames.ensures.none s rest e

pub returns-in_default-clause-wrong : goal.returns-in_default-clause-wrong
returns-in_default-clause-wrong c = no_step_left c.args.reader.now.lexemes _ c.in_default.ensures refl refl

pub returns-in_default-begins_frames-clause-wrong : goal.returns-in_default-begins_frames-clause-wrong
returns-in_default-begins_frames-clause-wrong c =
    no_step_begins _ _ _ _ c.in-Some.ensures.begins c.in_default-begins_frames.ensures.none refl refl
