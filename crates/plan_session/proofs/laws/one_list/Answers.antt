use Rattle.plan_session.proofs.Words.{IsStep, step_lexemes}
use Rattle.plan_session.proofs.ItemTexts.{holds_one_list}
use Rattle.plan_session.proofs.StepLexemes.{one_step, some_words}
use Rattle.plan_session.proofs.laws.one_list.Goals as goal

pub returns : goal.returns
returns c = holds_one_list step_lexemes IsStep one_step some_words
