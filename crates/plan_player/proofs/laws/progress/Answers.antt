-- Answers of `progress` in src/laws.rt
use Rattle.plan_player.proofs.FrameFacts.{typed_code_progresses}
use Rattle.plan_player.proofs.laws.progress.Goals as goal

pub returns : goal.returns
returns c = typed_code_progresses
