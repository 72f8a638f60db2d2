use Rattle.plan_code.proofs.Words.{◌∙◌, arith}
use Rattle.plan_code.proofs.Meeting.{meets}
use Rattle.plan_code.proofs.flags.Contacts.any_closed.Goals as goal

pub returns : goal.returns
returns c = c.intersects.ensures tt ∙ meets c.args.set c.args.self (omega arith)
