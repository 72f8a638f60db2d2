use Rattle.plan_code.proofs.Words.{◌∙◌, ap, arith, not}
use Rattle.plan_code.proofs.Meeting.{lacks}
use Rattle.plan_code.proofs.flags.Contacts.any_open.Goals as goal

pub returns : goal.returns
returns c = ap not (c.contains.ensures tt) ∙ lacks c.args.set c.args.self (omega arith)
