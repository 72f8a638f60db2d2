use Rattle.plan_code.proofs.OpcodeLaws.{opcodes_agree}
use Rattle.plan_code.proofs.laws.opcodes.Goals as goal

pub returns : goal.returns
returns c = record { agree = opcodes_agree }
