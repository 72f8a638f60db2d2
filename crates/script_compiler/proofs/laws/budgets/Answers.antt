use Rattle.script_compiler.proofs.Paths.{least_budget}
use Rattle.script_compiler.proofs.laws.budgets.Goals as goal

pub returns : goal.returns
returns c = least_budget
