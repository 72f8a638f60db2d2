use Rattle.script_compiler.proofs.Making.{scripts_have_one_code}
use Rattle.script_compiler.proofs.laws.codes.Goals as goal

pub returns : goal.returns
returns c = scripts_have_one_code
