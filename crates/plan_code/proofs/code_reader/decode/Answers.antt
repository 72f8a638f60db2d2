use Rattle.plan_code.proofs.Words.{arith}
use Rattle.plan_code.proofs.FileLaws.{found_so, formed_so, read_so}
use Rattle.plan_code.proofs.code_reader.decode.Goals as goal

pub returns-clause-formed : goal.returns-clause-formed
returns-clause-formed c = formed_so _ _ (λ i. omega (arith, c.type_inv.bytes i)) c.whole.ensures

pub returns-clause-found : goal.returns-clause-found
returns-clause-found c = found_so _ _ (λ i. omega (arith, c.type_inv.bytes i)) c.whole.ensures

pub returns-clause-only : goal.returns-clause-only
returns-clause-only c = λ p is e. read_so c.args.bytes.now c.whole.result p is e c.whole.ensures
