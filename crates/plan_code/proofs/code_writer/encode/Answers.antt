use Rattle.plan_code.proofs.FileLaws.{written_again}
use Rattle.plan_code.proofs.code_writer.encode.Goals as goal

pub returns-clause-again : goal.returns-clause-again
returns-clause-again c = written_again (λ v. v.items) _ _ c.file.ensures.formed c.file.ensures.spelled
