use Rattle.plan_session.proofs.Words.{◌-◌, IsValidUpTo, leb-true, length, subst, sym, ℕ}
use Rattle.plan_session.proofs.NoTexts.{no_text_begins}
use Rattle.plan_session.proofs.text_file.begins_no_text.Goals as goal

pub returns-in-Err : goal.returns-in-Err
returns-in-Err c = λ e rest.
    no_text_begins c.args.bytes.now c.valid_up_to.result
    (subst (λ (n : ℕ). IsValidUpTo c.args.bytes.now n) (sym c.valid_up_to.ensures) c.in-Err.ensures.cases.1)
    (leb-true 4 (length c.args.bytes.now - c.valid_up_to.result) e) rest
