use Rattle.plan_code.proofs.Words.{◌∙◌, ◌≡◌, Err, Ok, ap, err_from_is_err_and, in_file, label_from, subst, ℕ}
use Rattle.mux_config.proofs.ReadingLoops.{member_fault, member_next, members_done}
use Rattle.plan_code.proofs.Loops.{fails_in_file}
use Rattle.plan_code.proofs.code_reader.labels.Goals as goal

pub returns-in_err-label-clause-read : goal.returns-in_err-label-clause-read
returns-in_err-label-clause-read c =
    let p = err_from_is_err_and c.from_residual.result c.from_residual.ensures.1 in
    let read = subst (λ (t : ℕ). label_from t c.args.configs c.loop.low c.loop.reader.rest
    ≡ Err c.in_err-label.field-0.0) c.loop.invariant.total c.in_err-label.ensures.taken in
    rw (p.1, p.2) (fails_in_file _ _ (member_fault _ _ _ _ _ _ _ _ _ c.loop-test.true c.loop.invariant.given read))

pub loop-preserved : goal.loop-preserved
loop-preserved c =
    let read = subst (λ (t : ℕ). label_from t c.args.configs c.loop.low c.loop.reader.rest
    ≡ Ok (c.in_ok-label.label, c.label.new.reader.rest)) c.loop.invariant.total c.in_ok-label.ensures.taken in
    record {
      total = c.in_ok-label.ensures.total ∙ c.loop.invariant.total;
      given = rw (c.in_ok-push.ensures.items, c.from-low.ensures)
          (member_next _ _ _ _ _ _ _ _ _ _ c.loop-test.true c.loop.invariant.given read);
    }

pub returns-clause-read : goal.returns-clause-read
returns-clause-read c = ap in_file (members_done _ _ _ _ _ _ _ _ c.loop-test.false c.loop.invariant.given)
