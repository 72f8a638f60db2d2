use Rattle.script_compiler.proofs.Words.{◌≢◌, IsAcceptedButForCosts, Memory, ap, arith, beginning, body_of, length}
use Rattle.script_compiler.proofs.Words.{lines_of_placed, rules}
use Rattle.script_compiler.proofs.Places.{first_of_all}
use Rattle.script_compiler.proofs.Formed.{fault_either}
use Rattle.script_compiler.proofs.Making.{opens, laid_few, laid_judged}
use Rattle.script_compiler.proofs.Spaces.{limit_map}
use Rattle.script_compiler.proofs.frame_costs.frame_cost.Goals as goal

pub returns-in_err-work-clause-refused : goal.returns-in_err-work-clause-refused
returns-in_err-work-clause-refused c =
    let s = c.args.script.now in
    let fault = c.in_err-work.field-0.0 in
    let o = opens s c.header-plan.result c.in_ok-config.config c.items.result.now c.header-plan.ensures.value
    c.in_ok-config.ensures.made c.items.ensures.value in
    let h : fault ≢ Memory → IsAcceptedButForCosts s → ⊥ = λ is accepted.
    let judged = laid_judged o accepted.judged in
    fault_either ⊥ fault (λ r. c.in_err-work.ensures.refused r judged)
    (limit_map fault (λ at k without_label. without_label judged (laid_few o k (accepted.limits k)))
    c.in_err-work.ensures.limited) is in
    search (rules, h)

pub cost_of-requires-clause-some : goal.cost_of-requires-clause-some
cost_of-requires-clause-some c =
    let s = c.args.script.now in
    let begins = first_of_all c.header-plan.result s.last_line (body_of s) (beginning c.in_ok-config.config) in
    let some = ap (λ ps. length (lines_of_placed ps)) begins.is in
    let lines = ap length c.in_ok-work.ensures.lines in
    let same = ap length c.deref.ensures.value in
    omega (arith, some, lines, same)
