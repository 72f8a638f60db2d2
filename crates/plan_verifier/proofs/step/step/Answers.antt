use Rattle.plan_verifier.proofs.Words.{◌∙◌, Known, Plan, ap, flow_of, known_of, known_with, leaves, left_over}
use Rattle.plan_verifier.proofs.Words.{set_after, sym}
use Rattle.plan_verifier.proofs.Leaving.{leaves_known}
use Rattle.plan_verifier.proofs.step.step.Goals as goal

pub returns-clause-left : goal.returns-clause-left
returns-clause-left g c =
    let plan = c.plan-plan.result in
    let i = c.args.instr.now in
    let known : Known = known_of g.S.Store.content c.test_target.new.state in
    c.account.ensures.value
    ∙ ap (λ (t : Known). known_with (flow_of t) (set_after i t.counters) (left_over plan i t.allowance))
    c.in_ok-advance.ensures.left
    ∙ sym (leaves_known plan i (flow_of known) known.counters known.allowance)
    ∙ ap (λ (p : Plan). leaves p i known) c.plan-plan.ensures.value
    ∙ ap (λ (t : Known). leaves c.args.code.now.plan i t) c.test_target.ensures.kept

pub returns-clause-tracked : goal.returns-clause-tracked
returns-clause-tracked g c = rw c.account.ensures.tracked
    (c.in_ok-advance.ensures.tracked c.args.code.now.configurations c.test_target.ensures.tracked)
