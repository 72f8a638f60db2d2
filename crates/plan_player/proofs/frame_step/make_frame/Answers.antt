use Rattle.plan_player.proofs.Words.{Keeps, Plan, State, sent_entries, state_of, subst, sym}
use Rattle.plan_player.proofs.frame_step.make_frame.Goals as goal

pub send-requires-clause-keeps : goal.send-requires-clause-keeps
send-requires-clause-keeps g c =
    let p = c.args.code.now in
    let pages = c.prepare-steps.new.pages in
    let s : State = state_of g.S.Store.content c.prepare-steps.new.machine in
    let at = subst (λ (u : State). Keeps p.plan.layout (sent_entries p.plan u) u.page_index pages)
    (sym c.prepare-steps.ensures.state) c.prepare-steps.ensures.keeps in
    let here = subst (λ (q : Plan). Keeps q.layout (sent_entries q s) s.page_index pages)
    (sym c.plan-plan.ensures.value) at in
    c.note_change.ensures.keeps c.plan-plan.result.layout (sent_entries c.plan-plan.result s) s.page_index here
