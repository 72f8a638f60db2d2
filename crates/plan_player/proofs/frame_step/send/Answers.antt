use Rattle.plan_player.proofs.Words.{◌<◌, ◌∙◌, State, ap, arith, page_after, sent_entries, sent_rounds, state_of}
use Rattle.plan_player.proofs.Words.{with_next_counts, ℕ}
use Rattle.plan_player.proofs.Keeping.{turned, next_page}
use Rattle.plan_player.proofs.frame_step.send.Goals as goal

pub show-requires : goal.show-requires
show-requires g c =
    let plan = c.args.plan.now in
    let s = state_of g.S.Store.content c.args.machine.now in
    let made = c.make_page_to_send.ensures in
    (plan.layout, sent_entries plan s, made.keeps.each s.page_index made.made)

pub returns-clause-keeps : goal.returns-clause-keeps
returns-clause-keeps g c =
    let plan = c.args.plan.now in
    let s = state_of g.S.Store.content c.args.machine.now in
    let made = c.make_page_to_send.ensures in
    c.show.ensures.keeps _ _ _
    (turned plan.layout (sent_entries plan s) s.page_index (sent_rounds plan s) c.make_page_to_send.new.pages
    made.keeps made.made)

pub returns-clause-state : goal.returns-clause-state
returns-clause-state g c =
    let plan = c.args.plan.now in
    let s : State = state_of g.S.Store.content c.args.machine.now in
    let made = c.make_page_to_send.ensures in
    let pages = c.show.new.pages in
    let page_index : s.page_index < pages.made = omega (arith, made.made, c.show.ensures.made) in
    let next = next_page plan.layout (sent_entries plan s) s.page_index c.count.result pages
    (c.show.ensures.keeps _ _ _ made.keeps) page_index c.count.ensures.whole c.count.ensures.more in
    c.pass.ensures plan ∙ ap (λ (t : ℕ). let r : State = record (with_next_counts plan s) { page_index = t } in r)
    (c.page_after.ensures ∙ next)
