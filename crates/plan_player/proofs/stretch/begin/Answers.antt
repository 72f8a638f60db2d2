use Rattle.plan_player.proofs.Words.{◌%◌, ◌+◌, ◌∙◌, ◌≡◌, COUNTS, HasPage, State, ap, arith, counted_on}
use Rattle.plan_player.proofs.Words.{sent_entries, state_of, subst, suc, sym, ℕ}
use Rattle.plan_player.proofs.Together.{stretch_page, headed_within, page_kept, batch_more, turn_more, count_more}
use Rattle.plan_player.proofs.stretch.begin.Goals as goal

pub held-page-requires : goal.held-page-requires
held-page-requires g c =
    let plan = c.args.plan.now in
    let s : State = state_of g.S.Store.content c.args.machine.now in
    let k : ℕ = c.loop-done.done in
    let pages = c.args.pages.now in
    let has = stretch_page plan c.args.count k s pages c.requires.stretch c.loop-done-test.true in
    let here = subst (λ (x : ℕ). HasPage plan.layout (sent_entries plan (counted_on plan k s)) x pages.pages)
    (sym c.loop-done.invariant.page_index) has in
    (here.page, here.held)

pub push-requires-clause-within : goal.push-requires-clause-within
push-requires-clause-within g c =
    let s : State = state_of g.S.Store.content c.args.machine.now in
    headed_within _ _ _ _ _ _ _ c.requires.stretch c.loop-done-test.true c.requires.header c.loop-done.invariant.number

pub loop-done-preserved : goal.loop-done-preserved
loop-done-preserved g c =
    let plan = c.args.plan.now in
    let n : ℕ = c.args.count in
    let s : State = state_of g.S.Store.content c.args.machine.now in
    let k : ℕ = c.loop-done.done in
    let t : State = counted_on plan k s in
    let pages = c.args.pages.now in
    let h = c.requires.stretch in
    let lt = c.loop-done-test.true in
    let before = c.loop-done.invariant in
    let next : suc k ≡ k + 1 = omega arith in
    let kept = page_kept _ _ _ _ _ _ _ h lt before.page_index c.held-page.ensures in
    let more = batch_more plan n k s pages c.args.header c.loop-done.number c.loop-done.batch c.push.new.batch h lt
    c.requires.header before.number before.bytes
    (c.push.ensures.bytes (sent_entries plan t) t.page_index kept) in
    let page_index : c.page_after-page_index.result ≡ (counted_on plan (suc k) s).page_index =
    cc (c.page_after-page_index.ensures, c.from-rounds.ensures, before.page_index, turn_more plan n k s pages h lt) in
    let number : c.count_after-number.result ≡ (counted_on plan (suc k) s).count =
    c.count_after-number.ensures ∙ ap (λ (x : ℕ). (x + 1) % COUNTS) before.number ∙ sym (count_more plan k s) in
    record {
      within = omega (arith, lt);
      page_index = rw (← next) page_index;
      number = rw (← next) number;
      bytes = rw (← next) more;
      room = omega (arith, before.room, c.push.ensures.size);
    }
