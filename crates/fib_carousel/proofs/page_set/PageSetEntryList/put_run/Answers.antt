use Rattle.fib_carousel.proofs.Words.{◌-◌, ◌<◌, ◌≡◌, Configuration, Some, ap, arith, config_entries, facts_of, false}
use Rattle.fib_carousel.proofs.Words.{length, length-map, marked, option_map, true}
use Rattle.std.specs.Option.{option_copied}
use Rattle.fib_carousel.proofs.Sides.{current_side, next_side, next_within, side_takes, side_puts}
use Rattle.fib_carousel.proofs.page_set.PageSetEntryList.put_run.Goals as goal

pub returns-then-index-current : goal.returns-then-index-current
returns-then-index-current g c =
    let now : Configuration = g.S.Store.content c.args.self.now.current.now in
    let there : c.args.index < length (facts_of now false) =
    omega (
      arith,
      c.if-index-current.true,
      c.entry_count-current.ensures.value,
      length-map (config_entries now) (marked false),
    ) in
    side_puts _ _ c.args.index c.args.index c.args.room _ _ _
    (current_side now (option_map g.S.Store.content (option_copied c.args.self.now.next)) c.args.index) there
    c.put_run_at.ensures

pub put_run_at-requires-in-Some-clause-room : goal.put_run_at-requires-in-Some-clause-room
put_run_at-requires-in-Some-clause-room g c =
    let now : Configuration = g.S.Store.content c.args.self.now.current.now in
    let then : Configuration = g.S.Store.content c.in-Some.next.now in
    let is : option_map g.S.Store.content (option_copied c.args.self.now.next) ≡ Some then =
    ap (λ o. option_map g.S.Store.content (option_copied o)) c.in-Some.is in
    side_takes _ _ c.args.index _ c.args.room _
    (next_side now then (option_map g.S.Store.content (option_copied c.args.self.now.next)) c.entry_count-current.result
    c.args.index is c.entry_count-current.ensures.value c.if-index-current.false) c.requires.room

pub returns-in-Some : goal.returns-in-Some
returns-in-Some g c =
    let now : Configuration = g.S.Store.content c.args.self.now.current.now in
    let then : Configuration = g.S.Store.content c.in-Some.next.now in
    let is : option_map g.S.Store.content (option_copied c.args.self.now.next) ≡ Some then =
    ap (λ o. option_map g.S.Store.content (option_copied o)) c.in-Some.is in
    let side = next_side now then (option_map g.S.Store.content (option_copied c.args.self.now.next))
    c.entry_count-current.result c.args.index is c.entry_count-current.ensures.value c.if-index-current.false in
    let there : c.args.index - c.entry_count-current.result < length (facts_of then true) =
    next_within now then (option_map g.S.Store.content (option_copied c.args.self.now.next))
    c.entry_count-current.result c.args.index is c.entry_count-current.ensures.value c.if-index-current.false
    c.requires.here in
    side_puts _ _ c.args.index _ c.args.room _ _ _ side there c.put_run_at-in-Some.ensures
