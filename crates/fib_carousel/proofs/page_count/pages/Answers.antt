use Rattle.fib_carousel.proofs.Words.{◌∙◌, all_placed, ap, facts_of}
use Rattle.fib_carousel.proofs.Runs.{one_counted, two_counted}
use Rattle.fib_carousel.proofs.page_count.pages.Goals as goal

pub returns-in-Some : goal.returns-in-Some
returns-in-Some g c =
    let current = g.S.Store.content c.args.current.now in
    let first = c.with_entries-last.ensures.value ∙ ap (all_placed c.args.layout (facts_of current _))
    c.start.ensures in
    rw (c.in-Some.is) (c.rounds_to.ensures ∙ two_counted c.args.layout current (g.S.Store.content c.in-Some.next.now)
    c.with_entries-last.result c.with_entries.result first c.with_entries.ensures.value)

pub returns-in-None : goal.returns-in-None
returns-in-None g c =
    let current = g.S.Store.content c.args.current.now in
    let first = c.with_entries-last.ensures.value ∙ ap (all_placed c.args.layout (facts_of current _))
    c.start.ensures in
    rw (c.in-None.is) (c.rounds_to-in-None.ensures ∙ one_counted c.args.layout current c.with_entries-last.result first)
