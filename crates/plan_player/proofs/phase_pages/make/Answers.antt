use Rattle.plan_player.proofs.Words.{page_set_of}
use Rattle.std.specs.Option.{option_copied}
use Rattle.plan_player.proofs.Keeping.{one_more}
use Rattle.plan_player.proofs.phase_pages.make.Goals as goal

pub returns-clause-keeps : goal.returns-clause-keeps
returns-clause-keeps g c =
    let ms = page_set_of g.S.Store.content c.args.current.now (option_copied c.args.next) in
    let at = (c.requires.keeps.cursor c.requires.within).1 in
    let page = c.kept_page-page.result in
    let cursor = c.kept_page-page.new.self in
    one_more c.args.layout ms c.args.pages.now c.from-place.result page c.number.result cursor c.requires.keeps
    c.from-place.ensures c.requires.few c.requires.within (rw (← at) c.kept_page-page.ensures.kept)
    (rw (← at) c.kept_page-page.ensures.next) c.number.ensures
