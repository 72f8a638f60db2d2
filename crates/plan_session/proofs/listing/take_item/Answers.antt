use Rattle.plan_session.proofs.OneByOne.{takes_found, still_listed}
use Rattle.plan_session.proofs.listing.take_item.Goals as goal

pub returns-in-Ok : goal.returns-in-Ok
returns-in-Ok g c = record {
  item = takes_found g.T.Item.spelled g.T.Item.is_item c.uniqueness.ensures.unique c.uniqueness.ensures.some
      c.args.scanner.now c.next_item.new.scanner c.in-Ok.found c.in-Ok.ensures;
  listed = still_listed g.T.Item.spelled g.T.Item.is_item c.uniqueness.ensures.unique c.uniqueness.ensures.some
      c.args.scanner.now c.next_item.new.scanner c.in-Ok.found c.requires.0 c.in-Ok.ensures c.requires.1;
}
