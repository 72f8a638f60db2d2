use Rattle.plan_map.proofs.Words.{first_clash}
use Rattle.plan_map.proofs.Places.{serves, is_clash}
use Rattle.plan_map.proofs.layout.layout_from.Goals as goal

pub returns-in-Some : goal.returns-in-Some
returns-in-Some c =
    let answer = c.first_clash.ensures in
    is_clash c.in-Some.clash c.in_ok-places.places.items c.args.subs.now c.in_ok-places.ensures cc

pub returns-in-None : goal.returns-in-None
returns-in-None c =
    let answer = c.first_clash.ensures in
    serves c.in_ok-places.places.items c.args.subs.now c.in_ok-places.ensures c.requires cc
