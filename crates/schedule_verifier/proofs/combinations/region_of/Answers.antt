use Rattle.schedule_verifier.proofs.Words.{◌<◌, arith}
use Rattle.schedule_verifier.proofs.Holding.{at_moment}
use Rattle.schedule_verifier.proofs.combinations.region_of.Goals as goal

pub returns : goal.returns
returns c =
    let low : c.args.moment.contacts.0 < 65536 = omega (arith, c.well_formed) in
    at_moment c.args.moment.contacts c.args.moment.day c.get.result c.get-2.result low
    (rw c.get.ensures.value at c.get.ensures.in_range) c.get.ensures.value c.get-2.ensures.value
