use Rattle.plan_map.proofs.Words.{place_of}
use Rattle.plan_map.proofs.Pieces.{cells_from_zero}
use Rattle.plan_map.proofs.layout.places_of.Goals as goal

pub loop-id-preserved : goal.loop-id-preserved
loop-id-preserved c =
    cc (c.in_ok-push_place.ensures, c.loop-id.invariant, cells_from_zero (place_of c.args.subs.now) c.loop-id.id)
