use Rattle.schedule_verifier.proofs.Words.{arith}
use Rattle.schedule_verifier.proofs.Applying.{overlays_more}
use Rattle.schedule_verifier.proofs.wanted.add_overlays.Goals as goal

pub loop-overlay-preserved : goal.loop-overlay-preserved
loop-overlay-preserved c =
    overlays_more c.args.region.now c.args.notice c.args.overlays.now c.loop-overlay.overlay-index
    c.overlay-item.result _ _ _ _ (omega (arith, c.loop-overlay-test.true)) c.overlay-item.is c.loop-overlay.invariant
    c.in-Yes.ensures
