use Rattle.schedule_verifier.proofs.Words.{overlay_of}
use Rattle.schedule_verifier.proofs.Applying.{overlay_applied, overlay_left}
use Rattle.schedule_verifier.proofs.wanted.add_overlay.Goals as goal

pub returns-then-apply_all : goal.returns-then-apply_all
returns-then-apply_all c =
    let holds = rw c.as_slice.ensures.value at c.in-Yes.ensures in
    let new = rw c.as_slice-in-Yes.ensures.value at (c.apply_all.ensures c.if-apply_all.true) in
    overlay_applied c.args.region.now c.args.notice (overlay_of c.args.overlay.now) _ _ holds new

pub returns-in-No : goal.returns-in-No
returns-in-No c =
    let fails = rw c.as_slice.ensures.value at c.in-No.ensures in
    overlay_left c.args.region.now c.args.notice (overlay_of c.args.overlay.now) _ fails
