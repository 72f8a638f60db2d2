use Rattle.schedule_front.proofs.Words.{arith, err_from_is_err_and}
use Rattle.schedule_front.proofs.ReadingOverlays.{all_read, no_room, none_next}
use Rattle.schedule_front.proofs.overlays.overlays.Goals as goal

pub returns-then-len-eq-MOST_OVERLAYS-clause-none : goal.returns-then-len-eq-MOST_OVERLAYS-clause-none
returns-then-len-eq-MOST_OVERLAYS-clause-none c =
    λ ne. no_room _ _ _ _ _ _ (let full = c.if-len-eq-MOST_OVERLAYS.true in omega (arith, full, c.len.ensures))
    (c.has_more.ensures.some c.overlays-test.true) c.overlays.invariant

pub returns-in_err-next_overlay-clause-none : goal.returns-in_err-next_overlay-clause-none
returns-in_err-next_overlay-clause-none c =
    let r = err_from_is_err_and c.from_residual.result c.from_residual.ensures.1 in
    rw (r.1, r.2) (λ ne. none_next _ _ _ _ _ _ (c.has_more.ensures.some c.overlays-test.true)
    (c.in_err-next_overlay.ensures.none ne) c.overlays.invariant)

pub returns-clause-read : goal.returns-clause-read
returns-clause-read c = all_read _ _ _ _ _ _ (c.has_more.ensures.none c.overlays-test.false) c.overlays.invariant
