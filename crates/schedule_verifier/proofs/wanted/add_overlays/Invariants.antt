use Rattle.schedule_verifier.proofs.Words.{◌%◌, ◌+◌, ◌≡◌, FRAMES_A_DAY, Throughout, drop, map, overlay_of}
use Rattle.schedule_verifier.proofs.Words.{with_overlays}
use Rattle.schedule_verifier.proofs.wanted.add_overlays.Given as goal

abbrev pub invariant-loop-overlay : goal.invariant-loop-overlay
invariant-loop-overlay l = Throughout l.region (λ contacts day.
    with_overlays contacts ((day + l.notice) % FRAMES_A_DAY) (map overlay_of l.overlays) l.fn.config
    ≡ with_overlays contacts ((day + l.notice) % FRAMES_A_DAY) (map overlay_of (drop l.overlay-index l.overlays))
    l.config)
