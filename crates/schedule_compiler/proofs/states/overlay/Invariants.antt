use Rattle.std.proofs.Common.{◌≡◌, drop, map}
use Rattle.schedule_front.specs.Tree.{overlay_of}
use Rattle.schedule_compiler.specs.Refusals.{overlaid}
use Rattle.schedule_compiler.proofs.states.overlay.Given as goal

abbrev pub invariant-loop-overlay : goal.invariant-loop-overlay
invariant-loop-overlay l =
    (overlaid l.set (map overlay_of l.overlays) l.fn.config
    ≡ overlaid l.rest (map overlay_of (drop l.overlay-index l.overlays)) l.config)
