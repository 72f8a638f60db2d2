use Rattle.std.proofs.Common.{◌≡◌, drop, map}
use Rattle.schedule_front.specs.Tree.{overlay_of}
use Rattle.schedule_compiler.specs.Refusals.{last_line}
use Rattle.schedule_compiler.proofs.lines.last_line.Given as goal

abbrev pub invariant-loop-overlay : goal.invariant-loop-overlay
invariant-loop-overlay l =
    (last_line l.none l.set (map overlay_of l.overlays)
    ≡ last_line l.line l.rest (map overlay_of (drop l.overlay-index l.overlays)))
