use Rattle.std.proofs.Common.{◌^◌}
use Rattle.schedule_verifier.proofs.Words.{◌%◌, ◌+◌, ◌-◌, ◌<◌, ◌≡◌, ◌≤◌, FRAMES_A_DAY, Throughout, drop, length, map}
use Rattle.schedule_verifier.proofs.Words.{overlay_of}
use Rattle.schedule_verifier.specs.Combinations.{held_of}
use Rattle.schedule_verifier.proofs.combinations.held_of.Given as goal

abbrev pub invariant-loop-left : goal.invariant-loop-left
invariant-loop-left l = (l.left ≤ length l.overlays) × (l.set < 2 ^ (length l.overlays - l.left))
    × Throughout l.region (λ contacts day.
    held_of contacts ((day + l.notice) % FRAMES_A_DAY) (map overlay_of (drop l.left l.overlays)) ≡ l.set)

abbrev pub decreases-loop-left : goal.decreases-loop-left
decreases-loop-left l = l.left
