-- The acts of a plan, frame by frame.
use Rattle.std.specs.Prelude.{ℕ, ◌-◌, ◌≤◌, Bool, true, false, if◌then◌else◌, List, [], ◌∷◌}
use Rattle.mux_config.specs.declared.edit.Edit.{Edit}
use Rattle.script_front.specs.declared.tree.Act.{Act}
use Rattle.script_front.specs.declared.tree.Act.TheVariants.{Edit as Edits, Wait, WaitContact, Until, WaitAny, Join}

-- the edits among acts, in order
abbrev pub edits_in : List Act → List Edit
edits_in [] = []
edits_in (Edits e ∷ acts) = e ∷ edits_in acts
edits_in (_ ∷ acts) = edits_in acts

-- the next act is always in a later frame
abbrev pub ends_frame : Act → Bool
ends_frame (Wait frames) = true
ends_frame (WaitContact contact closed) = true
ends_frame (Until moment) = true
ends_frame (WaitAny alternatives) = true
ends_frame Join = true
ends_frame _ = false

-- the acts fit: this frame has room for `left` more, and each later one for `most`
abbrev pub FitFrames : (most left : ℕ) → List Act → Type 0
FitFrames most left [] = Unit {0}
FitFrames most left (act ∷ acts) = (1 ≤ left) × FitFrames most (if ends_frame act then most else left - 1) acts
