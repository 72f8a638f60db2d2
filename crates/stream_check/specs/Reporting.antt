-- Findings reported one after the other.
use Rattle.std.specs.Prelude.{Bool, if◌then◌else◌, List, [], ◌∷◌, Option, Some, None}
use Rattle.stream_check.specs.declared.finding.Finding.{Finding}
use Rattle.stream_check.specs.declared.finding.What.{What}
use Rattle.stream_check.specs.declared.finding.What.TheVariants as whats
use Rattle.stream_check.specs.declared.finding.Fault.{Fault}
use Rattle.stream_check.specs.declared.reporting.FrameAt.{FrameAt}

abbrev pub in_frame : FrameAt → What → Finding
in_frame at what = record { frame = at.frame; count = at.count; what = what }

abbrev pub when : Bool → Fault → List What
when holds fault = if holds then whats.Fault fault ∷ [] else []

abbrev pub as_list : Option Fault → List What
as_list None = []
as_list (Some fault) = whats.Fault fault ∷ []
