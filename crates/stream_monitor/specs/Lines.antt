-- The lines of findings, and when totals are due.
use Rattle.std.specs.Prelude.{ℕ, ◌%◌, ◌==◌, ◌&&◌, Bool, false, nat_lt, List, [], ◌∷◌, Option, None, Some}
use Rattle.stream_check.specs.declared.finding.Finding.{Finding}
use Rattle.stream_monitor.specs.declared.line.Line.{Line}
use Rattle.stream_monitor.specs.declared.line.Line.TheVariants as lines

-- a line for each finding
abbrev pub finding_lines : List Finding → List Line
finding_lines [] = []
finding_lines (finding ∷ found) = lines.Found finding ∷ finding_lines found

-- after every so many frames
abbrev pub is_due : Option ℕ → ℕ → Bool
is_due None frames = false
is_due (Some every) frames = nat_lt 0 every && frames % every == 0
