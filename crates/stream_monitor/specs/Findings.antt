-- The numbers of swaps and faults among findings.
use Rattle.std.specs.Prelude.{ℕ, ◌+◌, Bool, true, false, if◌then◌else◌, List, [], ◌∷◌}
use Rattle.std.specs.Io.Iter.{u64_saturate}
use Rattle.stream_check.specs.declared.finding.Finding.{Finding}
use Rattle.stream_check.specs.declared.finding.StreamEvent.TheVariants as events
use Rattle.stream_check.specs.declared.finding.What.{What}
use Rattle.stream_check.specs.declared.finding.What.TheVariants as whats
use Rattle.stream_monitor.specs.declared.tally.Tally.{Tally}

abbrev pub reports_swap : What → Bool
reports_swap (whats.Event (events.Ensemble eid)) = false
reports_swap (whats.Event (events.Announced change low)) = false
reports_swap (whats.Event events.Swap) = true
reports_swap (whats.Fault fault) = false

abbrev pub is_fault : What → Bool
is_fault (whats.Event event) = false
is_fault (whats.Fault fault) = true

-- the numbers of swaps and of faults
abbrev pub swaps_in : List Finding → ℕ
swaps_in [] = 0
swaps_in (f ∷ fs) = (if reports_swap f.what then 1 else 0) + swaps_in fs

abbrev pub faults_in : List Finding → ℕ
faults_in [] = 0
faults_in (f ∷ fs) = (if is_fault f.what then 1 else 0) + faults_in fs

-- the numbers with those of more findings, each at most 2 ^ 64 - 1
abbrev pub counted : Tally → List Finding → Tally
counted t found = record {
  swaps = u64_saturate (t.swaps + swaps_in found);
  faults = u64_saturate (t.faults + faults_in found);
}
