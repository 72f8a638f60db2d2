-- What a check finds in frames, and its lines for them.
use Rattle.std.specs.Prelude.{◌&&◌, Bool, not, if◌then◌else◌, nat_lt, List, [], ◌∷◌, ◌++◌, length, flat_map}
use Rattle.std.specs.Io.Iter.{u64_saturate}
use Rattle.fib_codec.specs.Modes.{fib_count, count_step}
use Rattle.stream_check.specs.Frames.{Fib, damaged_in}
use Rattle.stream_check.specs.Stream.{findings_next, findings_of, frames_full}
use Rattle.stream_check.specs.declared.checker.Summary.{Summary}
use Rattle.stream_check.specs.declared.finding.Finding.{Finding}
use Rattle.stream_monitor.specs.declared.line.Line.{Line}
use Rattle.stream_monitor.specs.declared.line.Line.TheVariants as lines
use Rattle.stream_monitor.specs.declared.line.Totals.{Totals}
use Rattle.stream_monitor.specs.declared.options.CheckOptions.{CheckOptions}
use Rattle.stream_monitor.specs.declared.tally.Tally.{Tally}
use Rattle.stream_monitor.specs.Findings.{swaps_in, faults_in}
use Rattle.stream_monitor.specs.Lines.{finding_lines, is_due}

-- ---- what is found

-- in these frames
abbrev pub found_in : CheckOptions → List (List Fib) → List Finding
found_in o frames = findings_of (fib_count o.mode) (count_step o.mode) o.period [] frames

-- in the frame after these
abbrev pub found_next : CheckOptions → List (List Fib) → List Fib → List Finding
found_next o before frame =
    findings_next (fib_count o.mode) (count_step o.mode) o.period before frame

-- whether there is no room for an entry of these frames
abbrev pub is_full : CheckOptions → List (List Fib) → Bool
is_full o frames = frames_full (count_step o.mode) o.period [] frames

-- whether a fault is found in these frames, and is to end the check
abbrev pub is_stopped : CheckOptions → List (List Fib) → Bool
is_stopped o frames = o.until_fault && nat_lt 0 (faults_in (found_in o frames))

-- ---- totals

-- the numbers of swaps and of faults in these frames, each at most 2 ^ 64 - 1
abbrev pub tally_after : CheckOptions → List (List Fib) → Tally
tally_after o frames = record {
  swaps = u64_saturate (swaps_in (found_in o frames));
  faults = u64_saturate (faults_in (found_in o frames));
}

abbrev pub summary_after : (skipped : List Fib) (frames : List (List Fib)) (rest : List Fib) → Summary
summary_after skipped frames rest = record {
  frames = length frames;
  skipped = length skipped;
  left_over = length rest;
  damaged = damaged_in (flat_map (λ f. f) frames);
}

-- of a stream that is cut into these frames, with the FIBs before and behind them
abbrev pub totals_after : CheckOptions → (skipped : List Fib) (frames : List (List Fib)) (rest : List Fib) → Totals
totals_after o skipped frames rest = record {
  summary = summary_after skipped frames rest;
  swaps = (tally_after o frames).swaps;
  faults = (tally_after o frames).faults;
}

-- ---- lines

-- the totals after these frames, where they are due; none where a frame has no room
abbrev pub alive_lines : CheckOptions → (skipped : List Fib) (frames : List (List Fib)) → List Line
alive_lines o skipped frames =
    if not (is_full o frames) && is_due o.every (length frames)
    then lines.Alive (totals_after o skipped frames []) ∷ [] else []

-- of the frame after these: its findings, and then the totals
abbrev pub frame_lines : CheckOptions → (skipped : List Fib) (before : List (List Fib)) (frame : List Fib) → List Line
frame_lines o skipped before frame =
    finding_lines (found_next o before frame) ++ alive_lines o skipped (before ++ frame ∷ [])

-- of the frames after these, frame by frame
abbrev pub frames_lines : CheckOptions → (skipped : List Fib) (before frames : List (List Fib)) → List Line
frames_lines o skipped before [] = []
frames_lines o skipped before (frame ∷ frames) =
    frame_lines o skipped before frame ++ frames_lines o skipped (before ++ frame ∷ []) frames
