-- The findings in a frame, and in successive frames.
use Rattle.std.specs.Prelude.{ℕ, ◌%◌, ◌==◌, ◌&&◌, Bool, true, false, if◌then◌else◌, nat_lt, List, [], ◌∷◌, ◌++◌, length}
use Rattle.std.specs.Prelude.{map, Option, Some, None}
use Rattle.mux_types.specs.Entries.{EnsembleInformation}
use Rattle.stream_check.specs.declared.contradiction.Contradiction.{Contradiction}
use Rattle.stream_check.specs.declared.finding.Finding.{Finding}
use Rattle.stream_check.specs.declared.finding.Fault.TheVariants as faults
use Rattle.stream_check.specs.declared.finding.StreamEvent.TheVariants as events
use Rattle.stream_check.specs.declared.finding.What.{What}
use Rattle.stream_check.specs.declared.finding.What.TheVariants as whats
use Rattle.stream_check.specs.declared.reporting.FrameAt.{FrameAt}
use Rattle.stream_check.specs.Reporting.{when, in_frame}
use Rattle.stream_check.specs.Frames.{Fib, damaged_in, first_of_frame, first_opening, lacks_opening}
use Rattle.stream_check.specs.History.{Item, Moment, Said, Ended, said, frame_items, frames_ended, due}
use Rattle.stream_check.specs.Contradictions.{new_findings, noted_with}
use Rattle.stream_check.specs.Sent.{Sent, EntrySent, FigSent, frame_sent, contradictions_at, noted_at, noted_after}
use Rattle.stream_check.specs.Rules.{known_of, findings_at, has_no_room, silent_findings}

-- ---- counts

abbrev pub count_in : Option EnsembleInformation → ℕ
count_in None = 0
count_in (Some e) = e.count

abbrev pub eid_in : Option EnsembleInformation → ℕ
eid_in None = 0
eid_in (Some e) = e.eid

-- the count that is due in a frame; in the first frame that of its first FIG 0/0
abbrev pub count_due : Option ℕ → List Fib → ℕ
count_due None frame = count_in (first_of_frame frame)
count_due (Some count) frame = count

abbrev pub placed_count : ℕ → ℕ → Option EnsembleInformation → ℕ
placed_count step due None = due
placed_count step due (Some e) = if e.count % step == 0 then e.count else due

-- the count of its FIG 0/0 in place, or else the one that was due
abbrev pub count_of_frame : ℕ → Option ℕ → List Fib → ℕ
count_of_frame step last frame = placed_count step (count_due last frame) (first_opening frame)

-- ---- findings for a frame as a whole

abbrev pub first_line : Option ℕ → List Fib → List What
first_line None frame = whats.Event (events.Ensemble (eid_in (first_of_frame frame))) ∷ []
first_line (Some count) frame = []

abbrev pub size_findings : ℕ → List Fib → List What
size_findings size frame = when (nat_lt (length frame) size) (faults.ShortFrame (length frame))

abbrev pub damaged_findings : List Fib → List What
damaged_findings frame = when (nat_lt 0 (damaged_in frame)) (faults.Damaged (damaged_in frame))

abbrev pub missing_findings : ℕ → Option ℕ → List Fib → List What
missing_findings step last frame = when (count_due last frame % step == 0 && lacks_opening frame) faults.NoEnsemble

abbrev pub frame_findings : (size step : ℕ) → Option ℕ → List Fib → List What
frame_findings size step last frame =
    first_line last frame ++ (size_findings size frame ++ (damaged_findings frame ++ missing_findings step last frame))

-- ---- findings at its entries, one after the other, as long as there is room

abbrev pub findings_at_items : (step period : ℕ) → List Moment → List Item → List What
findings_at_items step period past [] = []
findings_at_items step period past (i ∷ is) =
    if has_no_room (known_of step period past) i then []
    else findings_at (known_of step period past) i ++ findings_at_items step period (Said i ∷ past) is

-- whether there is no room for one of them
abbrev pub runs_full : (step period : ℕ) → List Moment → List Item → Bool
runs_full step period past [] = false
runs_full step period past (i ∷ is) =
    if has_no_room (known_of step period past) i then true else runs_full step period (Said i ∷ past) is

-- ---- findings at all that is sent, one after the other: at entries, and of what FIGs contradict

abbrev pub findings_at_sent : (step period : ℕ) → List Moment → (noted : List Contradiction) → List Sent → List What
findings_at_sent step period past noted [] = []
findings_at_sent step period past noted (EntrySent i ∷ ss) =
    if has_no_room (known_of step period past) i then []
    else findings_at (known_of step period past) i
    ++ findings_at_sent step period (Said i ∷ past) (noted_at past i noted) ss
findings_at_sent step period past noted (FigSent fig ∷ ss) =
    new_findings noted (contradictions_at period past fig)
    ++ findings_at_sent step period past (noted_with noted (contradictions_at period past fig)) ss

-- ---- all findings

abbrev pub frame_at : ℕ → List Moment → List Fib → FrameAt
frame_at step past frame = record { frame = frames_ended past; count = count_of_frame step (due past) frame }

abbrev pub last_findings : Bool → ℕ → List Moment → List What
last_findings full period past = if full then [] else silent_findings period past

-- the findings in a frame, given the contradictions that were reported before it since the last swap
abbrev pub findings_in : (size step period : ℕ) → List Moment → (noted : List Contradiction) → List Fib → List Finding
findings_in size step period past noted frame =
    map (in_frame (frame_at step past frame))
    (frame_findings size step (due past) frame
    ++ (findings_at_sent step period past noted (frame_sent frame)
    ++ last_findings (runs_full step period past (frame_items frame)) period (said (frame_items frame) past)))

-- the past with one more frame
abbrev pub past_after_frame : ℕ → List Moment → List Fib → List Moment
past_after_frame step past frame = Ended (count_of_frame step (due past) frame) ∷ said (frame_items frame) past

-- the contradictions that were reported since the last swap, after one more frame
abbrev pub noted_in : (period : ℕ) → List Moment → (noted : List Contradiction) → List Fib → List Contradiction
noted_in period past noted frame = noted_after period past noted (frame_sent frame)

-- the findings in successive frames; they end where there is no room for an entry
abbrev pub findings_from :
    (size step period : ℕ) → List Moment → (noted : List Contradiction) → List (List Fib) → List Finding
findings_from size step period past noted [] = []
findings_from size step period past noted (frame ∷ frames) =
    findings_in size step period past noted frame
    ++ (if runs_full step period past (frame_items frame) then []
    else findings_from size step period (past_after_frame step past frame) (noted_in period past noted frame) frames)

-- where no contradiction was reported before
abbrev pub findings_of : (size step period : ℕ) → List Moment → List (List Fib) → List Finding
findings_of size step period past frames = findings_from size step period past [] frames

-- the past after frames
abbrev pub after_frames : ℕ → List Moment → List (List Fib) → List Moment
after_frames step past [] = past
after_frames step past (frame ∷ frames) = after_frames step (past_after_frame step past frame) frames

-- and the contradictions that were reported since the last swap
abbrev pub noted_in_frames :
    (step period : ℕ) → List Moment → (noted : List Contradiction) → List (List Fib) → List Contradiction
noted_in_frames step period past noted [] = noted
noted_in_frames step period past noted (frame ∷ frames) =
    noted_in_frames step period (past_after_frame step past frame) (noted_in period past noted frame) frames

-- the findings in the frame after some
abbrev pub findings_next : (size step period : ℕ) → (before : List (List Fib)) → (frame : List Fib) → List Finding
findings_next size step period before frame =
    findings_in size step period (after_frames step [] before) (noted_in_frames step period [] [] before) frame

abbrev pub frames_full : (step period : ℕ) → List Moment → List (List Fib) → Bool
frames_full step period past [] = false
frames_full step period past (frame ∷ frames) =
    if runs_full step period past (frame_items frame) then true else frames_full step period
    (past_after_frame step past frame) frames
