-- The swaps that the checker reports, and those of a run.
use Rattle.std.specs.Prelude.{◌≡◌, ℕ, ◌+◌, ◌%◌, Bool, true, false, if◌then◌else◌, List, [], ◌∷◌}
use Rattle.fib_codec.specs.Layouts.{layout_mode, frame_fibs}
use Rattle.fib_codec.specs.Modes.{count_step}
use Rattle.stream_check.specs.declared.finding.Finding.{Finding}
use Rattle.stream_check.specs.declared.finding.StreamEvent.TheVariants as named_events
use Rattle.stream_check.specs.declared.finding.What.{What}
use Rattle.stream_check.specs.declared.finding.What.TheVariants as whats
use Rattle.stream_check.specs.declared.finding.StreamEvent.{StreamEvent}
use Rattle.stream_check.specs.Frames.{Reading}
use Rattle.stream_check.specs.Stream.{findings_of}
use Rattle.plan_code.specs.Program.{Program}
use Rattle.plan_code.specs.Machine.{State}
use Rattle.plan_runs.specs.declared.event.Event.{Event}
use Rattle.plan_runs.specs.declared.event.Event.TheVariants.{Contact, Frame}
use Rattle.plan_runs.specs.Frames.{is_due, after_frame}
use Rattle.plan_runs.specs.Runs.{happens, run, run_frames}
use Rattle.plan_runs.specs.TypedRuns.{IsPlayed}
use Rattle.stream_laws.specs.Notices.{read_frames}
use Rattle.stream_laws.specs.Framing.{frames_of}

abbrev pub is_swap_event : StreamEvent → Bool
is_swap_event (named_events.Ensemble eid) = false
is_swap_event (named_events.Announced flags low) = false
is_swap_event named_events.Swap = true

abbrev pub names_swap : What → Bool
names_swap (whats.Event e) = is_swap_event e
names_swap (whats.Fault f) = false

-- the frames in which a swap is reported
abbrev pub swap_frames : List Finding → List ℕ
swap_frames [] = []
swap_frames (found ∷ more) = if names_swap found.what then found.frame ∷ swap_frames more else swap_frames more

-- the frames of a run in which a swap is due; the first one has this number
abbrev pub due_frames : Program → ℕ → State → List Event → List ℕ
due_frames p number s [] = []
due_frames p number s (Contact c closed ∷ es) = due_frames p number (happens p s (Contact c closed)) es
due_frames p number s (Frame ∷ es) =
    if is_due s.left then number ∷ due_frames p (number + 1) (after_frame p s) es else due_frames p (number + 1)
    (after_frame p s) es

-- those after the first frame, which has number 0
abbrev pub due_after_first : Program → State → List Event → List ℕ
due_after_first p s [] = []
due_after_first p s (Contact c closed ∷ es) = due_after_first p (happens p s (Contact c closed)) es
due_after_first p s (Frame ∷ es) = due_frames p 1 (after_frame p s) es

-- the law of named swaps: in the frames of a run, from one with a FIG 0/0 on, the swaps that are reported are those of
-- the run after that frame, each in its frame
abbrev pub SwapsAreNamed : Type 0
SwapsAreNamed =
    (r : Reading) (p : Program) (s : State) (period : ℕ) (waiting events : List Event) → IsPlayed p s
    → (run p s waiting).count % count_step (layout_mode p.plan.layout) ≡ 0
    → swap_frames (findings_of (frame_fibs p.plan.layout) (count_step (layout_mode p.plan.layout)) period []
    (read_frames r (frames_of p.plan.layout (run_frames p (run p s waiting) events))))
    ≡ due_after_first p (run p s waiting) events
