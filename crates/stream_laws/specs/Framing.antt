-- The frames of a run, as the checker cuts them.
use Rattle.std.specs.Prelude.{◌≡◌, ℕ, ◌%◌, List, [], ◌++◌, map}
use Rattle.fib_codec.specs.Layouts.{layout_mode, frame_fibs}
use Rattle.fib_codec.specs.declared.frame_layout.FrameLayout.{FrameLayout}
use Rattle.fib_codec.specs.Modes.{count_step}
use Rattle.stream_check.specs.Frames.{Reading, IsFramed}
use Rattle.plan_code.specs.Program.{Program}
use Rattle.plan_code.specs.Machine.{State}
use Rattle.plan_runs.specs.declared.event.Event.{Event}
use Rattle.plan_runs.specs.Runs.{run, run_frames}
use Rattle.plan_runs.specs.TypedRuns.{IsPlayed}
use Rattle.plan_runs.specs.Listening.{fibs_from, fibs_of, HasCount}
use Rattle.stream_laws.specs.Notices.{read_frames}

-- cuts the bytes of each frame into its FIBs
abbrev pub frames_of : FrameLayout → List (List ℕ) → List (List (List ℕ))
frames_of layout frames = map (fibs_from (frame_fibs layout) 0) frames

-- the law of frames: of the FIBs of a run, those before the first FIG 0/0 are skipped, the others are cut into exactly
-- the frames of the run, and none is left over
abbrev pub RunsAreFramed : Type 0
RunsAreFramed =
    (r : Reading) (p : Program) (s : State) (waiting events : List Event) → IsPlayed p s
    → (HasCount p s waiting → ⊥) → (run p s waiting).count % count_step (layout_mode p.plan.layout) ≡ 0
    → IsFramed (frame_fibs p.plan.layout)
    (map r.read (fibs_of p.plan.layout (run_frames p s (waiting ++ events))))
    (map r.read (fibs_of p.plan.layout (run_frames p s waiting)))
    (read_frames r (frames_of p.plan.layout (run_frames p (run p s waiting) events)))
    []
