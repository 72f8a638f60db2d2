-- The checker gives no false alarm: it finds no fault in the frames of a run.
use Rattle.std.specs.Prelude.{◌≡◌, ℕ, ◌+◌, ◌*◌, ◌%◌, ◌≤◌, List}
use Rattle.fib_codec.specs.Layouts.{layout_mode, frame_fibs}
use Rattle.fib_codec.specs.Modes.{count_step}
use Rattle.stream_check.specs.Frames.{Reading}
use Rattle.plan_code.specs.Program.{Program}
use Rattle.plan_code.specs.Machine.{State}
use Rattle.plan_runs.specs.declared.event.Event.{Event}
use Rattle.plan_runs.specs.Runs.{run, run_frames}
use Rattle.plan_runs.specs.TypedRuns.{IsPlayed}
use Rattle.stream_laws.specs.Faultless.{IsFaultless}
use Rattle.stream_laws.specs.Notices.{read_frames}
use Rattle.stream_laws.specs.Framing.{frames_of}

-- the law of faults: the frames of a run, from one with a FIG 0/0 on, are without a fault, if the checker's period is
-- at least 2P - 1 for the plan's period P
abbrev pub RunsAreFaultless : Type 0
RunsAreFaultless =
    (r : Reading) (p : Program) (s : State) (period : ℕ) (waiting events : List Event) → IsPlayed p s
    → (run p s waiting).count % count_step (layout_mode p.plan.layout) ≡ 0 → 2 * p.plan.period ≤ period + 1
    → IsFaultless (frame_fibs p.plan.layout) (count_step (layout_mode p.plan.layout)) period
    (read_frames r (frames_of p.plan.layout (run_frames p (run p s waiting) events)))
