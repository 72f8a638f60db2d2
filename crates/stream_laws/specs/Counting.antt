-- The counts of a run, as they are heard in the bytes of its frames (EN 300 401 clause 6.4).
use Rattle.std.specs.Prelude.{◌≡◌, ℕ, ◌+◌, ◌%◌, Bool, false, List, [], ◌∷◌}
use Rattle.mux_types.specs.Entries.{EnsembleInformation}
use Rattle.mux_types.specs.declared.limits.TheConstants.{COUNTS}
use Rattle.fib_codec.specs.Heard.{IsEnsembleHeardInRow}
use Rattle.fib_codec.specs.Layouts.{layout_mode}
use Rattle.fib_codec.specs.Modes.{count_step}
use Rattle.plan_code.specs.Program.{Program}
use Rattle.plan_code.specs.Machine.{State}
use Rattle.plan_runs.specs.declared.event.Event.{Event}
use Rattle.plan_runs.specs.Runs.{run_frames}
use Rattle.plan_runs.specs.TypedRuns.{IsPlayed}

-- FIG 0/0 is heard in the frame where this count is a multiple of the step, and nowhere else, with C/N 0, this EId and
-- this count
pub record IsFrameOfCount (step eid count : ℕ) (frame : List ℕ) : Type 0 where
  pub there : count % step ≡ 0 → (e : EnsembleInformation) × IsEnsembleHeardInRow frame false e
  pub only : (next : Bool) (e : EnsembleInformation) → IsEnsembleHeardInRow frame next e
      → (count % step ≡ 0) × (next ≡ false) × (e.eid ≡ eid) × (e.count ≡ count)

-- the counts of these frames run on from this one, modulo 5000
abbrev pub AreCounted : (step eid count : ℕ) → List (List ℕ) → Type 0
AreCounted step eid count [] = Unit {0}
AreCounted step eid count (frame ∷ frames) =
    IsFrameOfCount step eid count frame × AreCounted step eid ((count + 1) % COUNTS) frames

-- the law of counts: those of a run run on, and FIG 0/0 is in each frame at a multiple of the step, and in no other
abbrev pub RunsAreCounted : Type 0
RunsAreCounted =
    (p : Program) (s : State) (events : List Event) → IsPlayed p s
    → AreCounted (count_step (layout_mode p.plan.layout)) s.eid s.count (run_frames p s events)
