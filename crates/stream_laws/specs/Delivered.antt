-- What a checker reports that is given the bytes of a run, or any piece of them.
use Rattle.std.specs.Prelude.{◌≡◌, ℕ, ◌+◌, ◌*◌, ◌%◌, ◌≤◌, List, [], ◌++◌, length, map, flat_map}
use Rattle.std.specs.List.{AllByRecursion, concat}
use Rattle.fib_codec.specs.Layouts.{layout_mode}
use Rattle.fib_codec.specs.Modes.{fib_count, count_step}
use Rattle.fib_codec.specs.declared.modes.Mode.{Mode}
use Rattle.stream_check.specs.declared.finding.Finding.{Finding}
use Rattle.stream_check.specs.Frames.{Fib, Reading, damaged_in}
use Rattle.stream_check.specs.Stream.{findings_of}
use Rattle.stream_check.specs.Following.{Checking, Follows, EndsFull}
use Rattle.stream_check.specs.Reported.{Reported, All}
use Rattle.plan_code.specs.Program.{Program}
use Rattle.plan_code.specs.Machine.{State}
use Rattle.plan_runs.specs.declared.event.Event.{Event}
use Rattle.plan_runs.specs.Runs.{run, run_frames}
use Rattle.plan_runs.specs.TypedRuns.{IsPlayed}
use Rattle.plan_runs.specs.Listening.{fibs_of, HasCount}
use Rattle.stream_laws.specs.Faultless.{IsNoFault}
use Rattle.stream_laws.specs.Notices.{read_frames}
use Rattle.stream_laws.specs.Framing.{frames_of}

-- a checker of this mode and period that has been given these FIBs, one after the other, as its contract describes it:
-- it had room for all entries, and all findings in the frames that it heard are events; so where all that it reported
-- is kept, this is
pub record IsCleared (r : Reading) (mode : Mode) (period : ℕ) (fibs : List (List ℕ)) : Type 0 where
  pub room : (start reported : Reported) → EndsFull r mode period (map r.read fibs) start reported → ⊥
  pub events : (start reported : Reported) (c : Checking) (f : Follows r mode period (map r.read fibs) start reported c)
      → AllByRecursion (λ one. IsNoFault one.what) (findings_of (fib_count mode) (count_step mode) period [] f.frames)
  pub plain : (found : List Finding) (c : Checking) → Follows r mode period (map r.read fibs) (All []) (All found) c
      → AllByRecursion (λ one. IsNoFault one.what) found

-- these FIBs are a piece of the bytes, which begins and ends between two FIBs
pub record IsPieceOf (bytes : List ℕ) (fibs : List (List ℕ)) : Type 0 where
  pub before : List ℕ
  pub after : List ℕ
  pub whole : bytes ≡ before ++ (concat fibs ++ after)
  pub starts : length before % 32 ≡ 0
  pub sizes : AllByRecursion (λ fib. length fib ≡ 32) fibs

-- what a checker has skipped, the frames that it has heard, and the FIBs that it still holds after all bytes of a run,
-- of which those of `waiting` come before the first FIG 0/0: these are skipped, the frames are exactly the others of
-- the run, none of their FIBs is damaged, and none is left over
pub record IsHeardOut (r : Reading) (p : Program) (s : State) (waiting events : List Event)
    (skipped : List Fib) (frames : List (List Fib)) (held : List (List ℕ)) : Type 0 where
  pub skips : length skipped ≡ length (fibs_of p.plan.layout (run_frames p s waiting))
  pub frames_are : frames ≡ read_frames r (frames_of p.plan.layout (run_frames p (run p s waiting) events))
  pub undamaged : damaged_in (flat_map (λ frame. frame) frames) ≡ 0
  pub none_left : held ≡ []

-- the law of whole runs
abbrev pub RunsAreHeardOut : Type 0
RunsAreHeardOut =
    (r : Reading) (p : Program) (s : State) (period : ℕ) (waiting events : List Event) (fibs : List (List ℕ))
    (start reported : Reported) (c : Checking) → IsPlayed p s
    → (HasCount p s waiting → ⊥) → (run p s waiting).count % count_step (layout_mode p.plan.layout) ≡ 0
    → AllByRecursion (λ fib. length fib ≡ 32) fibs → concat fibs ≡ concat (run_frames p s (waiting ++ events))
    → (f : Follows r (layout_mode p.plan.layout) period (map r.read fibs) start reported c)
    → IsHeardOut r p s waiting events f.skipped f.frames c.held

-- the law of bytes: no fault is reported in the bytes that a run writes, nor in any piece of them, even one that begins
-- or ends within a frame, if the checker's period is at least 2P - 1 for the plan's period P
abbrev pub RunsAreCleared : Type 0
RunsAreCleared =
    (r : Reading) (p : Program) (s : State) (period : ℕ) (events : List Event) (fibs : List (List ℕ)) → IsPlayed p s
    → 2 * p.plan.period ≤ period + 1 → IsPieceOf (concat (run_frames p s events)) fibs
    → IsCleared r (layout_mode p.plan.layout) period fibs
