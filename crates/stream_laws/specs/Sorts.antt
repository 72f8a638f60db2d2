-- The sorts of faults, and which of them can come in the frames of a run (EN 300 401 clause 6.5).
use Rattle.std.specs.Prelude.{◌≡◌, ℕ, ◌+◌, ◌*◌, ◌%◌, ◌≤◌, Bool, true, false, List, []}
use Rattle.std.specs.List.{AllByRecursion}
use Rattle.fib_codec.specs.Layouts.{layout_mode, frame_fibs}
use Rattle.fib_codec.specs.Modes.{count_step}
use Rattle.stream_check.specs.declared.finding.Fault.{Fault}
use Rattle.stream_check.specs.declared.finding.Fault.TheVariants as faults
use Rattle.stream_check.specs.declared.finding.What.{What}
use Rattle.stream_check.specs.declared.finding.Finding.{Finding}
use Rattle.stream_check.specs.declared.finding.What.TheVariants as whats
use Rattle.stream_check.specs.Frames.{Fib, Reading}
use Rattle.stream_check.specs.Stream.{findings_of, frames_full}
use Rattle.plan_code.specs.Program.{Program}
use Rattle.plan_code.specs.Machine.{State}
use Rattle.plan_runs.specs.declared.event.Event.{Event}
use Rattle.plan_runs.specs.Runs.{run, run_frames}
use Rattle.plan_runs.specs.TypedRuns.{IsPlayed}
use Rattle.stream_laws.specs.Notices.{read_frames}
use Rattle.stream_laws.specs.Framing.{frames_of}

-- ---- the sorts

-- a frame that is short or damaged, and FIG 0/0 that is missing, out of place, of another ensemble or at a count that
-- was not due
abbrev pub is_of_frame : Fault → Bool
is_of_frame (faults.ShortFrame fibs) = true
is_of_frame (faults.Damaged fibs) = true
is_of_frame faults.NoEnsemble = true
is_of_frame (faults.OtherEnsemble eid) = true
is_of_frame (faults.Count due) = true
is_of_frame faults.OutOfPlace = true
is_of_frame f = false

-- an entry that has changed, entries of the next configuration without change flags, an announcement that has changed
-- or has a count on which no swap can fall, a swap on a count other than the announced one, and one to sub-channels
-- that share a capacity unit or end past the last one
abbrev pub is_of_word : Fault → Bool
is_of_word (faults.AnnouncedAgain flags low) = true
is_of_word (faults.NoSwapAt low) = true
is_of_word faults.NextUnannounced = true
is_of_word (faults.Changed name) = true
is_of_word (faults.NextChanged name) = true
is_of_word (faults.AnnouncedFor low) = true
is_of_word (faults.Overlap a b) = true
is_of_word (faults.PastEnd a) = true
is_of_word f = false

-- a swap after fewer than three announcements
abbrev pub is_of_times : Fault → Bool
is_of_times (faults.AnnouncedTimes times) = true
is_of_times f = false

-- a swap before which the next configuration could be read fewer than three times
abbrev pub is_of_repetition : Fault → Bool
is_of_repetition (faults.NextHeard times) = true
is_of_repetition f = false

-- flags other than those of the change that is made
abbrev pub is_of_flags : Fault → Bool
is_of_flags (faults.Flags flags changes) = true
is_of_flags f = false

-- an entry of the current configuration that was not known although all should be known
abbrev pub is_of_appearance : Fault → Bool
is_of_appearance (faults.Appeared name) = true
is_of_appearance f = false

-- an entry of the current configuration that was not sent for a period
abbrev pub is_of_silence : Fault → Bool
is_of_silence (faults.Silent name) = true
is_of_silence f = false

-- a FIG that names what is not in the current configuration, or is not whole entries
abbrev pub is_of_mention : Fault → Bool
is_of_mention (faults.Contradicts c) = true
is_of_mention f = false

-- the faults that depend on the checker's period
abbrev pub is_of_period : Fault → Bool
is_of_period (faults.Appeared name) = true
is_of_period (faults.Silent name) = true
is_of_period f = false

-- ---- findings

-- it is not a fault of this sort
abbrev pub IsFreeOf : (Fault → Bool) → What → Type 0
IsFreeOf sort (whats.Event e) = Unit {0}
IsFreeOf sort (whats.Fault f) = sort f ≡ false

-- it is no fault, unless it depends on the checker's period, and that is short
abbrev pub IsFreeUnlessShort : (IsLong : Type 0) → What → Type 0
IsFreeUnlessShort IsLong (whats.Event e) = Unit {0}
IsFreeUnlessShort IsLong (whats.Fault f) = (is_of_period f ≡ true) × (IsLong → ⊥)

-- ---- the frames of a run

-- the counts at which FIG 0/0 is sent are multiples of this
abbrev pub step_of : Program → ℕ
step_of p = count_step (layout_mode p.plan.layout)

-- what is read of the frames of a run, and the findings in them
abbrev pub run_read : Reading → Program → State → List Event → List (List Fib)
run_read r p s events = read_frames r (frames_of p.plan.layout (run_frames p s events))

abbrev pub findings_of_run : Reading → Program → State → ℕ → List Event → List Finding
findings_of_run r p s period events =
    findings_of (frame_fibs p.plan.layout) (step_of p) period [] (run_read r p s events)

-- no fault of this sort is found in them
abbrev pub RunIsFreeOf : (Fault → Bool) → Reading → Program → State → ℕ → List Event → Type 0
RunIsFreeOf sort r p s period events =
    AllByRecursion (λ found. IsFreeOf sort found.what) (findings_of_run r p s period events)

-- each picture has room for its entries, and no fault of word is found
pub record RunAgrees (r : Reading) (p : Program) (s : State) (period : ℕ) (events : List Event) : Type 0 where
  pub room : frames_full (step_of p) period [] (run_read r p s events) ≡ false
  pub plain : RunIsFreeOf is_of_word r p s period events

-- the checker's period is at least 2P - 1 for the plan's period P
abbrev pub IsLongFor : Program → ℕ → Type 0
IsLongFor p period = 2 * p.plan.period ≤ period + 1

-- each picture has room for its entries, and no fault is found, unless it depends on the period, and that is short
pub record RunIsFree (r : Reading) (p : Program) (s : State) (period : ℕ) (events : List Event) : Type 0 where
  pub room : frames_full (step_of p) period [] (run_read r p s events) ≡ false
  pub plain : AllByRecursion (λ found. IsFreeUnlessShort (IsLongFor p period) found.what)
      (findings_of_run r p s period events)

-- ---- the laws of the frames of a run

-- it holds of the frames of each run of a typed code, from one with a FIG 0/0 on
abbrev pub HoldsOfRuns : (Reading → Program → State → ℕ → List Event → Type 0) → Type 0
HoldsOfRuns P =
    (r : Reading) (p : Program) (s : State) (period : ℕ) (waiting events : List Event) → IsPlayed p s
    → (run p s waiting).count % step_of p ≡ 0 → P r p (run p s waiting) period events

-- the law of findings, from which the others follow
abbrev pub RunsAreFree : Type 0
RunsAreFree = HoldsOfRuns RunIsFree

-- the law of places
abbrev pub RunsAreInPlace : Type 0
RunsAreInPlace = HoldsOfRuns (RunIsFreeOf is_of_frame)

-- the law of entries and announcements
abbrev pub RunsAgree : Type 0
RunsAgree = HoldsOfRuns RunAgrees

-- the law of announcements: each swap comes after at least three flagged FIG 0/0, unless the first of these frames is
-- in its notice
abbrev pub RunsAreTimely : Type 0
RunsAreTimely = HoldsOfRuns (RunIsFreeOf is_of_times)

-- the law of repetition: the next configuration can be read three times before each swap, unless the first of these
-- frames is in its notice
abbrev pub RunsRepeatTheNext : Type 0
RunsRepeatTheNext = HoldsOfRuns (RunIsFreeOf is_of_repetition)

-- the law of flags: the flags before each swap are those of the change that it makes, unless the first of these frames
-- is in its notice
abbrev pub RunsFlagTheChange : Type 0
RunsFlagTheChange = HoldsOfRuns (RunIsFreeOf is_of_flags)

-- the law of mentions: no FIG contradicts the current configuration
abbrev pub RunsContradictNothing : Type 0
RunsContradictNothing = HoldsOfRuns (RunIsFreeOf is_of_mention)

-- the law of appearances: each entry of the current configuration is known once it is settled, if the period is long
abbrev pub RunsAreKnown : Type 0
RunsAreKnown =
    HoldsOfRuns (λ r p s period events. IsLongFor p period → RunIsFreeOf is_of_appearance r p s period events)

-- the law of silence: each entry of the current configuration is sent in any N frames, if the period N is long
abbrev pub RunsAreNeverSilent : Type 0
RunsAreNeverSilent =
    HoldsOfRuns (λ r p s period events. IsLongFor p period → RunIsFreeOf is_of_silence r p s period events)
