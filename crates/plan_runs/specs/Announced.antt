-- What was heard of a notice, and when that announces the swap.
use Rattle.std.specs.Prelude.{◌≡◌, ◌↔◌, ℕ, zero, suc, ◌+◌, ◌-◌, ◌%◌, ◌<◌, Bool, true, if◌then◌else◌, List, [], ◌∷◌}
use Rattle.std.specs.Prelude.{◌++◌, Contains, slice_get, Option, Some, None}
use Rattle.mux_config.specs.Configuration.{Configuration}
use Rattle.mux_types.specs.Entries.{EnsembleInformation}
use Rattle.mux_types.specs.Facts.{Marked, facts_of}
use Rattle.mux_config.specs.Change.{change_of, bits_of}
use Rattle.fib_codec.specs.Heard.{IsHeardInRow, IsEnsembleHeardInRow}
use Rattle.mux_types.specs.declared.limits.TheConstants.{COUNTS}
use Rattle.plan_code.specs.declared.plan.Plan.{Plan}
use Rattle.plan_code.specs.Program.{Program}
use Rattle.plan_code.specs.Machine.{State}
use Rattle.plan_runs.specs.declared.event.Event.{Event}
use Rattle.plan_runs.specs.declared.event.Event.TheVariants.{Contact, Frame}
use Rattle.plan_runs.specs.Frames.{is_due, is_noticed, shown, shown_bytes, with_next_counts, frame_bytes}
use Rattle.plan_runs.specs.Frames.{FrameIsAllowed}
use Rattle.plan_runs.specs.Runs.{happens, run, run_frames, RunIsAllowed}

-- ---- what is heard in frames, from their bytes alone

abbrev pub IsHeardInSome : List (List ℕ) → Marked → Type 0
IsHeardInSome frames m = (frame : List ℕ) × Contains frames frame × IsHeardInRow frame m

-- the whole configuration is heard in these frames, with C/N as the next or as the current one
abbrev pub IsHeardWhole : Configuration → Bool → List (List ℕ) → Type 0
IsHeardWhole c next frames = (m : Marked) → Contains (facts_of c next) m → IsHeardInSome frames m

-- ---- the frames of the notice so far

-- they are dropped at the swap
abbrev pub heard_before : State → List (List ℕ) → List (List ℕ)
heard_before s heard = if is_due s.left then [] else heard

-- adds the frame, if it is one of the notice
abbrev pub heard_after : Program → State → List (List ℕ) → List (List ℕ)
heard_after p s heard =
    if is_noticed p.plan.notice (shown p s).left then heard_before s heard
    ++ frame_bytes p s ∷ [] else heard_before s heard

-- the same from the state alone: this many frames from this state on, each with its page in turn
abbrev pub notice_frames : Plan → ℕ → State → List (List ℕ)
notice_frames plan zero s = []
notice_frames plan (suc n) s = shown_bytes plan s ∷ notice_frames plan n (with_next_counts plan s)

-- the first frame of the notice whose swap falls this many frames later
abbrev pub notice_begin : Plan → ℕ → State → State
notice_begin plan frames s =
    record s { count = (s.count + frames + COUNTS - plan.notice) % COUNTS; left = Some plan.notice; page_index = 0 }

abbrev pub heard_left : Plan → State → Option ℕ → List (List ℕ)
heard_left plan s None = []
heard_left plan s (Some frames) = notice_frames plan (plan.notice - frames) (notice_begin plan frames s)

abbrev pub heard_of : Plan → State → List (List ℕ)
heard_of plan s = heard_left plan s s.left

-- ---- when a swap was announced

-- FIG 0/0 is heard in the frame; below, in the frame at this index
abbrev pub HasHeader : List ℕ → Type 0
HasHeader frame = (next : Bool) × (e : EnsembleInformation) × IsEnsembleHeardInRow frame next e

abbrev pub IsHeaded : List (List ℕ) → ℕ → Type 0
IsHeaded frames place = (frame : List ℕ) × (slice_get frames place ≡ Some frame) × HasHeader frame

pub record HasThreeHeaders (frames : List (List ℕ)) : Type 0 where
  pub first : ℕ
  pub second : ℕ
  pub third : ℕ
  pub before_second : first < second
  pub before_third : second < third
  pub in_first : IsHeaded frames first
  pub in_second : IsHeaded frames second
  pub in_third : IsHeaded frames third

-- the change flags are those of this change, and the occurrence change is the low part of this count
abbrev pub IsFlagged : Configuration → Configuration → ℕ → EnsembleInformation → Type 0
IsFlagged current next count e = (e.change ≡ bits_of (change_of current next)) × (e.occurrence ≡ Some (count % 250))

-- the frames of a notice announce the swap at this count: they consist of three successive parts, each with the whole
-- next configuration; and there are at least three FIG 0/0, all of which are flagged
pub record IsAnnounced (current next : Configuration) (count : ℕ) (heard : List (List ℕ)) : Type 0 where
  pub first : List (List ℕ)
  pub second : List (List ℕ)
  pub third : List (List ℕ)
  pub cut : heard ≡ first ++ second ++ third
  pub whole_in_first : IsHeardWhole next true first
  pub whole_in_second : IsHeardWhole next true second
  pub whole_in_third : IsHeardWhole next true third
  pub headers : HasThreeHeaders heard
  pub flagged : (frame : List ℕ) (marked : Bool) (e : EnsembleInformation)
      → Contains heard frame → IsEnsembleHeardInRow frame marked e → IsFlagged current next count e

-- ---- runs

-- a frame has no trap, and a swap in it was announced by the frames heard so far
pub record FrameRuns (p : Program) (s : State) (heard : List (List ℕ)) : Type 0 where
  pub allowed : FrameIsAllowed p s
  pub announced : is_due s.left ≡ true → IsAnnounced s.current s.next s.count heard

abbrev pub EventRuns : Program → State → List (List ℕ) → Event → Type 0
EventRuns p s heard (Contact c closed) = Unit {0}
EventRuns p s heard Frame = FrameRuns p s heard

abbrev pub heard_by : Program → State → List (List ℕ) → Event → List (List ℕ)
heard_by p s heard (Contact c closed) = heard
heard_by p s heard Frame = heard_after p s heard

-- no event of the list has a trap or an unannounced swap, where these frames were heard before
abbrev pub Runs : Program → State → List (List ℕ) → List Event → Type 0
Runs p s heard [] = Unit {0}
Runs p s heard (e ∷ es) = EventRuns p s heard e × Runs p (happens p s e) (heard_by p s heard e) es

-- the frames heard after all events
abbrev pub heard_along : Program → State → List (List ℕ) → List Event → List (List ℕ)
heard_along p s heard [] = heard
heard_along p s heard (e ∷ es) = heard_along p (happens p s e) (heard_by p s heard e) es

-- every list of events runs from this state
abbrev pub AlwaysRuns : Program → State → Type 0
AlwaysRuns p s = (events : List Event) → Runs p s (heard_of p.plan s) events

-- a run over some events and then over more is the run over all of them: its state, its frames, the frames heard of
-- a notice, and that it has no trap
pub record IsJoined (p : Program) (s : State) (heard : List (List ℕ)) (events more : List Event) : Type 0 where
  pub state : run p s (events ++ more) ≡ run p (run p s events) more
  pub frames : run_frames p s (events ++ more) ≡ run_frames p s events ++ run_frames p (run p s events) more
  pub hears : heard_along p s heard (events ++ more) ≡ heard_along p (run p s events) (heard_along p s heard events)
      more
  pub plain : RunIsAllowed p s (events ++ more) ↔ (RunIsAllowed p s events × RunIsAllowed p (run p s events) more)
  pub announced : Runs p s heard (events ++ more)
      ↔ (Runs p s heard events × Runs p (run p s events) (heard_along p s heard events) more)

abbrev pub RunsJoin : Type 0
RunsJoin = (p : Program) (s : State) (heard : List (List ℕ)) (events more : List Event) → IsJoined p s heard events more
