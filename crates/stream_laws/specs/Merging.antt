-- What a listener and the checker know of the frames of a run with FIGs of a multiplexer carried in them.
use Rattle.std.specs.Prelude.{◌≡◌, ◌↔◌, ℕ, ◌+◌, ◌*◌, ◌%◌, ◌≤◌, true, false, List, [], ◌∷◌, ◌++◌, length, map, take}
use Rattle.mux_types.specs.Facts.{Marked}
use Rattle.fib_codec.specs.Heard.{IsInFib}
use Rattle.fib_codec.specs.Layouts.{layout_mode, frame_fibs}
use Rattle.fib_codec.specs.Modes.{count_step}
use Rattle.mux_config.specs.Configuration.{Configuration, IsConfiguration}
use Rattle.fib_reader.specs.Listening.{Listening, untuned}
use Rattle.fib_reader.specs.Picture.{Shows}
use Rattle.stream_check.specs.Frames.{Fib, Reading, IsFramed}
use Rattle.stream_check.specs.History.{Item, Moment, ensemble_of_item, listener_after, is_swap, is_cut_off}
use Rattle.stream_check.specs.Stream.{findings_of}
use Rattle.fig_merge.specs.Taking.{nothing_taken}
use Rattle.fig_merge.specs.Steps.{Step, Take, Fill}
use Rattle.fig_merge.specs.Passing.{sent_in}
use Rattle.plan_code.specs.Program.{Program}
use Rattle.plan_code.specs.Machine.{State}
use Rattle.plan_runs.specs.declared.event.Event.{Event}
use Rattle.plan_runs.specs.Announced.{IsAnnounced}
use Rattle.plan_runs.specs.Frames.{with_due_swap}
use Rattle.plan_runs.specs.Runs.{run, run_frames}
use Rattle.plan_runs.specs.RightBytes.{IsOnePhase}
use Rattle.plan_runs.specs.TypedRuns.{IsPlayed}
use Rattle.plan_runs.specs.Listening.{fibs_of, HearsAll, HasCount, IsTunedBy, IsNotice, IsUntilNextSwap}
use Rattle.stream_laws.specs.Faultless.{IsFaultless, IsSaidIn}
use Rattle.stream_laws.specs.Notices.{AreFibBytes, read_frames, notice_frames, IsCutOf}
use Rattle.stream_laws.specs.Framing.{frames_of}

-- ---- merged FIBs

-- the FIBs that are filled in these calls of a merger, in order
abbrev pub filled_in : List Step → List (List ℕ)
filled_in [] = []
filled_in (Take fib ∷ calls) = filled_in calls
filled_in (Fill fib ∷ calls) = fib ∷ filled_in calls

-- a new merger makes these of the plan's FIBs, in any sequence of calls that fills them in order, whatever it takes
-- before each
pub record IsMergedOf (r : Reading) (fibs sent : List (List ℕ)) : Type 0 where
  pub calls : List Step
  pub fills : filled_in calls ≡ fibs
  pub sends : sent_in r calls nothing_taken ≡ sent

-- FIB by FIB: both have as many bytes, and the same tagged entries of this ensemble, by the bytes alone
abbrev pub HaveSameEntries : List (List ℕ) → List (List ℕ) → Type 0
HaveSameEntries [] sent = sent ≡ []
HaveSameEntries (fib ∷ fibs) sent =
    (first : List ℕ) × (others : List (List ℕ)) × (sent ≡ first ∷ others) × (length first ≡ length fib)
    × ((entry : Marked) → IsInFib first entry ↔ IsInFib fib entry) × HaveSameEntries fibs others

-- the law of entries: merged FIBs have the entries of the plan's, each in its place, and no others
abbrev pub MergedHaveTheEntries : Type 0
MergedHaveTheEntries = (r : Reading) (fibs sent : List (List ℕ)) → IsMergedOf r fibs sent → HaveSameEntries fibs sent

-- ---- listeners

-- the law of merged FIBs: from every state, a listener hears them exactly as the plan's
abbrev pub MergedAreHeardAlike : Type 0
MergedAreHeardAlike =
    (r : Reading) (fibs sent : List (List ℕ)) (old new : Listening) → IsMergedOf r fibs sent
    → HearsAll sent old new ↔ HearsAll fibs old new

-- a new listener hears the merged frames of all of `waiting` and then those of `window`, which are P frames of one
-- phase that begin when it is tuned: then it knows the current configuration
abbrev pub MergedTellTheCurrent : Reading → Program → State → Type 0
MergedTellTheCurrent r p s =
    (waiting window : List Event) (sent : List (List ℕ)) (heard : Listening)
    → IsTunedBy p s waiting
    → IsOnePhase p (run p s waiting) window
    → length (run_frames p (run p s waiting) window) ≡ p.plan.period
    → IsMergedOf r (fibs_of p.plan.layout (run_frames p s (waiting ++ window))) sent
    → HearsAll sent untuned heard
    → Shows heard.current (with_due_swap (run p s waiting)).current

-- it hears the merged frames of all of `waiting`, is tuned no later than in the first frame of the notice, hears the
-- notice, and then at least one FIB from the frame of the swap on, before the next swap: then it knows the new
-- configuration
abbrev pub MergedTellTheNew : Reading → Program → State → Type 0
MergedTellTheNew r p s =
    (waiting notice after : List Event) (fibs : ℕ) (sent : List (List ℕ)) (heard : Listening)
    → IsTunedBy p s waiting
    → IsNotice p (run p s waiting) notice
    → IsUntilNextSwap p (run p s (waiting ++ notice)) after
    → 1 ≤ fibs
    → IsMergedOf r
    (fibs_of p.plan.layout (run_frames p s (waiting ++ notice))
    ++ take fibs (fibs_of p.plan.layout (run_frames p (run p s (waiting ++ notice)) after)))
    sent
    → HearsAll sent untuned heard
    → Shows heard.current (run p s (waiting ++ notice)).next

-- it has room for whatever it hears
abbrev pub MergedHaveRoom : Reading → Program → State → Type 0
MergedHaveRoom r p s =
    (events : List Event) (sent : List (List ℕ)) → IsMergedOf r (fibs_of p.plan.layout (run_frames p s events)) sent
    → (heard : Listening) × HearsAll sent untuned heard

pub record MergedListenersKnow (r : Reading) (p : Program) (s : State) : Type 0 where
  pub room : MergedHaveRoom r p s
  pub current : MergedTellTheCurrent r p s
  pub after_swap : MergedTellTheNew r p s

-- the law of listeners to merged frames: what listeners know of the frames of a run they know of them merged
abbrev pub MergedListenersAreRight : Type 0
MergedListenersAreRight = (r : Reading) (p : Program) (s : State) → IsPlayed p s → MergedListenersKnow r p s

-- ---- the checker

-- the merged FIBs of a run are cut into as many frames, with none left over, and the checker finds in them exactly what
-- it finds in those of the run from one with a FIG 0/0 on; so no fault, if its period is at least 2P - 1 for the plan's
-- period P
pub record IsCheckedAlike (r : Reading) (p : Program) (s : State) (period : ℕ) (events : List Event)
    (sent : List (List ℕ)) : Type 0 where
  pub skipped : List Fib
  pub frames : List (List Fib)
  pub framed : IsFramed (frame_fibs p.plan.layout) (map r.read sent) skipped frames []
  pub cut : IsCutOf r sent skipped frames []
  pub findings : findings_of (frame_fibs p.plan.layout) (count_step (layout_mode p.plan.layout)) period [] frames
      ≡ findings_of (frame_fibs p.plan.layout) (count_step (layout_mode p.plan.layout)) period []
      (read_frames r (frames_of p.plan.layout (run_frames p s events)))
  pub faultless : 2 * p.plan.period ≤ period + 1 → IsFaultless (frame_fibs p.plan.layout)
      (count_step (layout_mode p.plan.layout)) period frames

-- the law of merged runs: no false alarm
abbrev pub MergedRunsAreFaultless : Type 0
MergedRunsAreFaultless =
    (r : Reading) (p : Program) (s : State) (period : ℕ) (waiting events : List Event) (sent : List (List ℕ))
    → IsPlayed p s
    → (HasCount p s waiting → ⊥) → (run p s waiting).count % count_step (layout_mode p.plan.layout) ≡ 0
    → IsMergedOf r (fibs_of p.plan.layout (run_frames p s (waiting ++ events))) sent
    → IsCheckedAlike r p (run p s waiting) period events sent

-- the law of merged swaps, what the headline says of a swap: at each swap that the checker finds in merged frames,
-- unless the beginning of its notice was not heard, if the pictures before it show two configurations, then the bytes
-- of the notice's merged frames announce the change from one to the other at the swap's count
abbrev pub MergedSwapsAreAnnounced : Type 0
MergedSwapsAreAnnounced =
    (r : Reading) (p : Program) (s : State) (period : ℕ) (events : List Event) (sent : List (List ℕ))
    → (checked : IsCheckedAlike r p s period events sent) → 2 * p.plan.period ≤ period + 1 → AreFibBytes sent
    → (past : List Moment) (i : Item) (now next : Configuration)
    → IsSaidIn (count_step (layout_mode p.plan.layout)) checked.frames past i
    → is_swap past i ≡ true → is_cut_off past ≡ false
    → IsConfiguration now → IsConfiguration next
    → Shows (listener_after past).current now → Shows (listener_after past).next next
    → IsAnnounced now next (ensemble_of_item i).count (notice_frames past checked.cut.bytes)
