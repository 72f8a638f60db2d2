-- What a listener knows after hearing the frames of a run, and when it knows the current configuration
-- (EN 300 401 clause 6.5).
use Rattle.std.specs.Prelude.{◌≡◌, ℕ, zero, suc, ◌+◌, ◌%◌, ◌≤◌, ◌⊎◌, true, false, List, [], ◌∷◌, ◌++◌, length, flat_map}
use Rattle.std.specs.Prelude.{take, Some}
use Rattle.fib_codec.specs.Layouts.{layout_mode, frame_fibs}
use Rattle.fib_codec.specs.declared.frame_layout.FrameLayout.{FrameLayout}
use Rattle.fib_codec.specs.Grammar.{Fig, IsFib}
use Rattle.fib_codec.specs.Modes.{count_step}
use Rattle.fib_codec.specs.Heard.{fib_at}
use Rattle.fib_reader.specs.Listening.{Listening, untuned, hear_figs}
use Rattle.fib_reader.specs.Picture.{Shows}
use Rattle.plan_code.specs.Program.{Program}
use Rattle.plan_code.specs.Machine.{State}
use Rattle.plan_runs.specs.declared.event.Event.{Event}
use Rattle.plan_runs.specs.declared.event.Event.TheVariants.{Contact, Frame}
use Rattle.plan_runs.specs.Frames.{is_due, with_due_swap, shown, is_first_noticed, after_frame}
use Rattle.plan_runs.specs.Runs.{happens, run, run_frames}
use Rattle.plan_runs.specs.RightBytes.{IsOnePhase, BeginsNoPhase}
use Rattle.plan_runs.specs.TypedRuns.{IsPlayed}

-- ---- hearing

-- `count` FIBs of a frame, in order, starting with FIB n
abbrev pub fibs_from : ℕ → ℕ → List ℕ → List (List ℕ)
fibs_from zero n frame = []
fibs_from (suc count) n frame = fib_at frame n ∷ fibs_from count (n + 1) frame

-- the FIBs of each frame of this layout, in order
abbrev pub fibs_of : FrameLayout → List (List ℕ) → List (List ℕ)
fibs_of layout frames = flat_map (fibs_from (frame_fibs layout) 0) frames

-- a listener that knows `old` and hears this FIB then knows `new`
abbrev pub HearsFib : List ℕ → Listening → Listening → Type 0
HearsFib fib old new = (figs : List Fig) × IsFib fib figs × (hear_figs figs old ≡ Some new)

abbrev pub HearsAll : List (List ℕ) → Listening → Listening → Type 0
HearsAll [] old new = new ≡ old
HearsAll (fib ∷ fibs) old new = (between : Listening) × HearsFib fib old between × HearsAll fibs between new

-- ---- when a listener is tuned

-- the count of a frame of these events is a multiple of the mode's step, so FIG 0/0 was heard
abbrev pub HasCount : Program → State → List Event → Type 0
HasCount p s [] = ⊥
HasCount p s (Contact c closed ∷ es) = HasCount p (happens p s (Contact c closed)) es
HasCount p s (Frame ∷ es) = (s.count % count_step (layout_mode p.plan.layout) ≡ 0) ⊎ HasCount p (after_frame p s) es

-- FIG 0/0 was heard in these events, or is in the frame after them
abbrev pub IsTunedBy : Program → State → List Event → Type 0
IsTunedBy p s events = HasCount p s events ⊎ ((run p s events).count % count_step (layout_mode p.plan.layout) ≡ 0)

-- a new listener hears all frames of `waiting` and then those of `window`, which are P frames of one phase that begin
-- when it is tuned: then it knows the current configuration
abbrev pub KnowsTheCurrent : Program → State → Type 0
KnowsTheCurrent p s =
    (waiting window : List Event) (heard : Listening)
    → IsTunedBy p s waiting
    → IsOnePhase p (run p s waiting) window
    → length (run_frames p (run p s waiting) window) ≡ p.plan.period
    → HearsAll (fibs_of p.plan.layout (run_frames p s (waiting ++ window))) untuned heard
    → Shows heard.current (with_due_swap (run p s waiting)).current

-- ---- a swap that is heard

-- these events run from the first frame of a notice to its swap, which is due after them
abbrev pub IsNotice : Program → State → List Event → Type 0
IsNotice p s [] = ⊥
IsNotice p s (Contact c closed ∷ es) = IsNotice p (happens p s (Contact c closed)) es
IsNotice p s (Frame ∷ es) =
    (is_first_noticed p.plan.notice (shown p s).left ≡ true) × BeginsNoPhase p (after_frame p s) es
    × (is_due (run p (after_frame p s) es).left ≡ true)

-- no frame of these events makes a swap
abbrev pub MakesNoSwap : Program → State → List Event → Type 0
MakesNoSwap p s [] = Unit {0}
MakesNoSwap p s (Contact c closed ∷ es) = MakesNoSwap p (happens p s (Contact c closed)) es
MakesNoSwap p s (Frame ∷ es) = (is_due s.left ≡ false) × MakesNoSwap p (after_frame p s) es

-- the first frame makes a swap, and the others don't
abbrev pub IsUntilNextSwap : Program → State → List Event → Type 0
IsUntilNextSwap p s [] = ⊥
IsUntilNextSwap p s (Contact c closed ∷ es) = IsUntilNextSwap p (happens p s (Contact c closed)) es
IsUntilNextSwap p s (Frame ∷ es) = (is_due s.left ≡ true) × MakesNoSwap p (after_frame p s) es

-- a new listener hears all frames of `waiting`, is tuned no later than in the first frame of the notice, hears the
-- notice, and then at least one FIB from the frame of the swap on, before the next swap: then it knows the new
-- configuration
abbrev pub KnowsTheNew : Program → State → Type 0
KnowsTheNew p s =
    (waiting notice after : List Event) (fibs : ℕ) (heard : Listening)
    → IsTunedBy p s waiting
    → IsNotice p (run p s waiting) notice
    → IsUntilNextSwap p (run p s (waiting ++ notice)) after
    → 1 ≤ fibs
    → HearsAll
    (fibs_of p.plan.layout (run_frames p s (waiting ++ notice))
    ++ take fibs (fibs_of p.plan.layout (run_frames p (run p s (waiting ++ notice)) after)))
    untuned
    heard
    → Shows heard.current (run p s (waiting ++ notice)).next

-- a listener has room for whatever it hears of a typed code
abbrev pub IsNeverFull : Program → State → Type 0
IsNeverFull p s = (events : List Event) → (heard : Listening)
    × HearsAll (fibs_of p.plan.layout (run_frames p s events)) untuned heard

pub record ListenersKnow (p : Program) (s : State) : Type 0 where
  pub room : IsNeverFull p s
  pub current : KnowsTheCurrent p s
  pub after_swap : KnowsTheNew p s

-- the law of listeners: for one that starts before any frame of a run
abbrev pub ListenersAreRight : Type 0
ListenersAreRight = (p : Program) (s : State) → IsPlayed p s → ListenersKnow p s
