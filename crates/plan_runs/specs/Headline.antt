-- The guarantees of a typed code, for every list of events from every state that it reaches.
use Rattle.std.specs.Prelude.{◌≡◌, ℕ, ◌%◌, ◌==◌, Bool, true, false, MatchBool, List, [], ◌∷◌, Some}
use Rattle.mux_types.specs.Entries.{EnsembleInformation}
use Rattle.fib_codec.specs.Heard.{IsEnsembleHeardInRow}
use Rattle.plan_code.specs.Program.{Program}
use Rattle.plan_code.specs.Machine.{State}
use Rattle.plan_runs.specs.declared.event.Event.{Event}
use Rattle.plan_runs.specs.declared.event.Event.TheVariants.{Contact, Frame}
use Rattle.plan_runs.specs.Frames.{is_due, frame_bytes, after_frame}
use Rattle.plan_runs.specs.Runs.{happens, run}
use Rattle.plan_runs.specs.TypedRuns.{IsPlayed}
use Rattle.plan_runs.specs.Announced.{Runs, heard_along, heard_of}
use Rattle.plan_runs.specs.RightBytes.{FrameIsRight, FramesAreRight, IsHeardEachPeriod}

-- ---- the swap falls on the announced count

-- an announcement in the bytes of a frame: a FIG 0/0, with any C/N flag, with the low part of the swap's count
abbrev pub IsAnnouncedIn : List ℕ → ℕ → Type 0
IsAnnouncedIn frame low = (next : Bool) × (e : EnsembleInformation) × IsEnsembleHeardInRow frame next e
    × (e.occurrence ≡ Some low)

-- every announcement in this frame is of this count
abbrev pub AnnouncesOnly : ℕ → List ℕ → Type 0
AnnouncesOnly low frame = (other : ℕ) → IsAnnouncedIn frame other → other ≡ low

-- the swap falls on the first of these frames whose count has this low part, and until then every flagged FIG 0/0
-- announces it
abbrev pub SwapsAt : ℕ → Program → State → List Event → Type 0
SwapsAt low p s [] = Unit {0}
SwapsAt low p s (Contact c closed ∷ es) = SwapsAt low p (happens p s (Contact c closed)) es
SwapsAt low p s (Frame ∷ es) =
    MatchBool (s.count % 250 == low)
    (is_due s.left ≡ true)
    ((is_due s.left ≡ false) × AnnouncesOnly low (frame_bytes p s) × SwapsAt low p (after_frame p s) es)

-- each announcement is kept by the frames after it
abbrev pub KeepsCount : Program → State → List Event → Type 0
KeepsCount p s [] = Unit {0}
KeepsCount p s (Contact c closed ∷ es) = KeepsCount p (happens p s (Contact c closed)) es
KeepsCount p s (Frame ∷ es) =
    ((low : ℕ) → IsAnnouncedIn (frame_bytes p s) low → SwapsAt low p (after_frame p s) es)
    × KeepsCount p (after_frame p s) es

-- ---- the headline

-- over these events: there is no trap, the budget is kept, and each swap was announced; every frame has correct FIBs;
-- each swap falls on the announced count; and each period has the whole current configuration
pub record MeetsGuarantees (p : Program) (s : State) (events : List Event) : Type 0 where
  pub runs : Runs p s (heard_of p.plan s) events
  pub right : FramesAreRight p s events
  pub counted : KeepsCount p s events
  pub whole : IsHeardEachPeriod p s

abbrev pub HeadlineHolds : Type 0
HeadlineHolds = (p : Program) (s : State) (events : List Event) → IsPlayed p s → MeetsGuarantees p s events

-- ---- its parts, each a separate law

abbrev pub FramesOfTypedCodeAreRight : Type 0
FramesOfTypedCodeAreRight = (p : Program) (s : State) → IsPlayed p s → FrameIsRight p s

abbrev pub PeriodsAreWhole : Type 0
PeriodsAreWhole = (p : Program) (s : State) → IsPlayed p s → IsHeardEachPeriod p s

abbrev pub SwapsAreAnnounced : Type 0
SwapsAreAnnounced = (p : Program) (s : State) (events : List Event) → IsPlayed p s → Runs p s (heard_of p.plan s) events

abbrev pub SwapsComeAsAnnounced : Type 0
SwapsComeAsAnnounced = (p : Program) (s : State) (events : List Event) → IsPlayed p s → KeepsCount p s events

-- the frames heard of a notice are a function of the state, so a player need not store them
abbrev pub HeardIsKnown : Type 0
HeardIsKnown =
    (p : Program) (s : State) (events : List Event) → IsPlayed p s
    → heard_along p s (heard_of p.plan s) events ≡ heard_of p.plan (run p s events)
