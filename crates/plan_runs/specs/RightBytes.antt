-- When the bytes of a frame, and the frames of a phase, are correct (EN 300 401 clauses 5.2.1, 6.4 and 6.5).
use Rattle.std.specs.Prelude.{◌≡◌, ◌≢◌, ℕ, ◌+◌, ◌*◌, ◌%◌, ◌<◌, ◌≤◌, ◌⊎◌, true, false, List, [], ◌∷◌, length, Contains}
use Rattle.std.specs.Prelude.{Option, Some, None}
use Rattle.std.specs.List.{AllByRecursion}
use Rattle.fib_codec.specs.Layouts.{layout_mode, frame_fibs}
use Rattle.mux_types.specs.Entries.{EnsembleInformation}
use Rattle.mux_types.specs.Facts.{Marked, marked, facts_of}
use Rattle.mux_types.specs.declared.entry.Entry.TheVariants.{Ensemble as EnsembleOf}
use Rattle.fib_codec.specs.Grammar.{Fig, Open, Other, IsFib, IsValid}
use Rattle.fib_codec.specs.Modes.{count_step}
use Rattle.fib_codec.specs.Heard.{IsInFig, IsHeardInRow, fib_at}
use Rattle.mux_types.specs.declared.limits.TheConstants.{COUNTS}
use Rattle.plan_code.specs.declared.plan.Plan.{Plan}
use Rattle.plan_code.specs.Program.{Program}
use Rattle.plan_code.specs.Machine.{State}
use Rattle.plan_runs.specs.declared.event.Event.{Event}
use Rattle.plan_runs.specs.declared.event.Event.TheVariants.{Contact, Frame}
use Rattle.plan_runs.specs.Frames.{with_due_swap, is_noticed, shown, frame_bytes, after_frame, begins_phase}
use Rattle.plan_runs.specs.Runs.{happens, run, run_frames}
use Rattle.plan_runs.specs.Announced.{IsFlagged, IsHeardWhole}

-- ---- FIG 0/0

abbrev pub IsEnsembleFig : Fig → Type 0
IsEnsembleFig (Open second es) = second % 32 ≡ 0
IsEnsembleFig (Other bytes) = ⊥

abbrev pub IsNoHeader : Fig → Type 0
IsNoHeader fig = IsEnsembleFig fig → ⊥

-- flagged with the count of the swap that falls this many frames later
abbrev pub IsFlaggedBy : State → Option ℕ → EnsembleInformation → Type 0
IsFlaggedBy s None e = ⊥
IsFlaggedBy s (Some left) e = IsFlagged s.current s.next ((s.count + left) % COUNTS) e

-- the ensemble information of the state: flagged exactly in the frames of a notice
pub record IsEnsembleOf (plan : Plan) (s : State) (e : EnsembleInformation) : Type 0 where
  pub eid : e.eid ≡ s.eid
  pub alarm : e.al ≡ false
  pub count : e.count ≡ s.count
  pub flagged : is_noticed plan.notice s.left ≡ true → IsFlaggedBy s s.left e
  pub unflagged : is_noticed plan.notice s.left ≡ false → (e.change ≡ 0) × (e.occurrence ≡ None)

-- FIG 0/0 is the first of these FIGs, with C/N 0, and there is no other FIG 0/0
pub record IsHeadedBy (plan : Plan) (s : State) (bytes : List ℕ) : Type 0 where
  pub header : Fig
  pub others : List Fig
  pub information : EnsembleInformation
  pub first : IsFib bytes (header ∷ others)
  pub says : IsInFig header (marked false (EnsembleOf information))
  pub right : IsEnsembleOf plan s information
  pub alone : AllByRecursion IsNoHeader others

-- none of these FIGs is FIG 0/0
abbrev pub IsUnheaded : List ℕ → Type 0
IsUnheaded bytes = (figs : List Fig) × IsFib bytes figs × AllByRecursion IsNoHeader figs

-- ---- the bytes of a frame

-- the bytes are correct for the state that they are made from
pub record IsRight (plan : Plan) (s : State) (bytes : List ℕ) : Type 0 where
  pub length_of_fibs : length bytes ≡ 32 * frame_fibs plan.layout
  pub valid : (n : ℕ) → n < frame_fibs plan.layout → (figs : List Fig) × IsValid (fib_at bytes n) figs
  pub headed : s.count % count_step (layout_mode plan.layout) ≡ 0 → IsHeadedBy plan s (fib_at bytes 0)
  pub unheaded : s.count % count_step (layout_mode plan.layout) ≢ 0 → IsUnheaded (fib_at bytes 0)
  pub others_unheaded : (n : ℕ) → 1 ≤ n → n < frame_fibs plan.layout → IsUnheaded (fib_at bytes n)
  pub entries : (m : Marked) → IsHeardInRow bytes m
      → Contains (facts_of s.current false) m
      ⊎ ((is_noticed plan.notice s.left ≡ true) × Contains (facts_of s.next true) m)

abbrev pub FrameIsRight : Program → State → Type 0
FrameIsRight p s = IsRight p.plan (shown p s) (frame_bytes p s)

-- every frame of a run is correct
abbrev pub FramesAreRight : Program → State → List Event → Type 0
FramesAreRight p s [] = Unit {0}
FramesAreRight p s (Contact c closed ∷ es) = FramesAreRight p (happens p s (Contact c closed)) es
FramesAreRight p s (Frame ∷ es) = FrameIsRight p s × FramesAreRight p (after_frame p s) es

-- ---- phases

-- no frame of these events begins a phase
abbrev pub BeginsNoPhase : Program → State → List Event → Type 0
BeginsNoPhase p s [] = Unit {0}
BeginsNoPhase p s (Contact c closed ∷ es) = BeginsNoPhase p (happens p s (Contact c closed)) es
BeginsNoPhase p s (Frame ∷ es) = (begins_phase p s ≡ false) × BeginsNoPhase p (after_frame p s) es

-- the frames of these events are of one phase: no frame begins one, except perhaps the first
abbrev pub IsOnePhase : Program → State → List Event → Type 0
IsOnePhase p s [] = Unit {0}
IsOnePhase p s (Contact c closed ∷ es) = IsOnePhase p (happens p s (Contact c closed)) es
IsOnePhase p s (Frame ∷ es) = BeginsNoPhase p (after_frame p s) es

-- in any P successive frames of one phase the whole current configuration is heard
abbrev pub IsHeardEachPeriod : Program → State → Type 0
IsHeardEachPeriod p s =
    (before events : List Event)
    → (let t = run p s before in
    IsOnePhase p t events → length (run_frames p t events) ≡ p.plan.period
    → IsHeardWhole (with_due_swap t).current false (run_frames p t events))
