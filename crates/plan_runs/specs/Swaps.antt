-- When a swap is made, and what it changes (EN 300 401 clause 6.5).
use Rattle.std.specs.Prelude.{◌≡◌, ◌⊎◌, ℕ, ◌%◌, ◌≤◌, true, false, List, None}
use Rattle.fib_codec.specs.Layouts.{layout_mode}
use Rattle.fib_codec.specs.Modes.{count_step}
use Rattle.plan_code.specs.declared.plan.Plan.{Plan}
use Rattle.plan_code.specs.declared.instr.Instr.{Instr}
use Rattle.plan_code.specs.declared.instr.Instr.TheVariants.{CommitIn, CommitAt}
use Rattle.plan_code.specs.Program.{Program}
use Rattle.plan_code.specs.Machine.{State}
use Rattle.plan_runs.specs.declared.event.Event.{Event}
use Rattle.plan_runs.specs.Frames.{is_due, shown, after_frame}
use Rattle.plan_runs.specs.Firsts.{CarriesOut, IsFirstWhere}
use Rattle.plan_runs.specs.TypedRuns.{IsPlayed}

-- a swap is due only in frames whose CIF count is a multiple of the mode's step
abbrev pub IsOnStep : Plan → State → Type 0
IsOnStep plan s = is_due s.left ≡ true → s.count % count_step (layout_mode plan.layout) ≡ 0

-- from the state before a frame to another: where a swap is due the next configuration becomes the current one;
-- otherwise the current one is unchanged
pub record SwapsWhereDue (before after : State) : Type 0 where
  pub becomes_next : is_due before.left ≡ true → after.current ≡ before.next
  pub stays : is_due before.left ≡ false → after.current ≡ before.current

-- where the frame executes `CommitAt n`, the first swap after it is due in the first frame with count n that is at
-- least a notice later
abbrev pub IsSwapAtCount : ℕ → Program → State → List Event → Type 0
IsSwapAtCount n p s events =
    CarriesOut p s (CommitAt n)
    → IsFirstWhere (λ t. is_due t.left) (λ later t. (p.plan.notice ≤ later) × (t.count ≡ n)) 1 p (after_frame p s)
    events

-- where it executes `CommitIn k`, the first swap after it is due in the first frame on a multiple of the step that is
-- at least k frames later
abbrev pub IsSwapAfterDelay : ℕ → Program → State → List Event → Type 0
IsSwapAfterDelay k p s events =
    CarriesOut p s (CommitIn k)
    → IsFirstWhere (λ t. is_due t.left) (λ later t. (k ≤ later)
    × (t.count % count_step (layout_mode p.plan.layout) ≡ 0)) 1 p (after_frame p s) events

abbrev pub IsCommit : Instr → Type 0
IsCommit (CommitIn k) = Unit {0}
IsCommit (CommitAt n) = Unit {0}
IsCommit _ = ⊥

-- ---- the laws

abbrev pub SwapsAreOnSteps : Type 0
SwapsAreOnSteps = (p : Program) (s : State) → IsPlayed p s → IsOnStep p.plan s

-- this holds for the state that a frame sends and for the one after it
abbrev pub SwapsChangeTheCurrent : Type 0
SwapsChangeTheCurrent = (p : Program) (s : State) → SwapsWhereDue s (shown p s) × SwapsWhereDue s (after_frame p s)

-- if no swap is pending, or one is due, and the frame executes no commit, none is pending after it
abbrev pub SwapsAreCommitted : Type 0
SwapsAreCommitted =
    (p : Program) (s : State) → (s.left ≡ None) ⊎ (is_due s.left ≡ true)
    → ((i : Instr) → CarriesOut p s i → IsCommit i → ⊥)
    → (after_frame p s).left ≡ None

abbrev pub CommitsAreKept : Type 0
CommitsAreKept = (p : Program) (s : State) (n : ℕ) (events : List Event) → IsPlayed p s → IsSwapAtCount n p s events
    × IsSwapAfterDelay n p s events
