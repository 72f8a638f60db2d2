-- What becomes of the FIGs that are taken, over any sequence of calls of a merger.
use Rattle.std.specs.Prelude.{◌≡◌, ℕ, ◌+◌, ◌<◌, ◌≤◌, Bool, true, false, if◌then◌else◌, nat_lt, List, [], ◌∷◌, ◌++◌}
use Rattle.std.specs.Prelude.{length, flat_map, Some, Contains}
use Rattle.std.specs.List.{AllByRecursion}
use Rattle.std.specs.Str.{bytes_eq}
use Rattle.stream_check.specs.Frames.{Reading}
use Rattle.fig_merge.specs.Taking.{Merging, IsMerging, nothing_taken, most, limited, waits, with_fig, taken_in}
use Rattle.fig_merge.specs.Taking.{after_take}
use Rattle.fig_mentions.specs.Agreeing.{fig_agrees}
use Rattle.fib_codec.specs.Grammar.{Fig}
use Rattle.fig_merge.specs.Filling.{room_after, turns_in, left_waiting, turns_by, carried_by, stale_by, hearing}
use Rattle.fig_merge.specs.Filling.{after_fill}

-- ---- sequences of calls

-- the FIGs of a FIB of the multiplexer are taken, or a FIB of the plan is filled; both by their bytes
pub data Step : Type 0 where
  Take : List ℕ → Step
  Fill : List ℕ → Step

abbrev pub after_step : Reading → Step → Merging → Merging
after_step r (Take fib) m = after_take (r.read fib) m
after_step r (Fill fib) m = after_fill (r.read fib) m

abbrev pub after_steps : Reading → List Step → Merging → Merging
after_steps r [] m = m
after_steps r (s ∷ ss) m = after_steps r ss (after_step r s m)

-- ---- the FIGs that are taken, and what becomes of each

abbrev pub taken_at : Reading → Step → List (List ℕ)
taken_at r (Take fib) = taken_in (r.read fib)
taken_at r (Fill fib) = []

-- those whose turn comes; of these the ones that are carried, and the ones that are stale
abbrev pub turns_at : Reading → Step → Merging → List (List ℕ)
turns_at r (Take fib) m = []
turns_at r (Fill fib) m = turns_by (r.read fib) m

abbrev pub carried_at : Reading → Step → Merging → List (List ℕ)
carried_at r (Take fib) m = []
carried_at r (Fill fib) m = carried_by (r.read fib) m

abbrev pub stale_at : Reading → Step → Merging → List (List ℕ)
stale_at r (Take fib) m = []
stale_at r (Fill fib) m = stale_by (r.read fib) m

-- taken FIGs with the bytes of one that waits when they are taken
abbrev pub repeated_of : List (List ℕ) → Merging → List (List ℕ)
repeated_of [] m = []
repeated_of (fig ∷ figs) m = (if waits fig m.waiting then fig ∷ [] else []) ++ repeated_of figs (with_fig fig m)

-- others, that are taken where 256 wait
abbrev pub dropped_of : List (List ℕ) → Merging → List (List ℕ)
dropped_of [] m = []
dropped_of (fig ∷ figs) m =
    (if waits fig m.waiting then [] else if nat_lt (length m.waiting) most then [] else fig ∷ [])
    ++ dropped_of figs (with_fig fig m)

abbrev pub all_taken : Reading → List Step → List (List ℕ)
all_taken r [] = []
all_taken r (s ∷ ss) = taken_at r s ++ all_taken r ss

abbrev pub all_turns : Reading → List Step → Merging → List (List ℕ)
all_turns r [] m = []
all_turns r (s ∷ ss) m = turns_at r s m ++ all_turns r ss (after_step r s m)

abbrev pub all_stale : Reading → List Step → Merging → List (List ℕ)
all_stale r [] m = []
all_stale r (s ∷ ss) m = stale_at r s m ++ all_stale r ss (after_step r s m)

abbrev pub all_carried : Reading → List Step → Merging → List (List ℕ)
all_carried r [] m = []
all_carried r (s ∷ ss) m = carried_at r s m ++ all_carried r ss (after_step r s m)

abbrev pub all_repeated : Reading → List Step → Merging → List (List ℕ)
all_repeated r [] m = []
all_repeated r (s ∷ ss) m = repeated_of (taken_at r s) m ++ all_repeated r ss (after_step r s m)

abbrev pub all_dropped : Reading → List Step → Merging → List (List ℕ)
all_dropped r [] m = []
all_dropped r (s ∷ ss) m = dropped_of (taken_at r s) m ++ all_dropped r ss (after_step r s m)

-- how often these bytes are in the list
abbrev pub times : List ℕ → List (List ℕ) → ℕ
times fig [] = 0
times fig (x ∷ xs) = (if bytes_eq fig x then 1 else 0) + times fig xs

-- no two have the same bytes
abbrev pub AreDifferent : List (List ℕ) → Type 0
AreDifferent [] = Unit {0}
AreDifferent (fig ∷ figs) = (waits fig figs ≡ false) × AreDifferent figs

-- each FIG that was taken was carried with its bytes, waits, had the bytes of one that waited, was dropped, or was
-- stale, and only one of these; the counts are those of the FIGs carried, dropped and stale
pub record IsAccounted (r : Reading) (steps : List Step) : Type 0 where
  pub adds_up : (fig : List ℕ) → times fig (all_taken r steps)
      ≡ times fig (all_carried r steps nothing_taken) + times fig (after_steps r steps nothing_taken).waiting
      + times fig (all_repeated r steps nothing_taken) + times fig (all_dropped r steps nothing_taken)
      + times fig (all_stale r steps nothing_taken)
  pub numbers : length (all_taken r steps)
      ≡ length (all_carried r steps nothing_taken) + length (after_steps r steps nothing_taken).waiting
      + length (all_repeated r steps nothing_taken) + length (all_dropped r steps nothing_taken)
      + length (all_stale r steps nothing_taken)
  pub carried : (after_steps r steps nothing_taken).carried ≡ limited (length (all_carried r steps nothing_taken))
  pub dropped : (after_steps r steps nothing_taken).dropped ≡ limited (length (all_dropped r steps nothing_taken))
  pub stale : (after_steps r steps nothing_taken).stale ≡ limited (length (all_stale r steps nothing_taken))
  pub different : AreDifferent (after_steps r steps nothing_taken).waiting
  pub few : length (after_steps r steps nothing_taken).waiting ≤ most

-- the law of accounts: this holds after any sequence of calls of a new merger
abbrev pub AllAreAccounted : Type 0
AllAreAccounted = (r : Reading) (steps : List Step) → IsAccounted r steps

-- ---- order

-- the turns of these FIGs come one after another, and those are left: as long as one of those that wait fits, the one
-- that has waited longest of those that fit has its turn. So a FIG overtakes longer ones only: those before it did not
-- fit. One that agrees takes its room, and one that does not takes none.
abbrev pub Go : (List ℕ → Bool) → ℕ → List (List ℕ) → List (List ℕ) → List (List ℕ) → Type 0
Go agrees room waiting [] left = (left ≡ waiting) × AllByRecursion (λ fig. room < length fig) waiting
Go agrees room waiting (fig ∷ figs) left =
    (before after : List (List ℕ)) × (waiting ≡ before ++ fig ∷ after)
    × AllByRecursion (λ longer. room < length longer) before × (length fig ≤ room)
    × Go agrees (room_after agrees room fig) (before ++ after) figs left

-- the law of order: these are those whose turn comes with a FIB, and those that wait on
abbrev pub TheLongestWaitingGoes : Type 0
TheLongestWaitingGoes =
    (agrees : List ℕ → Bool) (room : ℕ) (waiting : List (List ℕ))
    → Go agrees room waiting (turns_in agrees room waiting) (left_waiting agrees room waiting)

-- ---- agreement

-- the law of agreement: each FIG that is carried in a FIB agrees with the current configuration, as far as it was
-- heard in the plan's FIBs up to and with this one
abbrev pub CarriedAgree : Type 0
CarriedAgree =
    (figs : List Fig) (m : Merging)
    → AllByRecursion (λ fig. fig_agrees (hearing figs m.heard).current fig ≡ true) (carried_by (Some figs) m)

-- ---- no FIG waits for ever

-- a FIB without FIGs is filled
abbrev pub FillsEmpty : Reading → Step → Type 0
FillsEmpty r (Take fib) = ⊥
FillsEmpty r (Fill fib) = r.read fib ≡ Some []

-- one of these steps fills a FIB without FIGs
pub record HasEmpty (r : Reading) (steps : List Step) : Type 0 where
  pub before : List Step
  pub step : Step
  pub after : List Step
  pub steps_are : steps ≡ before ++ step ∷ after
  pub empty : FillsEmpty r step

abbrev pub joined : List (List Step) → List Step
joined frames = flat_map (λ frame. frame) frames

-- the law of carrying: where each frame has a FIB without FIGs, the turn of the FIG that has waited longest comes in
-- the first of them, and that of each one that waits within 256 of them: it is carried if it agrees then
pub record IsCarriedInTime (r : Reading) (m : Merging) (frames : List (List Step)) : Type 0 where
  pub first : (fig : List ℕ) (others : List (List ℕ)) → m.waiting ≡ fig ∷ others → 1 ≤ length frames
      → Contains (all_turns r (joined frames) m) fig
  pub all : (fig : List ℕ) → Contains m.waiting fig → most ≤ length frames
      → Contains (all_turns r (joined frames) m) fig

abbrev pub AllAreCarried : Type 0
AllAreCarried =
    (r : Reading) (m : Merging) (frames : List (List Step)) → IsMerging m → AllByRecursion (HasEmpty r) frames
    → IsCarriedInTime r m frames
