-- The swaps of a run.
use Rattle.std.specs.Prelude.{◌≡◌, ℕ, ◌+◌, ◌<◌, if◌then◌else◌, List, [], ◌∷◌, ◌++◌, Option, None, Some, replicate}
use Rattle.mux_config.specs.Configuration.{Configuration}
use Rattle.script_tokens.specs.Scanning.{Scan}
use Rattle.plan_code.specs.Program.{Program}
use Rattle.plan_code.specs.Machine.{State}
use Rattle.plan_runs.specs.declared.event.Event.{Event}
use Rattle.plan_runs.specs.declared.event.Event.TheVariants.{Contact, Frame}
use Rattle.plan_runs.specs.Frames.{is_due, after_frame}
use Rattle.plan_runs.specs.Runs.{happens}
use Rattle.plan_player.specs.Playing.{Playing, played}
use Rattle.plan_session.specs.declared.step.Step.{Step}
use Rattle.plan_session.specs.declared.step.Step.TheVariants.{Contact as ContactStep, Frames}
use Rattle.plan_session.specs.Events.{events_of}
use Rattle.plan_session.specs.Listing.{ListsSteps}
use Rattle.plan_timeline.specs.declared.swap.Swap.{Swap}
use Rattle.plan_timeline.specs.declared.swaps.Position.{Position}

-- a swap: its frame's number in the run, CIF count and frame of the day, and the configurations before and after it
pub record Swapped : Type 0 where
  pub frame : ℕ
  pub count : ℕ
  pub day : ℕ
  pub before : Configuration
  pub now : Configuration

-- the swap in the frame of this number, if it makes one
abbrev pub swap_in : State → ℕ → List Swapped
swap_in s n =
    if is_due s.left then (record { frame = n; count = s.count; day = s.day; before = s.current; now = s.next }) ∷ []
    else []

-- the swaps over some events, of which the first frame has this number
abbrev pub swaps_over : Program → State → ℕ → List Event → List Swapped
swaps_over p s n [] = []
swaps_over p s n (Contact c closed ∷ es) = swaps_over p (happens p s (Contact c closed)) n es
swaps_over p s n (Frame ∷ es) = swap_in s n ++ swaps_over p (after_frame p s) (n + 1) es

-- the values that are found of a swap, apart from its line
abbrev pub swapped : Swap → Swapped
swapped w = record { frame = w.frame; count = w.count; day = w.day; before = w.before; now = w.now }

abbrev pub found : Option Swap → List Swapped
found None = []
found (Some w) = swapped w ∷ []

-- some frames of the step at hand were played, and these are the swaps in them
pub record Went (old : Playing) (before : Position) (new : Playing) (after : Position) (swaps : List Swapped) : Type
    0 where
  pub frames : ℕ
  pub left : before.left ≡ frames + after.left
  pub frame : after.frame ≡ before.frame + frames
  pub state : new ≡ played old (replicate frames Frame)
  pub swaps_are : swaps ≡ swaps_over old.code old.state before.frame (replicate frames Frame)

-- the events that are left: frames of the step at hand, and those of the steps behind it
abbrev pub left_of : Position → List Step → List Event
left_of at steps = replicate at.left Frame ++ events_of steps

-- the number of frames among these events
abbrev pub frame_count : List Event → ℕ
frame_count [] = 0
frame_count (Contact c closed ∷ es) = frame_count es
frame_count (Frame ∷ es) = frame_count es + 1

-- the number of frames of a run whose steps these are: those before the next one, and those that are left
abbrev pub frames_in_all : Position → List Step → ℕ
frames_in_all at steps = at.frame + frame_count (left_of at steps)

-- some of what was left was played, with these swaps in it: of each list of the steps that were left, some are left
abbrev pub Plays : Playing → Position → Scan → Playing → Position → Scan → List Swapped → Type 0
Plays old before steps new after others swaps =
    (all : List Step) → ListsSteps steps all → (rest : List Step) × ListsSteps others rest
    × (swaps_over old.code old.state before.frame (left_of before all)
    ≡ swaps ++ swaps_over new.code new.state after.frame (left_of after rest))
    × (played old (left_of before all) ≡ played new (left_of after rest))
    × (frames_in_all after rest ≡ frames_in_all before all)

-- the first swap of what was left was found, and the rest is left; or there is no swap in it, and all of it was played,
-- so that the next frame would be the one behind the last
abbrev pub FindsNext : Playing → Position → Scan → Playing → Position → Scan → Option Swap → Type 0
FindsNext old before steps new after others (Some w) = Plays old before steps new after others (swapped w ∷ [])
FindsNext old before steps new after others None = (all : List Step) → ListsSteps steps all
    → (swaps_over old.code old.state before.frame (left_of before all) ≡ []) × (new ≡ played old (left_of before all))
    × (after.frame ≡ frames_in_all before all)

-- the run has more frames than can be numbered
abbrev pub HasTooMany : Position → Scan → Type 0
HasTooMany at steps = (all : List Step) → ListsSteps steps all → 18446744073709551615 < frames_in_all at all

-- ---- beginning a step. No public contract depends on what follows

-- the player with the contact of this step, if it has one, changed
abbrev pub begun : Playing → Step → Playing
begun p (ContactStep c closed) = record p { state = happens p.code p.state (Contact c closed) }
begun p (Frames n) = p

-- the number of frames of a step
abbrev pub frames_in : Step → ℕ
frames_in (ContactStep c closed) = 0
frames_in (Frames n) = n
