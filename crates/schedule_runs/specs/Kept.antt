-- A schedule is kept: what comes was due, what stays due comes in time, and what the clock changes is on air at its
-- hour.
use Rattle.std.specs.Prelude.{◌≡◌, ◌≢◌, ℕ, suc, ◌+◌, ◌-◌, ◌%◌, ◌<◌, ◌≤◌, true, List, [], ◌∷◌, ◌++◌, length, None, Some}
use Rattle.std.specs.Prelude.{slice_get}
use Rattle.std.specs.List.{AllByRecursion}
use Rattle.mux_types.specs.Configuration.{Configuration}
use Rattle.plan_code.specs.declared.limits.TheConstants.{FRAMES_A_DAY}
use Rattle.plan_code.specs.Machine.{IsLeastFrom}
use Rattle.plan_runs.specs.declared.event.Event.{Event}
use Rattle.plan_runs.specs.declared.event.Event.TheVariants.{Contact, Frame}
use Rattle.plan_runs.specs.declared.event.Start.{Start}
use Rattle.plan_runs.specs.Frames.{is_due}
use Rattle.plan_runs.specs.Runs.{StartIsInRange, IsEvent}
use Rattle.schedule_front.specs.Tree.{Tree, IsSchedule}
use Rattle.schedule_runs.specs.Due.{wanted}
use Rattle.schedule_runs.specs.Machine.{Airing, after_swap, begins, due_in, step_of, PerformsAll}

-- ---- the frames of a run

-- the number of frames among these events
abbrev pub frame_count : List Event → ℕ
frame_count [] = 0
frame_count (Contact contact closed ∷ es) = frame_count es
frame_count (Frame ∷ es) = suc (frame_count es)

-- frame n of the run, from 0, begins with this airing
abbrev pub IsFrame : List Airing → ℕ → Airing → Type 0
IsFrame run n x = slice_get run n ≡ Some x

-- the airings with which the frames of a run over these events begin, in order: each is the one to which the events
-- before its frame lead, so its contacts are those of the frame
pub record AreFrames (s : Tree) (x : Airing) (events : List Event) (run : List Airing) : Type 0 where
  pub all : length run ≡ frame_count events
  pub each :
      (before behind : List Event) (y : Airing) → events ≡ before ++ Frame ∷ behind → PerformsAll s x before y
      → IsFrame run (frame_count before) y

-- a swap is made in the frame
abbrev pub Swaps : Airing → Type 0
Swaps x = is_due x.left ≡ true

-- what the frame has on air: after a swap what came
abbrev pub on_air : Airing → Configuration
on_air x = (after_swap x).current

-- nothing is pending in the frame, once its swap is made
abbrev pub IsFree : Airing → Type 0
IsFree x = (after_swap x).left ≡ None

-- the frame commits what is due in it
pub record Commits (s : Tree) (x : Airing) : Type 0 where
  pub free : IsFree x
  pub changes : due_in s x ≢ on_air x

-- a swap can fall in the frame
abbrev pub IsOnStep : Tree → Airing → Type 0
IsOnStep s x = x.count % step_of s ≡ 0

-- ---- what comes was due

-- the swap of frame n was committed in an earlier frame, in which what comes was due; in no frame between them was
-- nothing pending, so none of them made a swap or committed anything
pub record WasCommitted (s : Tree) (run : List Airing) (n : ℕ) (x : Airing) : Type 0 where
  pub number : ℕ
  pub earlier : number < n
  pub commit : Airing
  pub is_frame : IsFrame run number commit
  pub commits : Commits s commit
  pub brings : on_air x ≡ due_in s commit
  pub pending : (k : ℕ) (y : Airing) → number < k → k < n → IsFrame run k y → IsFree y → ⊥

abbrev pub WhatComesWasDue : Tree → List Airing → Type 0
WhatComesWasDue s run = (n : ℕ) (x : Airing) → IsFrame run n x → Swaps x → WasCommitted s run n x

-- ---- what stays due comes

-- the same configuration is due in each of the frames from m to n
abbrev pub IsDueThroughout : Tree → List Airing → (m n : ℕ) → Configuration → Type 0
IsDueThroughout s run m n c = (k : ℕ) (y : Airing) → m ≤ k → k ≤ n → IsFrame run k y → due_in s y ≡ c

-- the least multiple of the step that is at least the notice
abbrev pub IsNoticeOnStep : Tree → ℕ → Type 0
IsNoticeOnStep s up = IsLeastFrom s.header.notice (λ frames. frames % step_of s ≡ 0) up

-- what is due for so long is on air then: a change under way is finished first, at most notice + step - 2 frames later,
-- and then what is due is announced for the notice, rounded up to the step
abbrev pub WhatStaysDueComes : Tree → List Airing → Type 0
WhatStaysDueComes s run =
    (m n up : ℕ) (c : Configuration) (x : Airing) → IsNoticeOnStep s up → IsFrame run n x
    → m + (s.header.notice + step_of s - 2 + up) ≤ n → IsDueThroughout s run m n c → on_air x ≡ c

-- ---- what the clock changes is on air at its hour

-- frame f is a notice before this frame of the day, for instance one in which a window begins or ends: nothing is
-- pending in f once its swap is made, and what is wanted then, with the contacts of f, is not on air
pub record ChangesAt (s : Tree) (f : Airing) (day_frame : ℕ) : Type 0 where
  pub a_notice_before : (f.day + s.header.notice) % FRAMES_A_DAY ≡ day_frame
  pub free : IsFree f
  pub changes : wanted s f.contacts day_frame ≢ on_air f

-- frame n is the first from this one on in which a swap can fall
pub record IsNextOnStep (s : Tree) (run : List Airing) (from n : ℕ) (x : Airing) : Type 0 where
  pub reached : from ≤ n
  pub on_step : IsOnStep s x
  pub first : (k : ℕ) (y : Airing) → from ≤ k → k < n → IsFrame run k y → IsOnStep s y → ⊥

abbrev pub HasNextOnStep : Tree → List Airing → ℕ → Type 0
HasNextOnStep s run from = (n : ℕ) × (x : Airing) × IsFrame run n x × IsNextOnStep s run from n x

-- frame n makes the swap to what is wanted, and none between f and n makes another; it comes at most step - 1 frames
-- after the frame that is a notice later than f
pub record IsOnTime (s : Tree) (run : List Airing) (f : ℕ) (wants : Configuration) (n : ℕ) (x : Airing) : Type 0 where
  pub swaps : Swaps x
  pub brings : on_air x ≡ wants
  pub alone : (k : ℕ) (y : Airing) → f < k → k < n → IsFrame run k y → Swaps y → ⊥
  pub late : n ≤ f + s.header.notice + (step_of s - 1)

-- the swap falls on that frame of the day, or on the next frame in which one can, whatever the contacts do after f
pub record IsPunctual (s : Tree) (run : List Airing) (f : ℕ) (x : Airing) (day_frame : ℕ) : Type 0 where
  pub comes :
      (n : ℕ) (y : Airing) → IsFrame run n y → IsNextOnStep s run (f + s.header.notice) n y
      → IsOnTime s run f (wanted s x.contacts day_frame) n y
  -- there is such a frame, if the run is long enough; below, the frame a notice later is the one of the day
  pub there : f + s.header.notice + (step_of s - 1) < length run → HasNextOnStep s run (f + s.header.notice)
  pub a_notice_later : (y : Airing) → IsFrame run (f + s.header.notice) y → y.day ≡ day_frame

abbrev pub WhatTheClockChangesIsPunctual : Tree → List Airing → Type 0
WhatTheClockChangesIsPunctual s run =
    (f day_frame : ℕ) (x : Airing) → IsFrame run f x → ChangesAt s x day_frame → IsPunctual s run f x day_frame

-- ---- the law

pub record IsKept (s : Tree) (run : List Airing) : Type 0 where
  pub was_due : WhatComesWasDue s run
  pub stays_due : WhatStaysDueComes s run
  pub clock : WhatTheClockChangesIsPunctual s run

-- the frames of a run from this airing, which are determined, keep the schedule
pub record RunIsKept (s : Tree) (x : Airing) (events : List Event) : Type 0 where
  pub run : List Airing
  pub frames : AreFrames s x events run
  pub only : (other : List Airing) → AreFrames s x events other → other ≡ run
  pub kept : IsKept s run

-- from every start in range, over every list of events
abbrev pub SchedulesAreKept : Type 0
SchedulesAreKept =
    (s : Tree) (start : Start) (events : List Event) → IsSchedule s → StartIsInRange start
    → AllByRecursion IsEvent events
    → RunIsKept s (begins s start) events
