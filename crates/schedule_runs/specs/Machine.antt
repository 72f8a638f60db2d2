-- What a schedule means: what is on air and what comes next, frame by frame. There are no instructions and nothing is
-- remembered but a change that was announced.
use Rattle.std.specs.Prelude.{◌≡◌, ◌≢◌, ◌⊎◌, ℕ, ◌+◌, ◌%◌, Bool, if◌then◌else◌, List, [], ◌∷◌, Option, Some, None}
use Rattle.fib_codec.specs.Layouts.{layout_mode}
use Rattle.fib_codec.specs.Modes.{count_step}
use Rattle.mux_types.specs.Configuration.{Configuration}
use Rattle.mux_types.specs.declared.limits.TheConstants.{COUNTS}
use Rattle.plan_code.specs.declared.limits.TheConstants.{FRAMES_A_DAY}
use Rattle.plan_code.specs.declared.flags.Contacts.{Contacts}
use Rattle.plan_code.specs.Flags.{with_contact}
use Rattle.plan_code.specs.Machine.{State, left_in}
use Rattle.plan_runs.specs.declared.event.Event.{Event}
use Rattle.plan_runs.specs.declared.event.Event.TheVariants.{Contact, Frame}
use Rattle.plan_runs.specs.declared.event.Start.{Start}
use Rattle.plan_runs.specs.Frames.{is_due, left_after_frame}
use Rattle.schedule_front.specs.Tree.{Tree}
use Rattle.schedule_runs.specs.Due.{due, opening_of}

-- ---- what is on air

pub record Airing : Type 0 where
  -- what is on air, and what comes next: the same where no change was announced
  pub current : Configuration
  pub next : Configuration
  -- the frames until the swap, if a change was announced
  pub left : Option ℕ
  pub contacts : Contacts
  -- the CIF count, and the frame of the day
  pub count : ℕ
  pub day : ℕ

-- the airing of a player's state: all that is not here is how a code gets there
abbrev pub airing_of : State → Airing
airing_of s =
    record {
      current = s.current;
      next = s.next;
      left = s.left;
      contacts = s.contacts;
      count = s.count;
      day = s.day;
    }

-- ---- a frame

-- first, a swap that is due is made
abbrev pub after_swap : Airing → Airing
after_swap x = if is_due x.left then record x { current = x.next; left = None } else x

-- what is due in the frame
abbrev pub due_in : Tree → Airing → Configuration
due_in s x = due s x.contacts x.day

-- the number of frames between the counts on which a swap can fall
abbrev pub step_of : Tree → ℕ
step_of s = count_step (layout_mode s.header.layout)

-- what is due is announced: it comes next, after a notice, in the first frame in which a swap can fall
abbrev pub announced : Tree → Airing → Airing
announced s x =
    record x {
      next = due_in s x;
      left = Some (left_in (step_of s) x.count s.header.notice);
    }

-- second: while a change is pending, and while what is due is on air, nothing is taken up; else what is due is
-- announced
abbrev pub TakesUp : Tree → Airing → Airing → Type 0
TakesUp s x y =
    ((x.left ≢ None) × (y ≡ x))
    ⊎ (((x.left ≡ None) × (due_in s x ≡ x.current) × (y ≡ x))
    ⊎ ((x.left ≡ None) × (due_in s x ≢ x.current) × (y ≡ announced s x)))

-- third, the frame has been sent, and the counts advance
abbrev pub after_counts : Airing → Airing
after_counts x =
    record x {
      left = left_after_frame x.left;
      count = (x.count + 1) % COUNTS;
      day = (x.day + 1) % FRAMES_A_DAY;
    }

abbrev pub PerformsFrame : Tree → Airing → Airing → Type 0
PerformsFrame s x y = (sent : Airing) × TakesUp s (after_swap x) sent × (y ≡ after_counts sent)

-- ---- events

abbrev pub with_level : ℕ → Bool → Airing → Airing
with_level contact closed x = record x { contacts = with_contact contact closed x.contacts }

abbrev pub PerformsEvent : Tree → Airing → Event → Airing → Type 0
PerformsEvent s x (Contact contact closed) y = y ≡ with_level contact closed x
PerformsEvent s x Frame y = PerformsFrame s x y

-- the airing after a list of events
abbrev pub PerformsAll : Tree → Airing → List Event → Airing → Type 0
PerformsAll s x [] y = x ≡ y
PerformsAll s x (e ∷ es) y = (z : Airing) × PerformsEvent s x e z × PerformsAll s z es y

-- at the start the items are on air, and no change was announced
abbrev pub begins : Tree → Start → Airing
begins s start =
    record {
      current = opening_of s;
      next = opening_of s;
      left = None;
      contacts = start.contacts;
      count = start.count;
      day = start.day;
    }

-- ---- the law

-- over the same events a schedule comes to exactly one airing
pub record ComesToOne (s : Tree) (x : Airing) (events : List Event) : Type 0 where
  pub end : Airing
  pub comes : PerformsAll s x events end
  pub only : (other : Airing) → PerformsAll s x events other → other ≡ end

abbrev pub SchedulesComeToOne : Type 0
SchedulesComeToOne = (s : Tree) (x : Airing) (events : List Event) → ComesToOne s x events
