-- `until` for a time that is past: the way there from the last time of day takes longer than it is to its time.
use Rattle.std.specs.Prelude.{◌≡◌, ℕ, ◌+◌, ◌≤◌, Bool, true, false, not, if◌then◌else◌, nat_lt, List, [], ◌∷◌, Option}
use Rattle.std.specs.Prelude.{Some, None}
use Rattle.std.specs.List.{AllByRecursion}
use Rattle.plan_code.specs.declared.limits.TheConstants.{FRAMES_A_DAY}
use Rattle.plan_code.specs.Machine.{frames_until}
use Rattle.script_front.specs.declared.tree.Act.{Act}
use Rattle.script_front.specs.declared.tree.Act.TheVariants.{Edit as Edits, Wait, WaitContact, WaitAny, Until, CommitIn}
use Rattle.script_front.specs.declared.tree.Act.TheVariants.{CommitAt, Join, Settle}
use Rattle.script_front.specs.declared.moment.MomentForm.{MomentForm as Moment}
use Rattle.script_front.specs.declared.alternatives.Alternative.{Alternative}
use Rattle.script_front.specs.declared.alternatives.Alternative.TheVariants.{Contact, Until as IsMoment, Frames}
use Rattle.script_front.specs.Waits.{moment_frame}
use Rattle.script_front.specs.Block.{Block, basic}
use Rattle.script_front.specs.Tree.{Tree}
use Rattle.plan_explain.specs.declared.straight.Way.{Way}
use Rattle.plan_explain.specs.declared.day_wait.DayWait.{DayWait}
use Rattle.plan_explain.specs.ActsInside.{HasAct, HasActIn}

-- the frame of the day among some alternatives; for which an act waits, alone or beside others
abbrev pub moment_in : List Alternative → Option ℕ
moment_in [] = None
moment_in (IsMoment m ∷ others) = Some (moment_frame m)
moment_in (Contact k b ∷ others) = moment_in others
moment_in (Frames n ∷ others) = moment_in others

abbrev pub time_of : Act → Option ℕ
time_of (Until m) = Some (moment_frame m)
time_of (WaitAny alternatives) = moment_in alternatives
time_of _ = None

-- ---- the frames that statements take at least

-- a day at most
abbrev pub more : ℕ → ℕ → ℕ
more a b = if nat_lt (a + b) FRAMES_A_DAY then a + b else FRAMES_A_DAY

abbrev pub swapped : ℕ → Option ℕ → ℕ
swapped frames None = frames
swapped frames (Some swap) = if nat_lt frames swap then swap else frames

abbrev pub new_way : ℕ → Way
new_way from = record { from = from; frames = 0; swap = None }

-- `wait N` takes N frames, each other wait 1; from `commit in K` to `join` it is K at least
abbrev pub further : Way → Act → Way
further w (Wait n) = record { from = w.from; frames = more w.frames n; swap = w.swap }
further w (WaitContact k b) = record { from = w.from; frames = more w.frames 1; swap = w.swap }
further w (WaitAny alternatives) = record { from = w.from; frames = more w.frames 1; swap = w.swap }
further w (Until m) = record { from = w.from; frames = more w.frames 1; swap = w.swap }
further w (CommitIn d) = record { from = w.from; frames = w.frames; swap = Some (more w.frames d) }
further w (CommitAt n) = record { from = w.from; frames = w.frames; swap = None }
further w Join = record { from = w.from; frames = swapped w.frames w.swap; swap = w.swap }
further w Settle = w
further w (Edits e) = w

-- ---- a wait for the next day

-- statements in a row, each with its line, in front of others
abbrev pub straight : List (ℕ × Act) → Block → Block
straight [] rest = rest
straight (a ∷ later) rest = basic a.0 a.1 (straight later rest)

abbrev pub along : Way → List (ℕ × Act) → Way
along w [] = w
along w (a ∷ later) = along (further w a.1) later

-- the time of day comes no later than the plan: then `until`, which never ends in its own frame, waits for the next one
abbrev pub comes_late : Way → Moment → Bool
comes_late w m = not (nat_lt w.frames (frames_until w.from (moment_frame m)))

-- so far on a way, these statements lead straight to the `until`, past no other wait for a time of day
pub record IsAhead (way : Way) (rest : Block) (d : DayWait) : Type 0 where
  pub between : List (ℕ × Act)
  pub behind : Block
  pub follows : rest ≡ straight between (basic d.line (Until d.until) behind)
  pub untimed : AllByRecursion (λ a. time_of a.1 ≡ None) between
  pub takes : along way between ≡ d.way
  pub late : comes_late d.way d.until ≡ true

-- an act waits for a time of day, and the way begins behind it
pub record WaitsADay (act : Act) (rest : Block) (d : DayWait) : Type 0 where
  pub from : ℕ
  pub begins : time_of act ≡ Some from
  pub ahead : IsAhead (new_way from) rest d

-- among these statements, or in their braces; and in a script
abbrev pub HasDayWait : Block → DayWait → Type 0
HasDayWait b d = HasAct (λ act rest. WaitsADay act rest d) b

abbrev pub HasDayWaitIn : Tree → DayWait → Type 0
HasDayWaitIn script d = HasActIn (λ act rest. WaitsADay act rest d) script
