-- Waits for a time of day that is past where a test of the time was passed shortly before it, or after it: they end a
-- day later.
use Rattle.std.specs.Prelude.{◌≡◌, ◌⊎◌, ℕ, ◌+◌, ◌-◌, ◌%◌, ◌==◌, Bool, true, false, nat_lt, if◌then◌else◌, List}
use Rattle.std.specs.Prelude.{[], ◌∷◌, ◌++◌, drop, Option, Some, None}
use Rattle.std.specs.List.{AllByRecursion}
use Rattle.plan_code.specs.declared.limits.TheConstants.{FRAMES_A_DAY}
use Rattle.plan_code.specs.declared.instr.Instr.{Instr}
use Rattle.plan_code.specs.declared.instr.Instr.TheVariants.{Wait, Until, WaitContact, WaitAny, CommitIn, CommitAt}
use Rattle.plan_code.specs.declared.instr.Instr.TheVariants.{Join, Settle, End, Edit, Test, TestTime, Jump, Set, Loop}
use Rattle.plan_code.specs.declared.instr.Line.{Line}
use Rattle.plan_code.specs.Machine.{frames_until}
use Rattle.plan_explain.specs.declared.straight.Way.{Way}
use Rattle.plan_explain.specs.declared.day_trap.Passage.{Passage}
use Rattle.plan_explain.specs.declared.day_trap.DayTrap.{DayTrap}
use Rattle.plan_explain.specs.declared.warning.Warning.{Warning}
use Rattle.plan_explain.specs.declared.warning.Warning.TheVariants.{Trapped}
use Rattle.plan_explain.specs.DayWaits.{more, swapped, new_way}

-- ---- too late for a time of day

-- how many frames a wait for `until` takes that begins in the frame `from`: it never ends in its own frame
abbrev pub wait_of : (from until : ℕ) → ℕ
wait_of from until = if frames_until from until == 0 then FRAMES_A_DAY else frames_until from until

-- a way that takes this many frames comes too late where it is begun so many frames after `from`, or more
abbrev pub first_late : (from frames until : ℕ) → ℕ
first_late from frames until = wait_of from until - frames

-- ---- ways through a code

-- the time of day for which an instruction waits, alone or beside others
abbrev pub time_at : Instr → Option ℕ
time_at (Until t) = Some t
time_at (WaitAny closed opened until frames) = until
time_at _ = None

-- the next instruction can follow, without a test of the time of day and without a wait for it: behind a test of a
-- contact, where it is closed
abbrev pub leads_on : Instr → Bool
leads_on (Wait n) = true
leads_on (WaitContact k b) = true
leads_on (WaitAny closed opened None frames) = true
leads_on (WaitAny closed opened (Some t) frames) = false
leads_on (CommitIn d) = true
leads_on (CommitAt n) = true
leads_on Join = true
leads_on Settle = true
leads_on (Edit e) = true
leads_on (Set k n) = true
leads_on (Test k t) = true
leads_on (Until t) = false
leads_on (TestTime from to t) = false
leads_on (Jump t) = false
leads_on (Loop k t) = false
leads_on End = false

-- the frames that they take at least: `wait N` takes N, each other wait 1, and from `commit in K` to a swap that is
-- awaited it is K at least
abbrev pub farther : Way → Instr → Way
farther w (Wait n) = record { from = w.from; frames = more w.frames n; swap = w.swap }
farther w (WaitContact k b) = record { from = w.from; frames = more w.frames 1; swap = w.swap }
farther w (WaitAny closed opened until frames) = record { from = w.from; frames = more w.frames 1; swap = w.swap }
farther w (CommitIn d) = record { from = w.from; frames = w.frames; swap = Some (more w.frames d) }
farther w (CommitAt n) = record { from = w.from; frames = w.frames; swap = None }
farther w Join = record { from = w.from; frames = swapped w.frames w.swap; swap = w.swap }
farther w Settle = record { from = w.from; frames = swapped w.frames w.swap; swap = w.swap }
farther w _ = w

abbrev pub through : Way → List Line → Way
through w [] = w
through w (l ∷ ls) = through (farther w l.instr) ls

-- ---- when a wait is one for the next day

-- so far on a way from a test, these instructions lead to a wait for a time of day, and it takes so long that it comes
-- too late where the test is passed in the frame `first` of the window, or in a later one of it
pub record IsTrapped (passage : Passage) (way : Way) (lines : List Line) (t : DayTrap) : Type 0 where
  pub between : List Line
  pub last : Line
  pub behind : List Line
  pub is : lines ≡ between ++ last ∷ behind
  pub leads : AllByRecursion (λ l. leads_on l.instr ≡ true) between
  pub ends : leads_on last.instr ≡ false
  pub waits : time_at last.instr ≡ Some t.until
  pub at : last.number ≡ t.line
  pub window : t.passage ≡ passage
  pub takes : through way between ≡ t.way
  pub first : t.first ≡ (passage.from + first_late passage.from t.way.frames t.until) % FRAMES_A_DAY
  pub late : nat_lt (first_late passage.from t.way.frames t.until) (frames_until passage.from passage.to) ≡ true

-- a test of the time of day in this line leads there: within its window to what is behind it, else to its target
abbrev pub Leads : List Line → ℕ → Instr → List Line → DayTrap → Type 0
Leads code line (TestTime from to target) behind t =
    IsTrapped (record { line = line; from = from; to = to }) (new_way from) behind t
    ⊎ IsTrapped (record { line = line; from = to; to = from }) (new_way to) (drop target code) t
Leads code line _ behind t = ⊥

pub record HasTrap (code : List Line) (t : DayTrap) : Type 0 where
  pub front : List Line
  pub test : Line
  pub behind : List Line
  pub is : code ≡ front ++ test ∷ behind
  pub leads : Leads code test.number test.instr behind t

-- ---- as a list

abbrev pub trap_of : Passage → Way → ℕ → Option ℕ → Option DayTrap
trap_of p w line None = None
trap_of p w line (Some until) =
    if nat_lt (first_late p.from w.frames until) (frames_until p.from p.to)
    then Some (record {
      line = line;
      until = until;
      passage = p;
      first = (p.from + first_late p.from w.frames until) % FRAMES_A_DAY;
      way = w;
    })
    else None

abbrev pub trap_ahead : Passage → Way → List Line → Option DayTrap
trap_ahead p w [] = None
trap_ahead p w (l ∷ ls) =
    if leads_on l.instr then trap_ahead p (farther w l.instr) ls else trap_of p w l.number (time_at l.instr)

abbrev pub listed : Option DayTrap → List Warning
listed None = []
listed (Some t) = Trapped t ∷ []

abbrev pub at_window : Passage → List Line → List Warning
at_window p lines = listed (trap_ahead p (new_way p.from) lines)

abbrev pub at_instr : List Line → ℕ → Instr → List Line → List Warning
at_instr code line (TestTime from to target) behind =
    at_window (record { line = line; from = from; to = to }) behind
    ++ at_window (record { line = line; from = to; to = from }) (drop target code)
at_instr code line _ behind = []

abbrev pub at_test : List Line → Line → List Line → List Warning
at_test code l behind = at_instr code l.number l.instr behind

abbrev pub traps_from : List Line → List Line → List Warning
traps_from code [] = []
traps_from code (l ∷ ls) = at_test code l ls ++ traps_from code ls

abbrev pub traps : List Line → List Warning
traps code = traps_from code code
