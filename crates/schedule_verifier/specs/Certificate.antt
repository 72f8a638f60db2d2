-- When a code is that of a schedule: what each of its instructions leads to in a frame, at any time of the day and with
-- any contacts.
use Rattle.std.specs.Prelude.{◌≡◌, ◌≢◌, ◌⊎◌, ℕ, zero, suc, ◌+◌, ◌<◌, Bool, true, false, if◌then◌else◌, Option, Some}
use Rattle.std.specs.Prelude.{None, slice_get}
use Rattle.mux_types.specs.Configuration.{Configuration}
use Rattle.mux_config.specs.Edits.{changed}
use Rattle.plan_code.specs.declared.limits.TheConstants.{FRAMES_A_DAY}
use Rattle.plan_code.specs.declared.flags.Contacts.{Contacts}
use Rattle.plan_code.specs.declared.label.Label.{Label}
use Rattle.plan_code.specs.declared.instr.Instr.{Instr}
use Rattle.plan_code.specs.declared.instr.Instr.TheVariants.{WaitAny, CommitIn, Join, End, Edit as Edits, Test}
use Rattle.plan_code.specs.declared.instr.Instr.TheVariants.{TestTime, Jump}
use Rattle.plan_code.specs.Flags.{is_closed, any_closed, any_open}
use Rattle.plan_code.specs.Machine.{is_in_window}
use Rattle.plan_code.specs.Program.{Program, instr_at, label_at}
use Rattle.schedule_front.specs.Tree.{Tree}
use Rattle.schedule_runs.specs.Due.{due}

-- ---- the tops of a code: where it begins, and where it goes on when a wait is over

-- the label at a pc names this configuration
pub record Names (code : Program) (pc : ℕ) (c : Configuration) : Type 0 where
  pub label : Label
  pub there : label_at code pc ≡ Some label
  pub current : slice_get code.configurations label.cur ≡ Some c

-- a wait for the swap, or one with alternatives
abbrev pub is_rest : Option Instr → Bool
is_rest (Some Join) = true
is_rest (Some (WaitAny closed opened until frames)) = true
is_rest _ = false

-- the code waits at a pc, and goes on at the other one
pub record ReturnsFrom (code : Program) (pc to : ℕ) : Type 0 where
  pub rests : is_rest (instr_at code pc) ≡ true
  pub jumps : instr_at code (pc + 1) ≡ Some (Jump to)

abbrev pub IsTop : Program → ℕ → Type 0
IsTop code pc = (pc ≡ 0) ⊎ ((from : ℕ) × ReturnsFrom code from pc)

-- the instruction is a jump to a label that names this configuration
pub record GoesOn (code : Program) (pc : ℕ) (c : Configuration) : Type 0 where
  pub to : ℕ
  pub jumps : instr_at code pc ≡ Some (Jump to)
  pub names : Names code to c

-- ---- a frame in which nothing is pending

-- what a frame finds: what is on air, the contacts and the frame of the day
pub record Moment : Type 0 where
  pub schedule : Tree
  pub code : Program
  pub current : Configuration
  pub contacts : Contacts
  pub day : ℕ

-- none of the contacts to be closed is closed, and none of those to be open is open
pub record IsAway (closed opened contacts : Contacts) : Type 0 where
  pub closed_none : any_closed closed contacts ≡ false
  pub opened_none : any_open opened contacts ≡ false

-- a frame of the day that comes before the wait's one does
abbrev pub IsBefore : (day : ℕ) → (until : Option ℕ) → ℕ → Type 0
IsBefore day None later = Unit {0}
IsBefore day (Some until) later = is_in_window day until later ≡ true

-- as long as a wait lasts that begins in this frame of the day, this configuration is due
abbrev pub Keeps : Tree → Configuration → (closed opened : Contacts) → (until : Option ℕ) → ℕ → Type 0
Keeps s c closed opened until day =
    (contacts : Contacts) (later : ℕ) → later < FRAMES_A_DAY → IsAway closed opened contacts
    → IsBefore day until later → due s contacts later ≡ c

-- a wait that begins in this frame of the day does not end in it, and while it lasts this configuration is due
abbrev pub Lasts : Tree → Configuration → (closed opened : Contacts) → (until : Option ℕ) → ℕ → Type 0
Lasts s c closed opened until day = (until ≢ Some day) × Keeps s c closed opened until day

-- a wait while what is on air is due
pub record Rests (x : Moment) (pc : ℕ) (next : Configuration) (closed opened : Contacts) (until frames : Option ℕ) :
    Type 0 where
  pub same : next ≡ x.current
  pub endless : frames ≡ None
  pub away : IsAway closed opened x.contacts
  pub ahead : until ≢ Some x.day
  pub keeps : Keeps x.schedule x.current closed opened until x.day
  pub onward : GoesOn x.code (pc + 1) x.current

-- the end of a code whose current configuration is always due
pub record Stays (x : Moment) (next : Configuration) : Type 0 where
  pub same : next ≡ x.current
  pub always : (contacts : Contacts) (day : ℕ) → day < FRAMES_A_DAY → due x.schedule contacts day ≡ x.current

-- a commit of what is due, after the notice; the code waits for the swap
pub record Changes (x : Moment) (pc : ℕ) (next : Configuration) (delay : ℕ) : Type 0 where
  pub noticed : delay ≡ x.schedule.header.notice
  pub wanted : due x.schedule x.contacts x.day ≡ next
  pub joins : instr_at x.code (pc + 1) ≡ Some Join
  pub onward : GoesOn x.code (pc + 2) next

-- what an instruction leads to, given what others lead to from a next configuration
abbrev pub LeadsBy : Moment → (pc : ℕ) → (next : Configuration) → (ℕ → Configuration → Type 0) → Option Instr → Type 0
LeadsBy x pc next go (Some (Test contact target)) =
    go (if is_closed x.contacts contact then pc + 1 else target) next
LeadsBy x pc next go (Some (TestTime from to target)) =
    go (if is_in_window from to x.day then pc + 1 else target) next
LeadsBy x pc next go (Some (Jump target)) = go target next
LeadsBy x pc next go (Some (Edits edit)) = go (pc + 1) (changed edit next)
LeadsBy x pc next go (Some (CommitIn delay)) = Changes x pc next delay
LeadsBy x pc next go (Some (WaitAny closed opened until frames)) = Rests x pc next closed opened until frames
LeadsBy x pc next go (Some End) = Stays x next
LeadsBy x pc next go _ = ⊥

-- at most so many tests, jumps and edits lead from an instruction to what the schedule prescribes
abbrev pub Leads : Moment → ℕ → (pc : ℕ) → (next : Configuration) → Type 0
Leads x zero pc next = ⊥
Leads x (suc n) pc next = LeadsBy x pc next (Leads x n) (instr_at x.code pc)

-- tests, jumps and edits lead from an instruction to what the schedule prescribes
abbrev pub LeadsOn : Moment → (pc : ℕ) → (next : Configuration) → Type 0
LeadsOn x pc next = (n : ℕ) × Leads x n pc next

-- ---- certified codes

abbrev pub moment : Tree → Program → Configuration → Contacts → ℕ → Moment
moment s code c contacts day = record {
  schedule = s;
  code = code;
  current = c;
  contacts = contacts;
  day = day;
}

-- from the top, with this configuration on air, the code does what the schedule prescribes, whatever the time and the
-- contacts
abbrev pub IsKeptFrom : Tree → Program → ℕ → Configuration → Type 0
IsKeptFrom s code pc c =
    (contacts : Contacts) (day : ℕ) → day < FRAMES_A_DAY → LeadsOn (moment s code c contacts day) pc c

-- the code begins with this configuration, and does what the schedule prescribes from each top
pub record IsCertified (s : Tree) (opening : Configuration) (code : Program) : Type 0 where
  pub header : code.plan ≡ s.header
  pub first : Names code 0 opening
  pub tops : (pc : ℕ) (c : Configuration) → IsTop code pc → Names code pc c → IsKeptFrom s code pc c
