-- What a plan code is: a plan, a table of configurations, a table of labels and instructions, with every field
-- within its limits.
use Rattle.std.specs.Prelude.{ℕ, ◌<◌, ◌≤◌, ◌==◌, List, length, Option, IfSome, find, slice_get, option_map}
use Rattle.mux_config.specs.Configuration.{Configuration, IsConfiguration, IsAscending, IsSid, IsComponent}
use Rattle.std.specs.List.{AllByRecursion}
use Rattle.mux_types.specs.declared.parts.Sub.{Sub}
use Rattle.mux_types.specs.declared.parts.Carrier.{Carrier}
use Rattle.mux_types.specs.declared.parts.Carrier.TheVariants.{Sub as BySub, Packet as ByPacket}
use Rattle.mux_types.specs.declared.parts.Packet.{Packet}
use Rattle.mux_config.specs.declared.edit.Edit.{Edit}
use Rattle.mux_config.specs.declared.edit.Edit.TheVariants.{AddSub, DropSub, MoveSub, RateSub, AddService, DropService}
use Rattle.mux_config.specs.declared.edit.Edit.TheVariants.{AddComponent, DropComponent, AddPacket, DropPacket}
use Rattle.plan_code.specs.declared.limits.TheConstants.{MOST_CONFIGURATIONS, MOST_LABELS, MOST_INSTRUCTIONS}
use Rattle.plan_code.specs.declared.limits.TheConstants.{LONGEST_PERIOD, SHORTEST_NOTICE, LONGEST_NOTICE, LONGEST_DELAY}
use Rattle.plan_code.specs.declared.limits.TheConstants.{CONTACTS, COUNTERS, FRAMES_A_DAY}
use Rattle.plan_code.specs.declared.flags.Contacts.{Contacts}
use Rattle.plan_code.specs.declared.plan.Plan.{Plan}
use Rattle.plan_code.specs.declared.label.Label.{Label}
use Rattle.plan_code.specs.declared.label.Swap.{Swap}
use Rattle.plan_code.specs.declared.label.Swap.TheVariants.{Idle, Within, Perhaps}
use Rattle.plan_code.specs.declared.instr.Instr.{Instr}
use Rattle.plan_code.specs.declared.instr.Instr.TheVariants.{Wait, Until, WaitContact, WaitAny, CommitIn, CommitAt}
use Rattle.plan_code.specs.declared.instr.Instr.TheVariants.{Join, Settle, End, Edit as Edits, Test, TestTime, Jump}
use Rattle.plan_code.specs.declared.instr.Instr.TheVariants.{Set, Loop}
use Rattle.plan_code.specs.declared.instr.Line.{Line}

pub record Program : Type 0 where
  pub plan : Plan
  pub configurations : List Configuration
  pub labels : List Label
  pub lines : List Line

-- the label at a pc of the code
abbrev pub label_at : Program → ℕ → Option Label
label_at p pc = find (λ l. l.pc == pc) p.labels

-- the instruction there; below, its source line number
abbrev pub instr_at : Program → ℕ → Option Instr
instr_at p pc = option_map (λ l. l.instr) (slice_get p.lines pc)

abbrev pub line_at : Program → ℕ → Option ℕ
line_at p pc = option_map (λ l. l.number) (slice_get p.lines pc)

-- ---- limits

pub record IsPlan (p : Plan) : Type 0 where
  pub ensemble : p.eid < 65536
  pub period_from : 1 ≤ p.period
  pub period_to : p.period ≤ LONGEST_PERIOD
  pub notice_from : SHORTEST_NOTICE ≤ p.notice
  pub notice_to : p.notice ≤ LONGEST_NOTICE
  pub budget_from : 1 ≤ p.budget
  pub budget_to : p.budget ≤ 255

-- the least and the greatest number of frames until a swap that is or may be pending
abbrev pub AreBounds : Swap → Type 0
AreBounds Idle = Unit {0}
AreBounds (Within lo hi) = (1 ≤ lo) × (lo ≤ hi) × (hi < 65536)
AreBounds (Perhaps hi) = (1 ≤ hi) × (hi < 65536)

-- a label, with this many configurations in the table
pub record IsLabel (count : ℕ) (l : Label) : Type 0 where
  pub place : l.pc < 65536
  pub current : l.cur < count
  pub following : l.next < count
  pub bounds : AreBounds l.pending
  pub set : l.counters.0 < 256
  pub cost_from : 1 ≤ l.cost
  pub cost_to : l.cost ≤ 255

abbrev pub label_key : Label → ℕ
label_key l = l.pc

pub record IsNewSub (s : Sub) : Type 0 where
  pub named : s.id < 64
  pub start : s.start < 1024
  pub from_one : 1 ≤ s.protection.level
  pub to_four : s.protection.level ≤ 4
  pub rate : s.kbits < 65536

abbrev pub IsCarrier : Carrier → Type 0
IsCarrier (BySub id) = id < 64
IsCarrier (ByPacket scid) = scid < 4096

pub record IsNewPacket (p : Packet) : Type 0 where
  pub named : p.scid < 4096
  pub typed : p.ty < 64
  pub carried : p.sub < 64
  pub to_last : p.address < 65536

abbrev pub IsEdit : Edit → Type 0
IsEdit (AddSub s) = IsNewSub s
IsEdit (DropSub id) = id < 64
IsEdit (MoveSub id start) = (id < 64) × (start < 1024)
IsEdit (RateSub id kbits) = (id < 64) × (kbits < 65536)
IsEdit (AddService sid) = IsSid sid
IsEdit (DropService sid) = IsSid sid
IsEdit (AddComponent sid m) = IsSid sid × IsComponent m
IsEdit (DropComponent sid carrier) = IsSid sid × IsCarrier carrier
IsEdit (AddPacket p) = IsNewPacket p
IsEdit (DropPacket scid) = scid < 4096

abbrev pub IsDayFrame : ℕ → Type 0
IsDayFrame t = t < FRAMES_A_DAY

-- a number of frames to wait
abbrev pub IsFrames : ℕ → Type 0
IsFrames n = (1 ≤ n) × (n < 65536)

-- what a wait with alternatives waits for: it may be nothing
pub record AreAlternatives (closed opened : Contacts) (until frames : Option ℕ) : Type 0 where
  pub closed_within : closed.0 < 65536
  pub opened_within : opened.0 < 65536
  pub until_within : IfSome until IsDayFrame
  pub frames_within : IfSome frames IsFrames

abbrev pub IsInstr : Instr → Type 0
IsInstr (Wait n) = IsFrames n
IsInstr (Until t) = IsDayFrame t
IsInstr (WaitContact c closed) = c < CONTACTS
IsInstr (WaitAny closed opened until frames) = AreAlternatives closed opened until frames
IsInstr (CommitIn k) = (1 ≤ k) × (k ≤ LONGEST_DELAY)
IsInstr (CommitAt n) = n < 65536
IsInstr Join = Unit {0}
IsInstr Settle = Unit {0}
IsInstr End = Unit {0}
IsInstr (Edits e) = IsEdit e
IsInstr (Test c target) = (c < CONTACTS) × (target < 65536)
IsInstr (Jump target) = target < 65536
IsInstr (Set r n) = (r < COUNTERS) × (1 ≤ n) × (n < 65536)
IsInstr (Loop r target) = (r < COUNTERS) × (target < 65536)
IsInstr (TestTime from to target) = IsDayFrame from × IsDayFrame to × (target < 65536)

pub record IsLine (l : Line) : Type 0 where
  pub numbered : l.number < 65536
  pub formed : IsInstr l.instr

pub record IsProgram (p : Program) : Type 0 where
  pub planned : IsPlan p.plan
  pub configurations_from : 1 ≤ length p.configurations
  pub configurations_to : length p.configurations ≤ MOST_CONFIGURATIONS
  pub configurations_formed : AllByRecursion IsConfiguration p.configurations
  pub labels_from : 1 ≤ length p.labels
  pub labels_to : length p.labels ≤ MOST_LABELS
  pub labels_formed : AllByRecursion (IsLabel (length p.configurations)) p.labels
  pub labels_ascend : IsAscending label_key p.labels
  pub lines_from : 1 ≤ length p.lines
  pub lines_to : length p.lines ≤ MOST_INSTRUCTIONS
  pub lines_formed : AllByRecursion IsLine p.lines
