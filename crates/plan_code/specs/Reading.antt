-- Reading a code file in order, up to the first fault.
use Rattle.std.specs.Prelude.{◌≡◌, ℕ, zero, suc, ◌+◌, ◌-◌, ◌==◌, nat_lt, if◌then◌else◌, List, [], ◌∷◌, ◌++◌, length}
use Rattle.std.specs.Prelude.{Bool, not, Result, Ok, Err}
use Rattle.std.specs.Int.{w16, w32}
use Rattle.fib_codec.specs.declared.modes.Mode.{Mode}
use Rattle.fib_codec.specs.declared.modes.Mode.TheVariants.{I, II, III, IV}
use Rattle.fib_codec.specs.Modes.{fib_count}
use Rattle.fib_codec.specs.declared.frame_layout.FrameLayout.{FrameLayout}
use Rattle.fib_codec.specs.declared.frame_layout.FrameLayout.TheVariants.{Whole, ReserveOne, ReserveTwo}
use Rattle.mux_config.specs.Configuration.{Configuration}
use Rattle.mux_config.specs.FieldReading.{Unread, place, byte_at, number_at, byte_within}
use Rattle.mux_config.specs.Reading.{config_at, members_at}
use Rattle.mux_config.specs.declared.record.RecordFault.{RecordFault}
use Rattle.mux_config.specs.declared.record.RecordFault.TheVariants.{Short, Field as FieldOfRecord, Order}
use Rattle.plan_code.specs.declared.fault.CodeFault.{CodeFault}
use Rattle.plan_code.specs.declared.fault.CodeFault.TheVariants.{Magic, Version, Truncated, Field, Limit, Trailing}
use Rattle.plan_code.specs.declared.fault.CodeFault.TheVariants.{Memory}
use Rattle.plan_code.specs.declared.instr.Line.{Line}
use Rattle.plan_code.specs.declared.label.Label.{Label}
use Rattle.plan_code.specs.declared.plan.Plan.{Plan}
use Rattle.plan_code.specs.Program.{Program, label_key}
use Rattle.plan_code.specs.Spelling.{magic, plan_after}
use Rattle.plan_code.specs.Parts.{label_from, line}

-- a value and the bytes after it, or the first fault
abbrev pub Parses : Type 0 → Type 0
Parses T = Result (T × List ℕ) CodeFault

-- one reading after the other
infixl 10 ◌>>=◌
abbrev pub ◌>>=◌ : {A B : Type 0} → Result A CodeFault → (A → Result B CodeFault) → Result B CodeFault
(Ok x) >>= f = f x
(Err e) >>= f = Err e

abbrev pub refuse_code : Bool → CodeFault → Result (Unit {0}) CodeFault
refuse_code test fault = if test then Err fault else Ok tt

-- the fault of a part that begins at `start`: the offsets of its fields are counted from there, and an identifier
-- out of order is a fault of the whole part
abbrev pub fault_from : (start : ℕ) → RecordFault → CodeFault
fault_from start Short = Truncated
fault_from start (FieldOfRecord at) = Field (start + at)
fault_from start Order = Field start

abbrev pub read_from : {T : Type 0} → (start : ℕ) → Result T RecordFault → Result T CodeFault
read_from start (Ok x) = Ok x
read_from start (Err e) = Err (fault_from start e)

-- fields whose offsets are counted from the first byte of the file
abbrev pub in_file : {T : Type 0} → Result T RecordFault → Result T CodeFault
in_file read = read_from 0 read

-- ---- what calls return

-- out of memory may be returned at any point; every other fault is the first one of the bytes
abbrev pub Fails : {Y : Type 0} → CodeFault → Result Y CodeFault → Type 0
Fails Memory read = Unit {0}
Fails fault read = read ≡ Err fault

-- a result, under `view`, is what reading gives
abbrev pub Gives : {X Y : Type 0} → (X → Y) → Result X CodeFault → Result Y CodeFault → Type 0
Gives view (Ok x) read = read ≡ Ok (view x)
Gives view (Err fault) read = Fails fault read

-- a result, under `view`, and the remaining bytes are what reading gives
abbrev pub GivesNext : {X Y : Type 0} → (X → Y) → Result X CodeFault → Unread → Parses Y → Type 0
GivesNext view (Ok x) left read = read ≡ Ok (view x, left.rest)
GivesNext view (Err fault) left read = Fails fault read

-- ---- the header

abbrev pub magic_at : List ℕ → Parses ℕ
magic_at bytes = do
  letters ← in_file (number_at w32 bytes)
  known ← refuse_code (not (letters.0 == magic)) Magic
  Ok letters

-- the modes by their numbers
abbrev pub mode_of : ℕ → Mode
mode_of number = if number == 1 then I else if number == 2 then II else if number == 3 then III else IV

-- the layout with a reserve of 1, or of 2, which only mode III has
abbrev pub reserving : Mode → ℕ → FrameLayout
reserving mode reserve = if reserve == 2 then ReserveTwo else ReserveOne mode

-- the mode and the reserve in a file of version 3: two FIBs of a frame at least are not reserved
unfoldable pub reserving_at : (total : ℕ) → List ℕ → Parses FrameLayout
reserving_at total bytes = do
  number ← in_file (byte_within total 1 4 bytes)
  reserve ← in_file (byte_within total 1 (fib_count (mode_of number.0) - 2) number.1)
  Ok (reserving (mode_of number.0) reserve.0, reserve.1)

-- the layout in a file of this version
abbrev pub layout_in : (total version : ℕ) → List ℕ → Parses FrameLayout
layout_in total version bytes =
    if version == 1 then Ok (Whole I, bytes)
    else if version == 2 then (in_file (byte_within total 2 4 bytes)
    >>= λ number. Ok (Whole (mode_of number.0), number.1))
    else if version == 3 then reserving_at total bytes
    else Err Version

unfoldable pub layout_at : (total : ℕ) → List ℕ → Parses FrameLayout
layout_at total bytes = do
  version ← in_file (byte_at bytes)
  layout_in total version.0 version.1

unfoldable pub plan_at : (total : ℕ) → List ℕ → Parses Plan
plan_at total bytes = do
  layout ← layout_at total bytes
  in_file ((plan_after layout.0).read total layout.1)

-- the number of entries of a table: at least one, at most `limit`
abbrev pub count_at : (total limit : ℕ) → List ℕ → Parses ℕ
count_at total limit bytes = do
  number ← in_file (number_at w16 bytes)
  some ← refuse_code (number.0 == 0) (Field (place total bytes))
  few ← refuse_code (nat_lt limit number.0) Limit
  Ok number

pub record Header : Type 0 where
  pub plan : Plan
  -- the number of entries of each table
  pub configurations : ℕ
  pub labels : ℕ
  pub lines : ℕ

unfoldable pub header_at : (total : ℕ) → List ℕ → Parses Header
header_at total bytes = do
  letters ← magic_at bytes
  plan ← plan_at total letters.1
  configurations ← count_at total 256 plan.1
  labels ← count_at total 1024 configurations.1
  lines ← count_at total 4096 labels.1
  Ok (record { plan = plan.0; configurations = configurations.0; labels = labels.0; lines = lines.0 }, lines.1)

-- ---- the tables

abbrev pub config_in : (total : ℕ) → List ℕ → Parses Configuration
config_in total bytes = read_from (place total bytes) (config_at bytes)

abbrev pub line_in : (total : ℕ) → List ℕ → Parses Line
line_in total bytes = in_file (line.read total bytes)

-- `count` more items after those in `before`
unfoldable pub items_at : {T : Type 0} → (item_at : List ℕ → Parses T) → (before : List T) → (count : ℕ) → List ℕ
    → Parses (List T)
items_at item_at before zero bytes = Ok (before, bytes)
items_at item_at before (suc count) bytes = do
  item ← item_at bytes
  items_at item_at (before ++ item.0 ∷ []) count item.1

abbrev pub labels_in : (total configurations count : ℕ) → List ℕ → Parses (List Label)
labels_in total configurations count bytes =
    in_file (members_at label_key (label_from total configurations) 0 [] count bytes)

unfoldable pub program_at : (total : ℕ) → Header → List ℕ → Parses Program
program_at total header bytes = do
  configurations ← items_at (config_in total) [] header.configurations bytes
  labels ← labels_in total header.configurations header.labels configurations.1
  lines ← items_at (line_in total) [] header.lines labels.1
  Ok (record { plan = header.plan; configurations = configurations.0; labels = labels.0; lines = lines.0 }, lines.1)

-- the code whose file these bytes are, all of them
unfoldable pub code_of : List ℕ → Result Program CodeFault
code_of bytes = do
  header ← header_at (length bytes) bytes
  program ← program_at (length bytes) header.0 header.1
  ended ← refuse_code (not (length program.1 == 0)) Trailing
  Ok program.0
