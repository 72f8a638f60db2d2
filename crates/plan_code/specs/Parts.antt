-- The formats of a label, of an instruction and of a line: the fields of each in order, with their ranges.
use Rattle.std.specs.Prelude.{ℕ, zero, suc, ◌-◌, ◌==◌, if◌then◌else◌, Bool, true, false, List, [], ◌∷◌, ◌++◌, Option}
use Rattle.std.specs.Prelude.{Some, None, ok_or, Ok}
use Rattle.std.specs.Int.{w32, to_be_bytes}
use Rattle.mux_config.specs.FieldReading.{Reads, ◌>>=◌, place, byte_at, number_at, judged}
use Rattle.mux_config.specs.FieldSpelling.{u16_bytes}
use Rattle.mux_config.specs.declared.record.RecordFault.TheVariants.{Field}
use Rattle.mux_types.specs.declared.parts.Sub.{Sub}
use Rattle.mux_types.specs.declared.parts.Carrier.{Carrier}
use Rattle.mux_types.specs.declared.parts.Carrier.TheVariants.{Sub as BySub, Packet as ByPacket}
use Rattle.mux_types.specs.declared.parts.Packet.{Packet}
use Rattle.mux_config.specs.declared.edit.Edit.{Edit}
use Rattle.mux_config.specs.declared.edit.Edit.TheVariants.{AddSub, DropSub, MoveSub, RateSub, AddService, DropService}
use Rattle.mux_config.specs.declared.edit.Edit.TheVariants.{AddComponent, DropComponent, AddPacket, DropPacket}
use Rattle.plan_code.specs.declared.limits.TheConstants.{LONGEST_DELAY, CONTACTS, COUNTERS, FRAMES_A_DAY}
use Rattle.plan_code.specs.declared.flags.Contacts.{Contacts}
use Rattle.plan_code.specs.declared.label.Label.{Label}
use Rattle.plan_code.specs.declared.label.Swap.{Swap}
use Rattle.plan_code.specs.declared.label.Swap.TheVariants.{Idle, Within, Perhaps}
use Rattle.plan_code.specs.declared.instr.Instr.{Instr}
use Rattle.plan_code.specs.declared.instr.Instr.TheVariants.{Wait, Until, WaitContact, WaitAny, CommitIn, CommitAt}
use Rattle.plan_code.specs.declared.instr.Instr.TheVariants.{Join, Settle, End, Edit as Edits, Test, TestTime, Jump}
use Rattle.plan_code.specs.declared.instr.Instr.TheVariants.{Set, Loop}
use Rattle.plan_code.specs.declared.instr.Line.{Line}
use Rattle.plan_code.specs.declared.opcode.Opcode.{Opcode}
use Rattle.plan_code.specs.Opcodes.{opcode_byte, opcode_of}
use Rattle.plan_code.specs.Formats.{Format, follows, ◌▸◌, mapped, Kind, kind, tagged_at, nothing, any_byte, byte_from}
use Rattle.plan_code.specs.Formats.{any_u16, number_from, u16_from, flag, protection, sid, component}

-- ---- labels

-- the least and the greatest number of frames until a swap that is pending
abbrev pub bounds : Format (ℕ × ℕ)
bounds = follows (u16_from 1 65535) (λ low. u16_from low 65535)

-- where there is no bound
abbrev pub no_bound : Format (Unit {0})
no_bound = mapped (λ _. tt) (λ _. 0) (u16_from 0 0)

-- the kind of a swap, by its number
abbrev pub swap_kind : ℕ → Kind Swap
swap_kind zero = kind (no_bound ▸ no_bound) (λ _. Idle)
swap_kind (suc zero) = kind bounds (λ b. Within b.0 b.1)
swap_kind (suc (suc more)) = kind (no_bound ▸ u16_from 1 65535) (λ b. Perhaps b.1)

abbrev pub swap_bytes : Swap → List ℕ
swap_bytes Idle = 0 ∷ u16_bytes 0 ++ u16_bytes 0
swap_bytes (Within lo hi) = 1 ∷ u16_bytes lo ++ u16_bytes hi
swap_bytes (Perhaps hi) = 2 ∷ u16_bytes 0 ++ u16_bytes hi

unfoldable pub swap : Format Swap
swap = record { read = tagged_at (byte_from 0 2) swap_kind; spell = swap_bytes }

-- a label with a pc of at least `low`, with this many configurations in the table
unfoldable pub label : (count low : ℕ) → Format Label
label count low =
    mapped (λ x. record {
      pc = x.0.0.0.0.0;
      cur = x.0.0.0.0.1;
      next = x.0.0.0.1;
      pending = x.0.0.1;
      counters = record { 0 = x.0.1 };
      cost = x.1;
    })
    (λ l. (((((l.pc, l.cur), l.next), l.pending), l.counters.0), l.cost))
    (u16_from low 65535 ▸ u16_from 0 (count - 1) ▸ u16_from 0 (count - 1) ▸ swap ▸ any_byte ▸ byte_from 1 255)

-- its bytes depend on none of these numbers
abbrev pub label_bytes : Label → List ℕ
label_bytes l = (label 1 0).spell l

abbrev pub label_from : (total count low : ℕ) → List ℕ → Reads Label
label_from total count low bytes = (label count low).read total bytes

-- ---- operands

abbrev pub contact : Format ℕ
contact = byte_from 0 (CONTACTS - 1)

abbrev pub counter : Format ℕ
counter = byte_from 0 (COUNTERS - 1)

abbrev pub contacts : Format Contacts
contacts = mapped (λ n. record { 0 = n }) (λ set. set.0) any_u16

abbrev pub sub_id : Format ℕ
sub_id = byte_from 0 63

abbrev pub scid : Format ℕ
scid = u16_from 0 4095

abbrev pub start_address : Format ℕ
start_address = u16_from 0 1023

-- how many frames, or times: 1 or more
abbrev pub times : Format ℕ
times = u16_from 1 65535

abbrev pub delay : Format ℕ
delay = u16_from 1 LONGEST_DELAY

abbrev pub day_frame : Format ℕ
day_frame = number_from w32 0 (FRAMES_A_DAY - 1)

-- the number that is written where a wait has no frame of the day
abbrev pub no_day_frame : ℕ
no_day_frame = 0xFFFFFFFF

abbrev pub day_frame_number : Option ℕ → ℕ
day_frame_number None = no_day_frame
day_frame_number (Some t) = t

-- a frame of the day, or none
abbrev pub some_or_none : (at : ℕ) → ℕ × List ℕ → (none : Bool) → Reads (Option ℕ)
some_or_none at n true = Ok (None, n.1)
some_or_none at n false = judged at 0 (FRAMES_A_DAY - 1) n >>= λ frame. Ok (Some frame.0, frame.1)

abbrev pub day_frame_or_none : Format (Option ℕ)
day_frame_or_none = record {
  read = λ total bytes. number_at w32 bytes >>= λ n. some_or_none (place total bytes) n (n.0 == no_day_frame);
  spell = λ frame. to_be_bytes w32 (day_frame_number frame);
}

-- a number of frames, or none, written as 0
abbrev pub frames_number : Option ℕ → ℕ
frames_number None = 0
frames_number (Some n) = n

abbrev pub some_number : ℕ → Option ℕ
some_number n = if n == 0 then None else Some n

abbrev pub frames_or_none : Format (Option ℕ)
frames_or_none = mapped some_number frames_number any_u16

unfoldable pub new_sub : Format Sub
new_sub =
    mapped (λ x. record { id = x.0.0.0; start = x.0.0.1; protection = x.0.1; kbits = x.1 })
    (λ s. (((s.id, s.start), s.protection), s.kbits))
    (sub_id ▸ start_address ▸ protection ▸ any_u16)

unfoldable pub new_packet : Format Packet
new_packet =
    mapped (λ x. record { scid = x.0.0.0.0; dg = x.0.0.0.1; ty = x.0.0.1; sub = x.0.1; address = x.1 })
    (λ p. ((((p.scid, p.dg), p.ty), p.sub), p.address))
    (scid ▸ flag ▸ byte_from 0 63 ▸ sub_id ▸ any_u16)

-- a carrier by its number: the identifier of a sub-channel has two bytes here
abbrev pub carrier_kind : ℕ → Kind Carrier
carrier_kind zero = kind (u16_from 0 63) BySub
carrier_kind (suc more) = kind scid ByPacket

abbrev pub carrier_bytes : Carrier → List ℕ
carrier_bytes (BySub id) = 0 ∷ u16_bytes id
carrier_bytes (ByPacket scid) = 1 ∷ u16_bytes scid

unfoldable pub carrier : Format Carrier
carrier = record { read = tagged_at (byte_from 0 1) carrier_kind; spell = carrier_bytes }

-- ---- instructions

-- the operands of an instruction, in order, by its opcode
abbrev pub instr_kind : Opcode → Kind Instr
instr_kind Opcode.Wait = kind times Wait
instr_kind Opcode.Until = kind day_frame Until
instr_kind Opcode.WaitContact = kind (contact ▸ flag) (λ x. WaitContact x.0 x.1)
instr_kind Opcode.CommitIn = kind delay CommitIn
instr_kind Opcode.CommitAt = kind any_u16 CommitAt
instr_kind Opcode.Join = kind nothing (λ _. Join)
instr_kind Opcode.End = kind nothing (λ _. End)
instr_kind Opcode.Settle = kind nothing (λ _. Settle)
instr_kind Opcode.WaitAny = kind (contacts ▸ contacts ▸ day_frame_or_none ▸ frames_or_none)
    (λ x. WaitAny x.0.0.0 x.0.0.1 x.0.1 x.1)
instr_kind Opcode.AddSub = kind new_sub (λ s. Edits (AddSub s))
instr_kind Opcode.DropSub = kind sub_id (λ id. Edits (DropSub id))
instr_kind Opcode.MoveSub = kind (sub_id ▸ start_address) (λ x. Edits (MoveSub x.0 x.1))
instr_kind Opcode.RateSub = kind (sub_id ▸ any_u16) (λ x. Edits (RateSub x.0 x.1))
instr_kind Opcode.AddService = kind sid (λ s. Edits (AddService s))
instr_kind Opcode.DropService = kind sid (λ s. Edits (DropService s))
instr_kind Opcode.AddComponent = kind (sid ▸ component) (λ x. Edits (AddComponent x.0 x.1))
instr_kind Opcode.DropComponent = kind (sid ▸ carrier) (λ x. Edits (DropComponent x.0 x.1))
instr_kind Opcode.AddPacket = kind new_packet (λ p. Edits (AddPacket p))
instr_kind Opcode.DropPacket = kind scid (λ id. Edits (DropPacket id))
instr_kind Opcode.Test = kind (contact ▸ any_u16) (λ x. Test x.0 x.1)
instr_kind Opcode.Jump = kind any_u16 Jump
instr_kind Opcode.Set = kind (counter ▸ times) (λ x. Set x.0 x.1)
instr_kind Opcode.Loop = kind (counter ▸ any_u16) (λ x. Loop x.0 x.1)
instr_kind Opcode.TestTime = kind (day_frame ▸ day_frame ▸ any_u16) (λ x. TestTime x.0.0 x.0.1 x.1)

abbrev pub spelled : (opcode : Opcode) → (instr_kind opcode).Parts → List ℕ
spelled opcode x = opcode_byte opcode ∷ (instr_kind opcode).format.spell x

abbrev pub edit_bytes : Edit → List ℕ
edit_bytes (AddSub s) = spelled Opcode.AddSub s
edit_bytes (DropSub id) = spelled Opcode.DropSub id
edit_bytes (MoveSub id to) = spelled Opcode.MoveSub (id, to)
edit_bytes (RateSub id kbits) = spelled Opcode.RateSub (id, kbits)
edit_bytes (AddService s) = spelled Opcode.AddService s
edit_bytes (DropService s) = spelled Opcode.DropService s
edit_bytes (AddComponent s m) = spelled Opcode.AddComponent (s, m)
edit_bytes (DropComponent s c) = spelled Opcode.DropComponent (s, c)
edit_bytes (AddPacket p) = spelled Opcode.AddPacket p
edit_bytes (DropPacket id) = spelled Opcode.DropPacket id

abbrev pub instr_bytes : Instr → List ℕ
instr_bytes (Wait n) = spelled Opcode.Wait n
instr_bytes (Until t) = spelled Opcode.Until t
instr_bytes (WaitContact c closed) = spelled Opcode.WaitContact (c, closed)
instr_bytes (WaitAny closed opened until frames) = spelled Opcode.WaitAny (((closed, opened), until), frames)
instr_bytes (CommitIn k) = spelled Opcode.CommitIn k
instr_bytes (CommitAt n) = spelled Opcode.CommitAt n
instr_bytes Join = spelled Opcode.Join tt
instr_bytes End = spelled Opcode.End tt
instr_bytes Settle = spelled Opcode.Settle tt
instr_bytes (Edits e) = edit_bytes e
instr_bytes (Test c target) = spelled Opcode.Test (c, target)
instr_bytes (Jump target) = spelled Opcode.Jump target
instr_bytes (Set r n) = spelled Opcode.Set (r, n)
instr_bytes (Loop r target) = spelled Opcode.Loop (r, target)
instr_bytes (TestTime from to target) = spelled Opcode.TestTime ((from, to), target)

abbrev pub opcode_at : (total : ℕ) → List ℕ → Reads Opcode
opcode_at total bytes = do
  byte ← byte_at bytes
  opcode ← ok_or (opcode_of byte.0) (Field (place total bytes))
  Ok (opcode, byte.1)

abbrev pub opcode : Format Opcode
opcode = record { read = opcode_at; spell = λ o. opcode_byte o ∷ [] }

-- an instruction: its opcode, and its operands
unfoldable pub instr : Format Instr
instr = record { read = tagged_at opcode instr_kind; spell = instr_bytes }

-- its source line number, and the instruction
unfoldable pub line : Format Line
line = mapped (λ x. record { number = x.0; instr = x.1 }) (λ l. (l.number, l.instr)) (any_u16 ▸ instr)
