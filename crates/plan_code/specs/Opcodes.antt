-- The opcodes: the first byte of each instruction.
use Rattle.std.specs.Prelude.{◌≡◌, ℕ, ◌==◌, List, [], ◌∷◌, Option, Some, find}
use Rattle.plan_code.specs.declared.opcode.Opcode.{Opcode}
use Rattle.plan_code.specs.declared.opcode.Opcode.TheVariants.{Wait, Until, WaitContact, CommitIn, CommitAt, Join, End}
use Rattle.plan_code.specs.declared.opcode.Opcode.TheVariants.{Settle, WaitAny, AddSub, DropSub, MoveSub, RateSub}
use Rattle.plan_code.specs.declared.opcode.Opcode.TheVariants.{AddService, DropService, AddComponent, DropComponent}
use Rattle.plan_code.specs.declared.opcode.Opcode.TheVariants.{AddPacket, DropPacket, Test, Jump, Set, Loop, TestTime}

abbrev pub opcode_byte : Opcode → ℕ
opcode_byte Wait = 0x01
opcode_byte Until = 0x02
opcode_byte WaitContact = 0x03
opcode_byte CommitIn = 0x04
opcode_byte CommitAt = 0x05
opcode_byte Join = 0x06
opcode_byte End = 0x07
opcode_byte Settle = 0x08
opcode_byte WaitAny = 0x09
opcode_byte AddSub = 0x10
opcode_byte DropSub = 0x11
opcode_byte MoveSub = 0x12
opcode_byte RateSub = 0x13
opcode_byte AddService = 0x14
opcode_byte DropService = 0x15
opcode_byte AddComponent = 0x16
opcode_byte DropComponent = 0x17
opcode_byte AddPacket = 0x18
opcode_byte DropPacket = 0x19
opcode_byte Test = 0x20
opcode_byte Jump = 0x21
opcode_byte Set = 0x22
opcode_byte Loop = 0x23
opcode_byte TestTime = 0x24

abbrev pub opcodes : List Opcode
opcodes = Wait ∷ Until ∷ WaitContact ∷ CommitIn ∷ CommitAt ∷ Join ∷ End ∷ Settle ∷ WaitAny
    ∷ AddSub ∷ DropSub ∷ MoveSub ∷ RateSub ∷ AddService ∷ DropService ∷ AddComponent ∷ DropComponent ∷ AddPacket
    ∷ DropPacket
    ∷ Test ∷ Jump ∷ Set ∷ Loop ∷ TestTime ∷ []

-- the opcode of a byte; any other byte has none
unfoldable pub opcode_of : ℕ → Option Opcode
opcode_of byte = find (λ opcode. byte == opcode_byte opcode) opcodes

-- opcodes and their bytes determine each other
pub record OpcodesAgree : Type 0 where
  pub again : (opcode : Opcode) → opcode_of (opcode_byte opcode) ≡ Some opcode
  pub only : (byte : ℕ) (opcode : Opcode) → opcode_of byte ≡ Some opcode → byte ≡ opcode_byte opcode
