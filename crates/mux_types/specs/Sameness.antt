-- Whether two parts of configurations are the same, by tests of equality.
use Rattle.std.specs.Prelude.{◌==◌, ◌&&◌, Bool, true, false, not, List, [], ◌∷◌}
use Rattle.mux_eep.specs.declared.sizes.EepSet.{EepSet}
use Rattle.mux_eep.specs.declared.sizes.EepSet.TheVariants.{A, B}
use Rattle.mux_types.specs.declared.parts.Sub.{Sub}
use Rattle.mux_types.specs.declared.parts.Service.{Service}
use Rattle.mux_types.specs.declared.parts.Component.{Component}
use Rattle.mux_types.specs.declared.parts.Component.TheVariants.{Sound, Stream, Packet as InPackets}
use Rattle.mux_types.specs.declared.parts.Carrier.{Carrier}
use Rattle.mux_types.specs.declared.parts.Carrier.TheVariants.{Sub as BySub, Packet as ByPacket}
use Rattle.mux_types.specs.declared.parts.Packet.{Packet}
use Rattle.mux_types.specs.declared.numbers.Sid.{Sid}
use Rattle.mux_types.specs.declared.numbers.Sid.TheVariants.{Short, Long}
use Rattle.mux_types.specs.Configuration.{carrier_of}

abbrev pub is_same_flag : Bool → Bool → Bool
is_same_flag true flag = flag
is_same_flag false flag = not flag

abbrev pub is_same_list : {T : Type 0} → (T → T → Bool) → List T → List T → Bool
is_same_list same [] [] = true
is_same_list same [] (y ∷ ys) = false
is_same_list same (x ∷ xs) [] = false
is_same_list same (x ∷ xs) (y ∷ ys) = same x y && is_same_list same xs ys

abbrev pub is_same_set : EepSet → EepSet → Bool
is_same_set A A = true
is_same_set A B = false
is_same_set B A = false
is_same_set B B = true

abbrev pub is_same_sub : Sub → Sub → Bool
is_same_sub a b =
    (a.id == b.id) && (a.start == b.start) && is_same_set a.protection.set b.protection.set
    && (a.protection.level == b.protection.level) && (a.kbits == b.kbits)

abbrev pub is_same_sid : Sid → Sid → Bool
is_same_sid (Short a) (Short b) = a == b
is_same_sid (Short a) (Long b) = false
is_same_sid (Long a) (Short b) = false
is_same_sid (Long a) (Long b) = a == b

abbrev pub is_same_component : Component → Component → Bool
is_same_component (Sound ty sub) (Sound uy tub) = (ty == uy) && (sub == tub)
is_same_component (Stream ty sub) (Stream uy tub) = (ty == uy) && (sub == tub)
is_same_component (InPackets scid) (InPackets tcid) = scid == tcid
is_same_component m n = false

abbrev pub is_same_service : Service → Service → Bool
is_same_service s t = is_same_sid s.sid t.sid && is_same_list is_same_component s.components t.components

abbrev pub is_same_packet : Packet → Packet → Bool
is_same_packet p q =
    (p.scid == q.scid) && is_same_flag p.dg q.dg && (p.ty == q.ty) && (p.sub == q.sub) && (p.address == q.address)

abbrev pub is_same_carrier : Carrier → Carrier → Bool
is_same_carrier (BySub a) (BySub b) = a == b
is_same_carrier (BySub a) (ByPacket b) = false
is_same_carrier (ByPacket a) (BySub b) = false
is_same_carrier (ByPacket a) (ByPacket b) = a == b

-- whether this is the carrier of a component
abbrev pub names : Carrier → Component → Bool
names carrier m = is_same_carrier (carrier_of m) carrier
