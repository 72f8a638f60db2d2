-- The ten edits of a configuration: what each changes, and why each is refused, in the order tested.
use Rattle.std.specs.Prelude.{◌≡◌, ℕ, ◌+◌, ◌<◌, ◌≤◌, ◌==◌, ◌||◌, Bool, not, if◌then◌else◌, nat_lt, nat_le, [], ◌∷◌}
use Rattle.std.specs.Prelude.{◌++◌, length, filter, Option, Some, None, Result, Ok, Err, is_err}
use Rattle.std.specs.List.{list_any}
use Rattle.mux_types.specs.declared.limits.TheConstants.{MEMBERS}
use Rattle.mux_types.specs.declared.parts.Sub.{Sub}
use Rattle.mux_types.specs.declared.parts.Service.{Service}
use Rattle.mux_types.specs.declared.parts.Component.{Component}
use Rattle.mux_types.specs.declared.parts.Carrier.{Carrier}
use Rattle.mux_types.specs.declared.parts.Packet.{Packet}
use Rattle.mux_config.specs.declared.edit.Edit.{Edit}
use Rattle.mux_config.specs.declared.edit.Edit.TheVariants.{AddSub, DropSub, MoveSub, RateSub, AddService, DropService}
use Rattle.mux_config.specs.declared.edit.Edit.TheVariants.{AddComponent, DropComponent, AddPacket, DropPacket}
use Rattle.mux_types.specs.declared.numbers.Sid.{Sid}
use Rattle.mux_config.specs.declared.fault.EditFault.{EditFault}
use Rattle.mux_config.specs.declared.fault.EditFault.TheVariants.{IdUsed, IdAbsent, TooManyComponents, TableFull}
use Rattle.mux_config.specs.declared.fault.EditFault.TheVariants.{PastEnd, BadRate, BadAddress}
use Rattle.mux_types.specs.Configuration.{Configuration, IsConfiguration, IsSid, IsComponent, sub_key, sid_key}
use Rattle.mux_types.specs.Configuration.{service_key, packet_key, size_of_sub, carrier_of, component_limit}
use Rattle.mux_types.specs.Tables.{entry_at, with_entry, without_entry, has_entry, changed_at}
use Rattle.mux_types.specs.Sameness.{names}
use Rattle.mux_eep.specs.declared.limits.TheConstants.{CAPACITY_UNITS}
use Rattle.mux_eep.specs.Sizes.{size_or_fault}

-- the members that an edit refers to
abbrev pub sub_at : ℕ → Configuration → Option Sub
sub_at id c = entry_at sub_key id c.subs

abbrev pub service_at : Sid → Configuration → Option Service
service_at sid c = entry_at service_key (sid_key sid) c.services

abbrev pub packet_at : ℕ → Configuration → Option Packet
packet_at scid c = entry_at packet_key scid c.packets

-- the fault of an edit that refers to a member: the member is absent, or there is a fault with that member
abbrev pub absent_or : {T : Type 0} → Option T → (T → Option EditFault) → Option EditFault
absent_or None fault = Some IdAbsent
absent_or (Some x) fault = fault x

-- the result of an edit: its fault, or else the changed configuration
abbrev pub outcome : Option EditFault → Configuration → Result Configuration EditFault
outcome None c = Ok c
outcome (Some fault) c = Err fault

-- ---- sub-channels

abbrev pub at_start : ℕ → Sub → Sub
at_start start s = record s { start = start }

abbrev pub at_rate : ℕ → Sub → Sub
at_rate kbits s = record s { kbits = kbits }

-- it has no size
abbrev pub has_bad_rate : Sub → Bool
has_bad_rate s = is_err (size_or_fault s.protection s.kbits)

-- it ends past the last capacity unit
abbrev pub is_past_end : Sub → Bool
is_past_end s = nat_lt CAPACITY_UNITS (s.start + size_of_sub s)

abbrev pub placing_fault : Sub → Option EditFault
placing_fault s =
    if has_bad_rate s then Some BadRate
    else if is_past_end s then Some PastEnd
    else None

abbrev pub add_sub_fault : Sub → Configuration → Option EditFault
add_sub_fault s c = if has_entry sub_key s.id c.subs then Some IdUsed else placing_fault s

abbrev pub sub_added : Sub → Configuration → Configuration
sub_added s c = record c { subs = with_entry sub_key s c.subs }

abbrev pub add_sub : Sub → Configuration → Result Configuration EditFault
add_sub s c = outcome (add_sub_fault s c) (sub_added s c)

abbrev pub drop_sub_fault : ℕ → Configuration → Option EditFault
drop_sub_fault id c = absent_or (sub_at id c) (λ s. None)

abbrev pub sub_dropped : ℕ → Configuration → Configuration
sub_dropped id c = record c { subs = without_entry sub_key id c.subs }

abbrev pub drop_sub : ℕ → Configuration → Result Configuration EditFault
drop_sub id c = outcome (drop_sub_fault id c) (sub_dropped id c)

abbrev pub move_sub_fault : ℕ → ℕ → Configuration → Option EditFault
move_sub_fault id start c =
    absent_or (sub_at id c) (λ s. if is_past_end (at_start start s) then Some PastEnd else None)

abbrev pub sub_moved : ℕ → ℕ → Configuration → Configuration
sub_moved id start c = record c { subs = changed_at sub_key id (at_start start) c.subs }

abbrev pub move_sub : ℕ → ℕ → Configuration → Result Configuration EditFault
move_sub id start c = outcome (move_sub_fault id start c) (sub_moved id start c)

abbrev pub rate_sub_fault : ℕ → ℕ → Configuration → Option EditFault
rate_sub_fault id kbits c = absent_or (sub_at id c) (λ s. placing_fault (at_rate kbits s))

abbrev pub sub_rated : ℕ → ℕ → Configuration → Configuration
sub_rated id kbits c = record c { subs = changed_at sub_key id (at_rate kbits) c.subs }

abbrev pub rate_sub : ℕ → ℕ → Configuration → Result Configuration EditFault
rate_sub id kbits c = outcome (rate_sub_fault id kbits c) (sub_rated id kbits c)

-- ---- services

abbrev pub add_service_fault : Sid → Configuration → Option EditFault
add_service_fault sid c =
    if has_entry service_key (sid_key sid) c.services then Some IdUsed
    else if nat_le MEMBERS (length c.services) then Some TableFull
    else None

abbrev pub service_added : Sid → Configuration → Configuration
service_added sid c =
    let fresh : Service = record { sid = sid; components = [] } in
    record c { services = with_entry service_key fresh c.services }

abbrev pub add_service : Sid → Configuration → Result Configuration EditFault
add_service sid c = outcome (add_service_fault sid c) (service_added sid c)

abbrev pub drop_service_fault : Sid → Configuration → Option EditFault
drop_service_fault sid c = absent_or (service_at sid c) (λ s. None)

abbrev pub service_dropped : Sid → Configuration → Configuration
service_dropped sid c = record c { services = without_entry service_key (sid_key sid) c.services }

abbrev pub drop_service : Sid → Configuration → Result Configuration EditFault
drop_service sid c = outcome (drop_service_fault sid c) (service_dropped sid c)

-- ---- components of a service

abbrev pub with_component : Component → Service → Service
with_component m s = record s { components = s.components ++ m ∷ [] }

abbrev pub without_carrier : Carrier → Service → Service
without_carrier carrier s = record s { components = filter (λ m. not (names carrier m)) s.components }

abbrev pub component_fault : Component → Service → Option EditFault
component_fault m s =
    if list_any (names (carrier_of m)) s.components then Some IdUsed
    else if nat_le (component_limit s.sid) (length s.components) then Some TooManyComponents
    else None

abbrev pub add_component_fault : Sid → Component → Configuration → Option EditFault
add_component_fault sid m c = absent_or (service_at sid c) (component_fault m)

abbrev pub component_added : Sid → Component → Configuration → Configuration
component_added sid m c = record c { services = changed_at service_key (sid_key sid) (with_component m) c.services }

abbrev pub add_component : Sid → Component → Configuration → Result Configuration EditFault
add_component sid m c = outcome (add_component_fault sid m c) (component_added sid m c)

abbrev pub drop_component_fault : Sid → Carrier → Configuration → Option EditFault
drop_component_fault sid carrier c =
    absent_or (service_at sid c) (λ s. if list_any (names carrier) s.components then None else Some IdAbsent)

abbrev pub component_dropped : Sid → Carrier → Configuration → Configuration
component_dropped sid carrier c =
    record c { services = changed_at service_key (sid_key sid) (without_carrier carrier) c.services }

abbrev pub drop_component : Sid → Carrier → Configuration → Result Configuration EditFault
drop_component sid carrier c = outcome (drop_component_fault sid carrier c) (component_dropped sid carrier c)

-- ---- packet components

abbrev pub has_bad_address : Packet → Bool
has_bad_address p = (p.address == 0) || nat_lt 1023 p.address

abbrev pub add_packet_fault : Packet → Configuration → Option EditFault
add_packet_fault p c =
    if has_entry packet_key p.scid c.packets then Some IdUsed
    else if has_bad_address p then Some BadAddress
    else if nat_le MEMBERS (length c.packets) then Some TableFull
    else None

abbrev pub packet_added : Packet → Configuration → Configuration
packet_added p c = record c { packets = with_entry packet_key p c.packets }

abbrev pub add_packet : Packet → Configuration → Result Configuration EditFault
add_packet p c = outcome (add_packet_fault p c) (packet_added p c)

abbrev pub drop_packet_fault : ℕ → Configuration → Option EditFault
drop_packet_fault scid c = absent_or (packet_at scid c) (λ p. None)

abbrev pub packet_dropped : ℕ → Configuration → Configuration
packet_dropped scid c = record c { packets = without_entry packet_key scid c.packets }

abbrev pub drop_packet : ℕ → Configuration → Result Configuration EditFault
drop_packet scid c = outcome (drop_packet_fault scid c) (packet_dropped scid c)

-- ---- an edit as a value, and the outcome of each

-- the first fault that applies
abbrev pub edit_fault : Edit → Configuration → Option EditFault
edit_fault (AddSub s) c = add_sub_fault s c
edit_fault (DropSub id) c = drop_sub_fault id c
edit_fault (MoveSub id start) c = move_sub_fault id start c
edit_fault (RateSub id kbits) c = rate_sub_fault id kbits c
edit_fault (AddService sid) c = add_service_fault sid c
edit_fault (DropService sid) c = drop_service_fault sid c
edit_fault (AddComponent sid m) c = add_component_fault sid m c
edit_fault (DropComponent sid carrier) c = drop_component_fault sid carrier c
edit_fault (AddPacket p) c = add_packet_fault p c
edit_fault (DropPacket scid) c = drop_packet_fault scid c

-- the configuration after it, if there is no fault
abbrev pub changed : Edit → Configuration → Configuration
changed (AddSub s) c = sub_added s c
changed (DropSub id) c = sub_dropped id c
changed (MoveSub id start) c = sub_moved id start c
changed (RateSub id kbits) c = sub_rated id kbits c
changed (AddService sid) c = service_added sid c
changed (DropService sid) c = service_dropped sid c
changed (AddComponent sid m) c = component_added sid m c
changed (DropComponent sid carrier) c = component_dropped sid carrier c
changed (AddPacket p) c = packet_added p c
changed (DropPacket scid) c = packet_dropped scid c

abbrev pub edited : Edit → Configuration → Result Configuration EditFault
edited e c = outcome (edit_fault e c) (changed e c)

-- a call that edits returns the result of the edit: on Ok the configuration is the edited one, and on a fault it is
-- unchanged
abbrev pub Edits : Configuration → Configuration → Result Configuration EditFault → Result (Unit {0}) EditFault → Type 0
Edits old new outcome (Ok done) = outcome ≡ Ok new
Edits old new outcome (Err fault) = (outcome ≡ Err fault) × (new ≡ old)

-- an edit that is refused changes nothing
abbrev pub RefusalsChangeNothing : Type 0
RefusalsChangeNothing =
    (old new : Configuration) (outcome : Result Configuration EditFault) (fault : EditFault)
    → Edits old new outcome (Err fault) → new ≡ old

-- ---- edits keep configurations

-- the numbers of an edit are within their bits
abbrev pub IsInRange : Edit → Type 0
IsInRange (AddSub s) = (s.id < 64) × (1 ≤ s.protection.level) × (s.protection.level ≤ 4)
IsInRange (DropSub id) = Unit {0}
IsInRange (MoveSub id start) = Unit {0}
IsInRange (RateSub id kbits) = Unit {0}
IsInRange (AddService sid) = IsSid sid
IsInRange (DropService sid) = Unit {0}
IsInRange (AddComponent sid m) = IsComponent m
IsInRange (DropComponent sid carrier) = Unit {0}
IsInRange (AddPacket p) = (p.scid < 4096) × (p.ty < 64) × (p.sub < 64)
IsInRange (DropPacket scid) = Unit {0}

abbrev pub EditsKeep : Type 0
EditsKeep =
    (e : Edit) (c : Configuration) → IsInRange e → IsConfiguration c → edit_fault e c ≡ None
    → IsConfiguration (changed e c)
