-- The entries of FIG 0/1 to 0/3 that describe a configuration (EN 300 401 clauses 6.2.1, 6.3.1 and 6.3.2).
use Rattle.std.specs.Prelude.{◌≡◌, ℕ, ◌-◌, ◌↔◌, Bool, true, false, List, [], ◌∷◌, ◌++◌, map, None, Contains}
use Rattle.mux_eep.specs.declared.sizes.EepSet.{EepSet}
use Rattle.mux_eep.specs.declared.sizes.EepSet.TheVariants.{A, B}
use Rattle.mux_types.specs.declared.parts.Sub.{Sub}
use Rattle.mux_types.specs.declared.parts.Service.{Service}
use Rattle.mux_types.specs.declared.parts.Component.{Component}
use Rattle.mux_types.specs.declared.parts.Component.TheVariants.{Sound, Stream, Packet as InPackets}
use Rattle.mux_types.specs.declared.parts.Packet.{Packet}
use Rattle.mux_types.specs.declared.entry.Entry.{Entry}
use Rattle.mux_types.specs.declared.entry.Entry.TheVariants.{Sub as SubOf, Service as ServiceOf, Packet as PacketOf}
use Rattle.mux_types.specs.declared.entry.ComponentEntry.{ComponentEntry}
use Rattle.mux_types.specs.declared.entry.ComponentEntry.TheVariants.{Sound as SoundOf, Stream as StreamOf}
use Rattle.mux_types.specs.declared.entry.ComponentEntry.TheVariants.{Packet as PacketsOf}
use Rattle.mux_types.specs.Configuration.{Configuration, IsConfiguration, size_of_sub}

-- an entry with its C/N flag, which is true if it describes the next configuration (clause 5.2.2.1)
pub record Marked : Type 0 where
  pub next : Bool
  pub entry : Entry

-- the option of FIG 0/1 that encodes a set
abbrev pub option_of : EepSet → ℕ
option_of A = 0
option_of B = 1

abbrev pub sub_entry : Sub → Entry
sub_entry s =
    SubOf (record {
      id = s.id;
      start = s.start;
      option = option_of s.protection.set;
      level = s.protection.level - 1;
      size = size_of_sub s;
    })

-- a component, with its P/S flag; the CA flag is 0
abbrev pub component_entry : Bool → Component → ComponentEntry
component_entry primary (Sound ty sub) = SoundOf ty sub primary false
component_entry primary (Stream ty sub) = StreamOf ty sub primary false
component_entry primary (InPackets scid) = PacketsOf scid primary false

-- the first component is the primary one, and the others are secondary
abbrev pub component_entries : List Component → List ComponentEntry
component_entries [] = []
component_entries (c ∷ cs) = component_entry true c ∷ map (component_entry false) cs

abbrev pub service_entry : Service → Entry
service_entry s = ServiceOf (record {
  sid = s.sid;
  rfa = false;
  ca_id = 0;
  components = component_entries s.components;
})

abbrev pub packet_entry : Packet → Entry
packet_entry p =
    PacketOf (record {
      scid = p.scid;
      rfa = 0;
      dg = p.dg;
      rfu = false;
      ty = p.ty;
      sub = p.sub;
      address = p.address;
      ca_org = None;
    })

-- FIG 0/1 shows the sub-channel organization, FIG 0/2 and 0/3 the service organization
abbrev pub sub_entries : Configuration → List Entry
sub_entries c = map sub_entry c.subs

abbrev pub service_entries : Configuration → List Entry
service_entries c = map service_entry c.services ++ map packet_entry c.packets

abbrev pub marked : Bool → Entry → Marked
marked next e = record { next = next; entry = e }

-- the entries of a configuration, all with one C/N flag: FIG 0/1 by SubChId, FIG 0/2 by SId with the short ones
-- first, FIG 0/3 by SCId
abbrev pub facts_of : Configuration → Bool → List Marked
facts_of c next = map (marked next) (sub_entries c ++ service_entries c)

-- facts distinguish configurations
abbrev pub FactsIdentify : Type 0
FactsIdentify =
    (c d : Configuration) (next : Bool) → IsConfiguration c → IsConfiguration d
    → facts_of c next ≡ facts_of d next → c ≡ d

-- two lists have the same members
abbrev pub HaveSameMembers : {T : Type 0} → List T → List T → Type 0
HaveSameMembers {T} xs ys = (x : T) → Contains xs x ↔ Contains ys x

-- and so do the sets of facts: entries received in any order, any number of times, identify the configuration
abbrev pub FactSetsIdentify : Type 0
FactSetsIdentify =
    (c d : Configuration) (next : Bool) → IsConfiguration c → IsConfiguration d
    → HaveSameMembers (facts_of c next) (facts_of d next) → c ≡ d
