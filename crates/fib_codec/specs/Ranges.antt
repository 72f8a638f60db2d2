-- Entries whose fields are within their bits, as every `Entry` in code is.
use Rattle.std.specs.Prelude.{◌<◌, ◌≤◌, ◌↔◌, IsSome, IfSome, length}
use Rattle.mux_types.specs.Entries.{EnsembleInformation}
use Rattle.mux_types.specs.Configuration.{IsSid}
use Rattle.std.specs.List.{AllByRecursion}
use Rattle.mux_types.specs.declared.limits.TheConstants.{COUNTS}
use Rattle.mux_types.specs.declared.entry.Entry.{Entry}
use Rattle.mux_types.specs.declared.entry.Entry.TheVariants.{Ensemble as EnsembleOf, Sub as SubOf, Short as ShortOf}
use Rattle.mux_types.specs.declared.entry.Entry.TheVariants.{Service as ServiceOf, Packet as PacketOf}
use Rattle.mux_types.specs.declared.entry.SubEntry.{SubEntry}
use Rattle.mux_types.specs.declared.entry.ShortEntry.{ShortEntry}
use Rattle.mux_types.specs.declared.entry.ServiceEntry.{ServiceEntry}
use Rattle.mux_types.specs.declared.entry.PacketEntry.{PacketEntry}
use Rattle.mux_types.specs.declared.entry.ComponentEntry.{ComponentEntry}
use Rattle.mux_types.specs.declared.entry.ComponentEntry.TheVariants.{Sound, Stream, Other, Packet}

-- the change flags are two bits, the CIF count is below 5000, and there is an occurrence change exactly if a flag is
-- set (EN 300 401 clause 6.4)
pub record IsEnsembleInformation (e : EnsembleInformation) : Type 0 where
  pub eid : e.eid < 65536
  pub change : e.change < 4
  pub count : e.count < COUNTS
  pub flagged : IsSome e.occurrence ↔ (0 < e.change)
  pub occurrence : IfSome e.occurrence (λ low. low < 256)

pub record IsSubEntry (s : SubEntry) : Type 0 where
  pub id : s.id < 64
  pub start : s.start < 1024
  pub option : s.option < 8
  pub level : s.level < 4
  pub size : s.size < 1024

pub record IsShortEntry (s : ShortEntry) : Type 0 where
  pub id : s.id < 64
  pub start : s.start < 1024
  pub table : s.table < 64

abbrev pub IsComponentEntry : ComponentEntry → Type 0
IsComponentEntry (Sound ty sub primary ca) = (ty < 64) × (sub < 64)
IsComponentEntry (Stream ty sub primary ca) = (ty < 64) × (sub < 64)
IsComponentEntry (Other bits) = bits < 16384
IsComponentEntry (Packet scid primary ca) = scid < 4096

pub record IsServiceEntry (s : ServiceEntry) : Type 0 where
  pub sid : IsSid s.sid
  pub ca_id : s.ca_id < 8
  pub few : length s.components ≤ 15
  pub components : AllByRecursion IsComponentEntry s.components

pub record IsPacketEntry (p : PacketEntry) : Type 0 where
  pub scid : p.scid < 4096
  pub rfa : p.rfa < 8
  pub ty : p.ty < 64
  pub sub : p.sub < 64
  pub address : p.address < 1024
  pub ca_org : IfSome p.ca_org (λ org. org < 65536)

abbrev pub IsWithin : Entry → Type 0
IsWithin (EnsembleOf e) = IsEnsembleInformation e
IsWithin (SubOf s) = IsSubEntry s
IsWithin (ShortOf s) = IsShortEntry s
IsWithin (ServiceOf s) = IsServiceEntry s
IsWithin (PacketOf p) = IsPacketEntry p
