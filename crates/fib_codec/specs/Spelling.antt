-- The encoding of entries of FIG 0/0 to 0/3 and of the FIGs of a FIB (EN 300 401 clauses 5.2.1, 5.2.2, 6.2.1, 6.3.1,
-- 6.3.2 and 6.4). Numbers are big-endian: `big_bytes n x` is the lowest n bytes of x.
use Rattle.std.specs.Prelude.{◌≡◌, ℕ, ◌+◌, ◌-◌, ◌*◌, ◌/◌, ◌%◌, ◌<◌, ◌≤◌, Bool, true, false, if◌then◌else◌, nat_lt}
use Rattle.std.specs.Prelude.{is_some, Option, Some, None, List, [], ◌∷◌, ◌++◌, length, flat_map, replicate}
use Rattle.byteorder.specs.Endian.{big_bytes}
use Rattle.mux_types.specs.Entries.{EnsembleInformation}
use Rattle.std.specs.List.{AllByRecursion}
use Rattle.mux_types.specs.Facts.{Marked}
use Rattle.mux_types.specs.declared.numbers.Sid.{Sid}
use Rattle.mux_types.specs.declared.numbers.Sid.TheVariants.{Short, Long}
use Rattle.mux_types.specs.declared.entry.Entry.{Entry}
use Rattle.mux_types.specs.declared.entry.Entry.TheVariants.{Ensemble as EnsembleOf, Sub as SubOf, Short as ShortOf}
use Rattle.mux_types.specs.declared.entry.Entry.TheVariants.{Service as ServiceOf, Packet as PacketOf}
use Rattle.mux_types.specs.declared.entry.SubEntry.{SubEntry}
use Rattle.mux_types.specs.declared.entry.ShortEntry.{ShortEntry}
use Rattle.mux_types.specs.declared.entry.ServiceEntry.{ServiceEntry}
use Rattle.mux_types.specs.declared.entry.PacketEntry.{PacketEntry}
use Rattle.mux_types.specs.declared.entry.ComponentEntry.{ComponentEntry}
use Rattle.mux_types.specs.declared.entry.ComponentEntry.TheVariants.{Sound, Stream, Other, Packet}
use Rattle.fib_codec.specs.declared.head.Head.{Head}
use Rattle.fib_codec.specs.Ranges.{IsWithin}
use Rattle.fib_codec.specs.Crc.{crc_value}

abbrev pub bit_of : Bool → ℕ
bit_of flag = if flag then 1 else 0

-- FIG 0/0: EId 16, change flags 2, Al 1, CIF count high part 5 and low part 8, occurrence change 8 if a flag is set
abbrev pub occurrence_bytes : Option ℕ → List ℕ
occurrence_bytes None = []
occurrence_bytes (Some low) = low ∷ []

abbrev pub ensemble_bytes : EnsembleInformation → List ℕ
ensemble_bytes e =
    big_bytes 2 e.eid ++ (e.change * 64 + bit_of e.al * 32 + e.count / 250) ∷ e.count % 250
    ∷ occurrence_bytes e.occurrence

-- FIG 0/1, long form: SubChId 6, start address 10, 1, option 3, protection level 2, size 10
abbrev pub sub_bytes : SubEntry → List ℕ
sub_bytes s = big_bytes 2 (s.id * 1024 + s.start) ++ big_bytes 2 (32768 + s.option * 4096 + s.level * 1024 + s.size)

-- FIG 0/1, short form: SubChId 6, start address 10, 0, table switch 1, table index 6
abbrev pub short_bytes : ShortEntry → List ℕ
short_bytes s = big_bytes 2 (s.id * 1024 + s.start) ++ (bit_of s.switch * 64 + s.table) ∷ []

-- FIG 0/2: SId 16 or 32, Rfa 1, CAId 3, number of components 4, then 16 bits for each component
abbrev pub sid_bytes : Sid → List ℕ
sid_bytes (Short n) = big_bytes 2 n
sid_bytes (Long n) = big_bytes 4 n

-- a component: TMId 2, then ASCTy or DSCTy 6 and SubChId 6, or SCId 12, then P/S 1, CA 1
abbrev pub component_u16 : ComponentEntry → ℕ
component_u16 (Sound ty sub primary ca) = ty * 256 + sub * 4 + bit_of primary * 2 + bit_of ca
component_u16 (Stream ty sub primary ca) = 16384 + ty * 256 + sub * 4 + bit_of primary * 2 + bit_of ca
component_u16 (Other bits) = 32768 + bits
component_u16 (Packet scid primary ca) = 49152 + scid * 4 + bit_of primary * 2 + bit_of ca

abbrev pub components_bytes : List ComponentEntry → List ℕ
components_bytes components = flat_map (λ c. big_bytes 2 (component_u16 c)) components

abbrev pub service_bytes : ServiceEntry → List ℕ
service_bytes s =
    sid_bytes s.sid ++ (bit_of s.rfa * 128 + s.ca_id * 16 + length s.components) ∷ components_bytes s.components

-- FIG 0/3: SCId 12, Rfa 3, CAOrg flag 1, DG flag 1, Rfu 1, DSCTy 6, SubChId 6, packet address 10, CAOrg 16 if its flag
-- is 1
abbrev pub ca_org_bytes : Option ℕ → List ℕ
ca_org_bytes None = []
ca_org_bytes (Some org) = big_bytes 2 org

abbrev pub packet_bytes : PacketEntry → List ℕ
packet_bytes p =
    big_bytes 2 (p.scid * 16 + p.rfa * 2 + bit_of (is_some p.ca_org))
    ++ (bit_of p.dg * 128 + bit_of p.rfu * 64 + p.ty) ∷ big_bytes 2 (p.sub * 1024 + p.address)
    ++ ca_org_bytes p.ca_org

abbrev pub entry_bytes : Entry → List ℕ
entry_bytes (EnsembleOf e) = ensemble_bytes e
entry_bytes (SubOf s) = sub_bytes s
entry_bytes (ShortOf s) = short_bytes s
entry_bytes (ServiceOf s) = service_bytes s
entry_bytes (PacketOf p) = packet_bytes p

-- the length of an entry in bytes
abbrev pub sid_size : Sid → ℕ
sid_size (Short n) = 2
sid_size (Long n) = 4

abbrev pub entry_size : Entry → ℕ
entry_size (EnsembleOf e) = if is_some e.occurrence then 5 else 4
entry_size (SubOf s) = 4
entry_size (ShortOf s) = 3
entry_size (ServiceOf s) = sid_size s.sid + 1 + 2 * length s.components
entry_size (PacketOf p) = if is_some p.ca_org then 7 else 5

-- the extension of an entry, and for a service the P/D flag of its SId
abbrev pub ext_of : Entry → ℕ
ext_of (EnsembleOf e) = 0
ext_of (SubOf s) = 1
ext_of (ShortOf s) = 1
ext_of (ServiceOf s) = 2
ext_of (PacketOf p) = 3

abbrev pub is_long_sid : Sid → Bool
is_long_sid (Short n) = false
is_long_sid (Long n) = true

abbrev pub is_long_entry : Entry → Bool
is_long_entry (EnsembleOf e) = false
is_long_entry (SubOf s) = false
is_long_entry (ShortOf s) = false
is_long_entry (ServiceOf s) = is_long_sid s.sid
is_long_entry (PacketOf p) = false

-- the head under which a tagged entry is sent: of this ensemble, and with P/D 1 exactly for a long SId
abbrev pub head_of : Marked → Head
head_of m = record { next = m.next; oe = false; long = is_long_entry m.entry; ext = ext_of m.entry }

-- C/N 1, OE 1, P/D 1, extension 5
abbrev pub head_byte : Head → ℕ
head_byte h = bit_of h.next * 128 + bit_of h.oe * 64 + bit_of h.long * 32 + h.ext

-- a FIG of type 0: type 3 and length 5, the head, the entries
abbrev pub entries_bytes : List Entry → List ℕ
entries_bytes entries = flat_map entry_bytes entries

abbrev pub fig_bytes : Head → List Entry → List ℕ
fig_bytes head entries = (1 + length (entries_bytes entries)) ∷ head_byte head ∷ entries_bytes entries

-- an entry is under a head of its extension, and a service under a head with the P/D flag of its SId
abbrev pub IsUnder : Head → Entry → Type 0
IsUnder head (EnsembleOf e) = head.ext ≡ 0
IsUnder head (SubOf s) = head.ext ≡ 1
IsUnder head (ShortOf s) = head.ext ≡ 1
IsUnder head (ServiceOf s) = (head.ext ≡ 2) × (head.long ≡ is_long_sid s.sid)
IsUnder head (PacketOf p) = head.ext ≡ 3

-- a FIG with entries that belong together: at least one, all under the head, and FIG 0/0 has only one
pub record IsFormed (head : Head) (entries : List Entry) : Type 0 where
  pub some : 0 < length entries
  pub under : AllByRecursion (IsUnder head) entries
  pub alone : head.ext ≡ 0 → length entries ≡ 1

-- a FIG of a FIB that is being written
pub record Written : Type 0 where
  pub head : Head
  pub entries : List Entry

-- a FIG from a program, whose entries are within their bits
pub record IsWritten (fig : Written) : Type 0 where
  pub formed : IsFormed fig.head fig.entries
  pub within : AllByRecursion IsWithin fig.entries

abbrev pub figs_bytes : List Written → List ℕ
figs_bytes figs = flat_map (λ (fig : Written). fig_bytes fig.head fig.entries) figs

-- data bytes padded to thirty: the end marker and zeros if there is room for them
abbrev pub filled : List ℕ → List ℕ
filled bytes = if nat_lt (length bytes) 30 then bytes ++ 255 ∷ replicate (29 - length bytes) 0 else bytes

-- a FIB: thirty data bytes and their CRC
abbrev pub checked : List ℕ → List ℕ
checked bytes = bytes ++ big_bytes 2 (crc_value bytes)

abbrev pub fib_bytes : List Written → List ℕ
fib_bytes figs = checked (filled (figs_bytes figs))

-- a FIG that can be appended to these data bytes: its entries belong together, and it fits in what is left
pub record FitsFig (bytes : List ℕ) (head : Head) (entries : List Entry) : Type 0 where
  pub formed : IsFormed head entries
  pub room : length bytes + length (fig_bytes head entries) ≤ 30

-- entries of one extension and, for services, one P/D flag are distinguished by their encoding
abbrev pub SpellingIdentifies : Type 0
SpellingIdentifies =
    (e f : Entry) → IsWithin e → IsWithin f → ext_of e ≡ ext_of f → is_long_entry e ≡ is_long_entry f
    → entry_bytes e ≡ entry_bytes f → e ≡ f
