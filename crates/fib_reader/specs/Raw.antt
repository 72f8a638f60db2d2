-- Entries of FIGs as they are sent, in bytes (EN 300 401 clauses 5.2.2.1, 6.2.1, 6.3.1, 6.3.2 and 6.4).
use Rattle.std.specs.Prelude.{◌≡◌, ◌≢◌, ℕ, ◌+◌, ◌*◌, ◌/◌, ◌%◌, ◌<◌, ◌==◌, ◌&&◌, Bool, false, if◌then◌else◌, List, []}
use Rattle.std.specs.Prelude.{get_or, map, Option, Some, None}
use Rattle.mux_types.specs.Entries.{EnsembleInformation}
use Rattle.mux_types.specs.declared.entry.Entry.{Entry}
use Rattle.fib_codec.specs.declared.head.Head.{Head}
use Rattle.fib_codec.specs.Ranges.{IsWithin}
use Rattle.fib_codec.specs.Spelling.{entry_bytes, ext_of, is_long_entry}
use Rattle.fib_codec.specs.Grammar.{Fig, Open, Other, IsEntry, IsCounted, is_next, is_long}

-- an entry as it is sent: its extension, whether it has an SId of 32 bits, and its bytes
pub record Raw : Type 0 where
  pub ext : ℕ
  pub long : Bool
  pub bytes : List ℕ

-- it is an entry of the grammar
pub record IsRaw (raw : Raw) : Type 0 where
  pub looked_into : raw.ext < 4
  pub whole : IsEntry raw.ext raw.long raw.bytes
  pub counted : raw.ext ≡ 0 → IsCounted raw.bytes
  pub no_sid : raw.ext ≢ 2 → raw.long ≡ false

-- the entry with these bytes in a FIG of this extension and P/D flag, which is for SIds alone
abbrev pub raw_of : ℕ → Bool → List ℕ → Raw
raw_of ext long bytes = record { ext = ext; long = ext == 2 && long; bytes = bytes }

-- the entries of a FIG; none if it is not parsed
abbrev pub entries_in : Fig → List Raw
entries_in (Open second es) = map (raw_of (second % 32) (is_long second)) es
entries_in (Other given) = []

-- the head of a FIG that is parsed
abbrev pub head_in : Fig → Option Head
head_in (Open second es) =
    Some (record { next = is_next second; oe = false; long = is_long second; ext = second % 32 })
head_in (Other given) = None

-- an entry encoded as it is sent
abbrev pub raw_entry : Entry → Raw
raw_entry e = record { ext = ext_of e; long = is_long_entry e; bytes = entry_bytes e }

-- this entry has that encoding
pub record IsValue (raw : Raw) (e : Entry) : Type 0 where
  pub spelled : raw ≡ raw_entry e
  pub within : IsWithin e

-- the two bytes at an offset, as a number
abbrev pub u16_at_offset : ℕ → List ℕ → ℕ
u16_at_offset place bytes = get_or bytes place 0 * 256 + get_or bytes (place + 1) 0

-- the ensemble information in an entry of FIG 0/0
abbrev pub ensemble_in : Raw → EnsembleInformation
ensemble_in raw = record {
  eid = u16_at_offset 0 raw.bytes;
  change = get_or raw.bytes 2 0 / 64;
  al = get_or raw.bytes 2 0 / 32 % 2 == 1;
  count = get_or raw.bytes 2 0 % 32 * 250 + get_or raw.bytes 3 0;
  occurrence = if get_or raw.bytes 2 0 / 64 == 0 then None else Some (get_or raw.bytes 4 0);
}
