-- How an entry compares with those of a picture that were heard before.
use Rattle.std.specs.Prelude.{ℕ, Bool, true, false, ◌==◌, ◌&&◌, not, if◌then◌else◌, nat_lt, List, length, Option, Some}
use Rattle.std.specs.Prelude.{None, bytes_eq}
use Rattle.mux_config.specs.Tables.{entry_at}
use Rattle.fib_reader.specs.Raw.{Raw}
use Rattle.fib_reader.specs.Listening.{Pictured, identifier_of}
use Rattle.stream_check.specs.declared.heard_table.Lookup.{Lookup}
use Rattle.stream_check.specs.declared.heard_table.Lookup.TheVariants.{Same, Other, Absent, Full}

abbrev pub bool_eq : Bool → Bool → Bool
bool_eq true b = b
bool_eq false b = not b

-- two entries agree if all their bytes are the same
abbrev pub agree : Raw → Raw → Bool
agree a b = (a.ext == b.ext) && (bool_eq a.long b.long && bytes_eq a.bytes b.bytes)

abbrev pub lookup_among : Raw → ℕ → Option Raw → Lookup
lookup_among raw many None = if nat_lt many 64 then Absent else Full
lookup_among raw many (Some known) = if agree known raw then Same else Other

-- compared with the entries of its extension
abbrev pub lookup : Raw → List Raw → Lookup
lookup raw raws = lookup_among raw (length raws) (entry_at identifier_of (identifier_of raw) raws)

abbrev pub list_for : Raw → Pictured → List Raw
list_for raw p = if raw.ext == 1 then p.subs else if raw.ext == 2 then p.services else p.packets

-- compared with those of a picture
abbrev pub lookup_in : Raw → Pictured → Lookup
lookup_in raw p = lookup raw (list_for raw p)
