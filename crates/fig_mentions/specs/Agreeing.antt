-- Which FIGs agree with the entries of a configuration that a listener has.
use Rattle.std.specs.Prelude.{ℕ, ◌+◌, ◌*◌, ◌/◌, ◌%◌, ◌==◌, ◌&&◌, ◌||◌, not, nat_lt, Bool, true, false, List, length}
use Rattle.std.specs.Prelude.{if◌then◌else◌, drop, get_or, Option, Some, None}
use Rattle.std.specs.List.{list_all, list_any}
use Rattle.std.specs.Simd.{first_chunks}
use Rattle.fib_codec.specs.Grammar.{is_next}
use Rattle.fib_reader.specs.Raw.{Raw}
use Rattle.fib_reader.specs.Listening.{Pictured, all_entries, identifier_of}
use Rattle.fig_mentions.specs.declared.mention.Mention.{Mention}
use Rattle.fig_mentions.specs.declared.mention.Mention.TheVariants.{Nothing, Sub, Packet, OnSub, ByPacket}
use Rattle.fig_mentions.specs.Mentions.{is_naming, mentions_of}

-- ---- what is there

-- the components of a service, two bytes each, behind its SId and the byte of their number
abbrev pub components_in : Raw → List (List ℕ)
components_in raw =
    let bytes : List ℕ = drop (if raw.long then 5 else 3) raw.bytes in first_chunks 2 (length bytes / 2) bytes

-- one of TMId 0 or 1 on this sub-channel
abbrev pub is_on : ℕ → List ℕ → Bool
is_on sub component = nat_lt (get_or component 0 0) 128 && get_or component 1 0 / 4 == sub

-- one of TMId 3 with this SCId
abbrev pub is_by : ℕ → List ℕ → Bool
is_by scid component =
    get_or component 0 0 / 64 == 3 && get_or component 0 0 % 64 * 64 + get_or component 1 0 / 4 == scid

-- an entry is what is named
abbrev pub is_named : Mention → Raw → Bool
is_named Nothing raw = false
is_named (Sub sub) raw = raw.ext == 1 && identifier_of raw == sub
is_named (Packet scid) raw = raw.ext == 3 && identifier_of raw == scid
is_named (OnSub sid sub) raw = raw.ext == 2 && (identifier_of raw == sid && list_any (is_on sub) (components_in raw))
is_named (ByPacket sid scid) raw =
    raw.ext == 2 && (identifier_of raw == sid && list_any (is_by scid) (components_in raw))

abbrev pub is_nothing : Mention → Bool
is_nothing Nothing = true
is_nothing (Sub sub) = false
is_nothing (Packet scid) = false
is_nothing (OnSub sid sub) = false
is_nothing (ByPacket sid scid) = false

abbrev pub is_present : Pictured → Mention → Bool
is_present k m = if is_nothing m then true else list_any (is_named m) (all_entries k)

-- ---- FIGs

-- FIG 0/4 and 0/8 with C/N 1 speak of the next configuration (EN 300 401 clauses 5.2.2.1 and 6.5), by their second byte
abbrev pub is_of_next : ℕ → Bool
is_of_next second = is_next second && (second % 32 == 4 || second % 32 == 8)

-- of this ensemble, OE 0, of an extension that names something, and not of the next configuration
abbrev pub is_judged : List ℕ → Bool
is_judged fig =
    nat_lt (get_or fig 0 0) 32
    && (get_or fig 1 0 / 64 % 2 == 0 && (is_naming (get_or fig 1 0 % 32) && not (is_of_next (get_or fig 1 0))))

-- whole entries, and what each names is there
abbrev pub are_there : Pictured → Option (List Mention) → Bool
are_there k None = false
are_there k (Some ms) = list_all (is_present k) ms

abbrev pub entries_agree : Pictured → (second : ℕ) → (entries : List ℕ) → Bool
entries_agree k second entries =
    nat_lt 0 (length entries) && are_there k (mentions_of (second % 32) (second / 32 % 2 == 1) entries)

-- a FIG that is judged has at least one entry, and what each names is there; any other one agrees with all
-- configurations
abbrev pub fig_agrees : Pictured → List ℕ → Bool
fig_agrees k fig = if is_judged fig then entries_agree k (get_or fig 1 0) (drop 2 fig) else true
