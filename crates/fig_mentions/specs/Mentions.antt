-- What FIG 0/4, 0/5, 0/8, 0/14 and 0/19 name, entry by entry.
-- EN 300 401 clauses 6.3.3 (FIG 0/4), 8.1.2 (0/5), 6.3.5 (0/8), 6.2.2 (0/14) and 8.1.6.2 (0/19).
use Rattle.std.specs.Prelude.{ℕ, ◌+◌, ◌*◌, ◌/◌, ◌%◌, ◌==◌, ◌||◌, zero, suc, nat_le, Bool, if◌then◌else◌, List, [], ◌∷◌}
use Rattle.std.specs.Prelude.{length, drop, get_or, Option, Some, None, option_map}
use Rattle.fib_reader.specs.Raw.{u16_at_offset}
use Rattle.fig_mentions.specs.declared.mention.Mention.{Mention}
use Rattle.fig_mentions.specs.declared.mention.Mention.TheVariants.{Nothing, Sub, Packet, OnSub, ByPacket}

-- a bit of a byte, from 0, the lowest
abbrev pub has_bit : (byte power : ℕ) → Bool
has_bit byte power = byte / power % 2 == 1

-- a FIDC, or a sub-channel: the flag in bit 6, and six bits
abbrev pub channel_in : ℕ → Mention
channel_in byte = if has_bit byte 64 then Nothing else Sub (byte % 64)

-- the SCId in twelve bits
abbrev pub scid_in : (high low : ℕ) → ℕ
scid_in high low = high % 16 * 256 + low

-- FIG 0/4: Rfa 1, M/F 1, SubChId or FIDCId 6, CAOrg 16
abbrev pub access_mention : List ℕ → Mention
access_mention bytes = channel_in (get_or bytes 0 0)

-- FIG 0/5: L/S 1; short: MSC/FIC 1, SubChId or FIDCId 6, language 8; long: Rfa 3, SCId 12, language 8
abbrev pub language_size : List ℕ → ℕ
language_size bytes = if has_bit (get_or bytes 0 0) 128 then 3 else 2

abbrev pub language_mention : List ℕ → Mention
language_mention bytes =
    if has_bit (get_or bytes 0 0) 128 then Packet (scid_in (get_or bytes 0 0) (get_or bytes 1 0))
    else channel_in (get_or bytes 0 0)

-- the SId of 16 bits, or that of 32 where the P/D flag is 1
abbrev pub sid_length : Bool → ℕ
sid_length long = if long then 4 else 2

abbrev pub sid_in : Bool → List ℕ → ℕ
sid_in long bytes =
    if long then 65536 + (u16_at_offset 0 bytes * 65536 + u16_at_offset 2 bytes) else u16_at_offset 0 bytes

-- FIG 0/8, the bytes behind the SId: Ext 1, Rfa 3, SCIdS 4; L/S 1; short: MSC/FIC 1, SubChId or FIDCId 6; long:
-- Rfa 3, SCId 12; and eight bits of Rfa where Ext is 1
abbrev pub component_size : (first second : ℕ) → ℕ
component_size first second = (if has_bit second 128 then 3 else 2) + (if has_bit first 128 then 1 else 0)

abbrev pub component_mention : (sid second third : ℕ) → Mention
component_mention sid second third =
    if has_bit second 128 then ByPacket sid (scid_in second third)
    else if has_bit second 64 then Nothing
    else OnSub sid (second % 64)

abbrev pub service_size : Bool → List ℕ → ℕ
service_size long bytes =
    sid_length long + component_size (get_or bytes (sid_length long) 0) (get_or bytes (sid_length long + 1) 0)

abbrev pub service_mention : Bool → List ℕ → Mention
service_mention long bytes =
    component_mention (sid_in long bytes) (get_or bytes (sid_length long + 1) 0) (get_or bytes (sid_length long + 2) 0)

-- FIG 0/14: SubChId 6, FEC scheme 2
abbrev pub scheme_mention : List ℕ → Mention
scheme_mention bytes = Sub (get_or bytes 0 0 / 4)

-- FIG 0/19: cluster 8, ASw 16, new 1, region 1, SubChId 6; and Rfa 2, region 6 where the region flag is 1
abbrev pub announcement_size : List ℕ → ℕ
announcement_size bytes = if has_bit (get_or bytes 3 0) 64 then 5 else 4

abbrev pub announcement_mention : List ℕ → Mention
announcement_mention bytes = Sub (get_or bytes 3 0 % 64)

-- ---- entries

-- the extensions of FIGs that name something
abbrev pub is_naming : ℕ → Bool
is_naming ext = ext == 4 || (ext == 5 || (ext == 8 || (ext == 14 || ext == 19)))

-- the size of the first entry in a FIG of this extension and P/D flag
abbrev pub first_entry_length : (ext : ℕ) → Bool → List ℕ → ℕ
first_entry_length ext long bytes =
    if ext == 4 then 3
    else if ext == 5 then language_size bytes
    else if ext == 8 then service_size long bytes
    else if ext == 14 then 1
    else announcement_size bytes

abbrev pub entry_mention : (ext : ℕ) → Bool → List ℕ → Mention
entry_mention ext long bytes =
    if ext == 4 then access_mention bytes
    else if ext == 5 then language_mention bytes
    else if ext == 8 then service_mention long bytes
    else if ext == 14 then scheme_mention bytes
    else announcement_mention bytes

abbrev pub with_mention : Mention → Option (List Mention) → Option (List Mention)
with_mention m ms = option_map (λ xs. m ∷ xs) ms

-- of the entries in these bytes, at most so many; None if they are not whole entries
unfoldable pub mentions_in : ℕ → (ext : ℕ) → Bool → List ℕ → Option (List Mention)
mentions_in n ext long [] = Some []
mentions_in zero ext long (b ∷ bs) = None
mentions_in (suc n) ext long (b ∷ bs) =
    if nat_le (first_entry_length ext long (b ∷ bs)) (length (b ∷ bs))
    then with_mention (entry_mention ext long (b ∷ bs))
    (mentions_in n ext long (drop (first_entry_length ext long (b ∷ bs)) (b ∷ bs)))
    else None

abbrev pub mentions_of : (ext : ℕ) → Bool → List ℕ → Option (List Mention)
mentions_of ext long bytes = mentions_in (length bytes) ext long bytes
