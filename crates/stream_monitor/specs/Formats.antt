-- How streams begin that are none of FIBs, but carry them: ETI (ETS 300 799) and EDI (ETSI TS 102 693).
use Rattle.std.specs.Prelude.{ℕ, ◌+◌, ◌==◌, ◌&&◌, ◌||◌, Bool, if◌then◌else◌, List, get_or, Option, None, Some}
use Rattle.stream_monitor.specs.declared.format.Format.{Format}
use Rattle.stream_monitor.specs.declared.format.Format.TheVariants.{Eti, Edi}

-- three bytes, from a place on
abbrev pub are_at : List ℕ → (place one two three : ℕ) → Bool
are_at bytes place one two three =
    get_or bytes place 0 == one && (get_or bytes (place + 1) 0 == two && (get_or bytes (place + 2) 0 == three))

-- FSYNC of ETI stands here: 073AB6, and F8C549 in every other frame
abbrev pub is_sync : List ℕ → ℕ → Bool
is_sync bytes place = are_at bytes place 7 58 182 || are_at bytes place 248 197 73

-- FSYNC is behind one byte of a raw frame, behind three of a streamed one, and behind seven of a framed one
abbrev pub is_eti : List ℕ → Bool
is_eti bytes = is_sync bytes 1 || (is_sync bytes 3 || is_sync bytes 7)

-- 'AF', and behind the length, the number and the version of a packet its type, 'T'; or 'PF', and behind the number
-- of a packet those of a fragment and of all fragments, which are less than 65,536
abbrev pub is_edi : List ℕ → Bool
is_edi bytes = are_at bytes 0 65 70 (get_or bytes 2 0) && get_or bytes 9 0 == 84
    || are_at bytes 0 80 70 (get_or bytes 2 0) && (get_or bytes 4 0 == 0 && get_or bytes 7 0 == 0)

-- a stream of these first bytes is one or the other
abbrev pub is_other : List ℕ → Bool
is_other bytes = is_eti bytes || is_edi bytes

-- what a stream of these first bytes is, if it is known
abbrev pub format_of : List ℕ → Option Format
format_of bytes = if is_eti bytes then Some Eti else if is_edi bytes then Some Edi else None
