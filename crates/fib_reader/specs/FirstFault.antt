-- The first fault of a FIB, as found from the front.
use Rattle.std.specs.Prelude.{ℕ, zero, suc, ◌+◌, ◌-◌, ◌%◌, ◌==◌, Bool, false, if◌then◌else◌, nat_lt, List, [], ◌∷◌}
use Rattle.std.specs.Prelude.{length, get_or, take, drop, Option, Some, None}
use Rattle.fib_codec.specs.Grammar.{entry_len, is_open, is_long}
use Rattle.fib_reader.specs.declared.fault.FibFault.{FibFault}
use Rattle.fib_reader.specs.declared.fault.FibFault.TheVariants.{Overrun, Entry}

-- the offset of the first entry that is not whole, for `bytes` at offset `place`; at most `n` entries are examined
unfoldable pub entries_fault : ℕ → ℕ → Bool → ℕ → List ℕ → Option ℕ
entries_fault zero ext long place bytes = None
entries_fault (suc n) ext long place [] = None
entries_fault (suc n) ext long place (b ∷ bs) =
    let len = entry_len ext long (b ∷ bs) in
    if nat_lt (length (b ∷ bs)) len then Some place
    else entries_fault n ext long (place + len) (drop len (b ∷ bs))

-- the one entry of FIG 0/0 must be whole, with a count in range; anything that follows it is at fault
abbrev pub ensemble_fault : ℕ → List ℕ → Option ℕ
ensemble_fault place bytes =
    let len = entry_len 0 false bytes in
    if nat_lt (length bytes) len then Some place
    else if nat_lt 19 (get_or bytes 2 0 % 32) then Some place
    else if nat_lt 249 (get_or bytes 3 0) then Some place
    else if nat_lt len (length bytes) then Some (place + len)
    else None

abbrev pub body_fault : ℕ → Bool → ℕ → List ℕ → Option ℕ
body_fault ext long place bytes =
    if ext == 0 then ensemble_fault place bytes else entries_fault (length bytes) ext long place bytes

abbrev pub entry_at_fault : Option ℕ → Option FibFault
entry_at_fault None = None
entry_at_fault (Some place) = Some (Entry place)

-- the fault of the FIG with header `h` at offset `place`, followed by `bytes`
abbrev pub fig_fault : ℕ → ℕ → List ℕ → Option FibFault
fig_fault place h bytes =
    if nat_lt (length bytes) (h % 32) then Some (Overrun place)
    else if nat_lt 31 h then None
    else if h == 0 then Some (Entry place)
    else if is_open (get_or bytes 0 0)
    then entry_at_fault (body_fault (get_or bytes 0 0 % 32) (is_long (get_or bytes 0 0)) (place + 2)
    (take (h - 1) (drop 1 bytes)))
    else None

abbrev pub or_else : Option FibFault → Option FibFault → Option FibFault
or_else (Some e) other = Some e
or_else None other = other

-- the first fault of the FIGs in `bytes`, at offset `place`; at most `n` FIGs are examined
unfoldable pub figs_fault : ℕ → ℕ → List ℕ → Option FibFault
figs_fault zero place bytes = None
figs_fault (suc n) place [] = None
figs_fault (suc n) place (h ∷ bs) =
    if h == 255 then None
    else or_else (fig_fault place h bs) (figs_fault n (place + 1 + h % 32) (drop (h % 32) bs))
