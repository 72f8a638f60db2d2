-- The FIGs and entries of data bytes without a fault, in the order in which an iterator yields them.
use Rattle.std.specs.Prelude.{ℕ, zero, suc, ◌%◌, ◌==◌, ◌&&◌, Bool, if◌then◌else◌, nat_lt, List, [], ◌∷◌, length, get_or}
use Rattle.std.specs.Prelude.{take, drop, map}
use Rattle.std.specs.List.{AllByRecursion}
use Rattle.fib_codec.specs.Grammar.{Fig, Open, Other, entry_len, IsFig, is_open, is_long}
use Rattle.fib_reader.specs.Raw.{Raw, IsRaw, raw_of}

-- the entries in `bytes`, one after another; at most `n` of them
unfoldable pub entries_within : ℕ → ℕ → Bool → List ℕ → List (List ℕ)
entries_within zero ext long bytes = []
entries_within (suc n) ext long [] = []
entries_within (suc n) ext long (b ∷ bs) =
    let len = entry_len ext long (b ∷ bs) in
    take len (b ∷ bs) ∷ entries_within n ext long (drop len (b ∷ bs))

abbrev pub entries_of : ℕ → Bool → List ℕ → List (List ℕ)
entries_of ext long bytes = entries_within (length bytes) ext long bytes

-- with the extension and the P/D flag of their FIG
abbrev pub raws_of : ℕ → Bool → List ℕ → List Raw
raws_of ext long bytes = map (raw_of ext long) (entries_of ext long bytes)

abbrev pub AreRaw : List Raw → Type 0
AreRaw raws = AllByRecursion IsRaw raws

-- the FIG with these bytes
abbrev pub fig_of_bytes : List ℕ → Fig
fig_of_bytes bytes =
    if nat_lt 1 (length bytes) && (nat_lt (get_or bytes 0 0) 32 && is_open (get_or bytes 1 0))
    then Open (get_or bytes 1 0) (entries_of (get_or bytes 1 0 % 32) (is_long (get_or bytes 1 0)) (drop 2 bytes))
    else Other bytes

-- these are the bytes of a FIG
abbrev pub IsWholeFig : List ℕ → Type 0
IsWholeFig bytes = IsFig bytes (fig_of_bytes bytes)

-- the bytes of each FIG in `bytes`, up to an end marker; at most `n` of them
unfoldable pub pieces_within : ℕ → List ℕ → List (List ℕ)
pieces_within zero bytes = []
pieces_within (suc n) [] = []
pieces_within (suc n) (h ∷ bs) =
    if h == 255 then [] else (h ∷ take (h % 32) bs) ∷ pieces_within n (drop (h % 32) bs)

abbrev pub pieces_of : List ℕ → List (List ℕ)
pieces_of bytes = pieces_within (length bytes) bytes

abbrev pub figs_of_bytes : List ℕ → List Fig
figs_of_bytes bytes = map fig_of_bytes (pieces_of bytes)
