-- The FIGs that the 32 bytes of a FIB contain, for reader and writer alike (EN 300 401 clauses 5.2.1, 5.2.2, 6.2.1,
-- 6.3.1, 6.3.2 and 6.4). FIGs of other types or extensions, and those of other ensembles, are not parsed.
use Rattle.std.specs.Prelude.{◌≡◌, ◌≢◌, ℕ, ◌+◌, ◌*◌, ◌/◌, ◌%◌, ◌<◌, ◌≤◌, ◌==◌, ◌&&◌, nat_lt, Bool, true, false}
use Rattle.std.specs.Prelude.{if◌then◌else◌, ◌⊎◌, List, [], ◌∷◌, ◌++◌, length, map, flat_map, take, get_or}
use Rattle.std.specs.List.{AllByRecursion}
use Rattle.fib_codec.specs.Crc.{IsChecked}
use Rattle.fib_codec.specs.Spelling.{Written, IsWritten, IsUnder, entry_bytes, head_byte, fig_bytes, figs_bytes}
use Rattle.fib_codec.specs.Spelling.{fib_bytes, filled}
use Rattle.fib_codec.specs.declared.head.Head.{Head}
use Rattle.fib_codec.specs.Ranges.{IsWithin}
use Rattle.mux_types.specs.declared.entry.Entry.{Entry}

-- the length of the entry at the front, by the bytes that determine it; more than there are if one of these is missing.
-- It depends on the change flags in FIG 0/0, on the form in FIG 0/1, on the number of components in FIG 0/2 and on the
-- CAOrg flag in FIG 0/3.
abbrev pub ensemble_len : List ℕ → ℕ
ensemble_len bytes = if get_or bytes 2 0 / 64 == 0 then 4 else 5

abbrev pub sub_len : List ℕ → ℕ
sub_len bytes = if get_or bytes 2 0 / 128 == 1 then 4 else 3

abbrev pub service_len : Bool → List ℕ → ℕ
service_len long bytes = if long then 5 + 2 * (get_or bytes 4 0 % 16) else 3 + 2 * (get_or bytes 2 0 % 16)

abbrev pub packet_len : List ℕ → ℕ
packet_len bytes = if get_or bytes 1 0 % 2 == 1 then 7 else 5

-- by extension, P/D flag and bytes
abbrev pub entry_len : ℕ → Bool → List ℕ → ℕ
entry_len ext long bytes =
    if ext == 0 then ensemble_len bytes
    else if ext == 1 then sub_len bytes
    else if ext == 2 then service_len long bytes
    else packet_len bytes

abbrev pub IsEntry : ℕ → Bool → List ℕ → Type 0
IsEntry ext long bytes = length bytes ≡ entry_len ext long bytes

-- bytes that are whole entries, one after another
abbrev pub AreEntries : ℕ → Bool → List ℕ → List (List ℕ) → Type 0
AreEntries ext long bytes [] = bytes ≡ []
AreEntries ext long bytes (e ∷ es) =
    (rest : List ℕ) × (bytes ≡ e ++ rest) × IsEntry ext long e × AreEntries ext long rest es

-- the CIF count of FIG 0/0: its high part is below 20, its low part below 250
abbrev pub IsCounted : List ℕ → Type 0
IsCounted e = (get_or e 2 0 % 32 < 20) × (get_or e 3 0 < 250)

-- what follows the second byte of a FIG: whole entries, and for FIG 0/0 exactly one
abbrev pub IsBody : ℕ → Bool → List ℕ → List (List ℕ) → Type 0
IsBody ext long bytes es =
    AreEntries ext long bytes es × (ext ≡ 0 → (e : List ℕ) × (es ≡ e ∷ []) × IsCounted e)

-- a FIG that is parsed, as its second byte and the bytes of each entry, or any other one, as its bytes
pub data Fig : Type 0 where
  Open : ℕ → List (List ℕ) → Fig
  Other : List ℕ → Fig

-- the second byte of a FIG of type 0: C/N, OE and extension below 4, P/D
abbrev pub is_next : ℕ → Bool
is_next second = second / 128 == 1

abbrev pub is_open : ℕ → Bool
is_open second = second / 64 % 2 == 0 && nat_lt (second % 32) 4

abbrev pub is_long : ℕ → Bool
is_long second = second / 32 % 2 == 1

-- the bytes of a FIG that is not parsed: of types 1 to 7, or of type 0 with a second byte that is not open
abbrev pub IsOther : List ℕ → Type 0
IsOther [] = ⊥
IsOther (header ∷ []) = (header ≢ 255) × (32 ≤ header) × (header % 32 ≡ 0)
IsOther (header ∷ second ∷ body) =
    (header ≢ 255) × (header % 32 ≡ 1 + length body) × ((nat_lt header 32 && is_open second) ≡ false)

abbrev pub IsFig : List ℕ → Fig → Type 0
IsFig bytes (Open second es) =
    (body : List ℕ) × (bytes ≡ (1 + length body) ∷ second ∷ body) × (length body < 31) × (is_open second ≡ true)
    × IsBody (second % 32) (is_long second) body es
IsFig bytes (Other given) = (given ≡ bytes) × IsOther bytes

-- FIGs one after another, to the end or to an end marker instead of a header; what follows that is arbitrary
abbrev pub AreFigs : List ℕ → List Fig → Type 0
AreFigs bytes [] = (bytes ≡ []) ⊎ ((rest : List ℕ) × (bytes ≡ 255 ∷ rest))
AreFigs bytes (f ∷ fs) = (front rest : List ℕ) × (bytes ≡ front ++ rest) × IsFig front f × AreFigs rest fs

-- the FIGs of a FIB: those of its first 30 bytes, if the other two are their CRC
abbrev pub IsFib : List ℕ → List Fig → Type 0
IsFib bytes figs = IsChecked bytes × AreFigs (take 30 bytes) figs

-- the bytes of a FIG
abbrev pub fig_spelled : Fig → List ℕ
fig_spelled (Open second es) = (1 + length (flat_map (λ e. e) es)) ∷ second ∷ flat_map (λ e. e) es
fig_spelled (Other bytes) = bytes

abbrev pub IsOpen : Fig → Type 0
IsOpen (Open second es) = Unit {0}
IsOpen (Other bytes) = ⊥

-- a valid FIB: its FIGs are of extensions 0 to 3 and of this ensemble, and the rest of its data bytes is the end marker
-- and zeros
pub record IsValid (bytes : List ℕ) (figs : List Fig) : Type 0 where
  pub fib : IsFib bytes figs
  pub looked_into : AllByRecursion IsOpen figs
  pub rest_filled : take 30 bytes ≡ filled (flat_map fig_spelled figs)

-- a written FIG in the grammar: one of another ensemble is not parsed
abbrev pub fig_of : Written → Fig
fig_of w = if w.head.oe then Other (fig_bytes w.head w.entries) else Open (head_byte w.head) (map entry_bytes w.entries)

abbrev pub IsOurs : Written → Type 0
IsOurs w = w.head.oe ≡ false

-- a FIB with these data bytes contains exactly the FIGs that have these bytes, in order
abbrev pub HoldsFigsOf : List ℕ → List ℕ → Type 0
HoldsFigsOf bytes fib =
    (figs : List Written) → AllByRecursion IsWritten figs → bytes ≡ figs_bytes figs
    → IsFib fib (map fig_of figs)

-- and it is the valid one if each of them is of this ensemble
abbrev pub IsValidOf : List ℕ → List ℕ → Type 0
IsValidOf bytes fib =
    (figs : List Written) → AllByRecursion IsWritten figs → bytes ≡ figs_bytes figs
    → AllByRecursion IsOurs figs → IsValid fib (map fig_of figs)

-- 32 bytes contain at most one list of FIGs
abbrev pub OneList : Type 0
OneList = (bytes : List ℕ) (figs others : List Fig) → IsFib bytes figs → IsFib bytes others → figs ≡ others

-- an entry that is written is an entry in the grammar
abbrev pub SpellingIsEntry : Type 0
SpellingIsEntry =
    (head : Head) (e : Entry) → IsUnder head e → IsWithin e → IsEntry head.ext head.long (entry_bytes e)

-- a FIB that is written contains its FIGs, and is valid if each of them is of this ensemble
abbrev pub WrittenIsFib : Type 0
WrittenIsFib =
    (figs : List Written) → AllByRecursion IsWritten figs → length (figs_bytes figs) ≤ 30
    → IsFib (fib_bytes figs) (map fig_of figs)

abbrev pub WrittenIsValid : Type 0
WrittenIsValid =
    (figs : List Written) → AllByRecursion IsWritten figs → length (figs_bytes figs) ≤ 30
    → AllByRecursion IsOurs figs → IsValid (fib_bytes figs) (map fig_of figs)
