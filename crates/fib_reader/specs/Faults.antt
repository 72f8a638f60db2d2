-- Why 32 bytes are not a FIB, and where: what precedes the offset of a fault is whole, and what is at the offset is
-- not.
use Rattle.std.specs.Prelude.{◌≡◌, ◌≢◌, ℕ, ◌+◌, ◌%◌, ◌<◌, Bool, true, List, [], ◌∷◌, ◌++◌, length, take, ◌⊎◌}
use Rattle.fib_codec.specs.Grammar.{Fig, IsFig, IsEntry, AreEntries, IsCounted, is_open, is_long}
use Rattle.fib_codec.specs.Crc.{IsChecked}
use Rattle.fib_reader.specs.declared.fault.FibFault.{FibFault}
use Rattle.fib_reader.specs.declared.fault.FibFault.TheVariants.{Crc, Overrun, Entry}

-- FIGs one after another, and nothing else
abbrev pub AreWhole : List ℕ → List Fig → Type 0
AreWhole bytes [] = bytes ≡ []
AreWhole bytes (f ∷ fs) = (front rest : List ℕ) × (bytes ≡ front ++ rest) × IsFig front f × AreWhole rest fs

-- whole FIGs precede the header at this offset, which is not an end marker; the rest follows it
pub record LeadsToHeader (bytes : List ℕ) (place header : ℕ) (rest : List ℕ) : Type 0 where
  pub front : List ℕ
  pub figs : List Fig
  pub split : bytes ≡ front ++ header ∷ rest
  pub whole : AreWhole front figs
  pub place_is : length front ≡ place
  pub no_marker : header ≢ 255

-- the FIG at this offset is longer than the bytes that are left
abbrev pub IsOverrun : List ℕ → ℕ → Type 0
IsOverrun bytes place =
    (header : ℕ) × (rest : List ℕ) × LeadsToHeader bytes place header rest × (length rest < header % 32)

-- a whole entry; that of FIG 0/0 has a CIF count in range
abbrev pub IsGood : ℕ → Bool → List ℕ → Type 0
IsGood ext long e = IsEntry ext long e × (ext ≡ 0 → IsCounted e)

abbrev pub BeginsNone : ℕ → Bool → List ℕ → Type 0
BeginsNone ext long bytes = (e rest : List ℕ) → bytes ≡ e ++ rest → IsGood ext long e → ⊥

-- whole entries precede this offset, and the bytes from there on begin with none
pub record IsNoEntryAt (ext : ℕ) (long : Bool) (bytes : List ℕ) (place : ℕ) : Type 0 where
  pub front : List ℕ
  pub left : List ℕ
  pub entries : List (List ℕ)
  pub split : bytes ≡ front ++ left
  pub whole : AreEntries ext long front entries
  pub place_is : length front ≡ place
  pub some : left ≢ []
  pub none : BeginsNone ext long left

-- FIG 0/0 must have one entry: it has none, or something follows it
abbrev pub IsNotOneAt : Bool → List ℕ → ℕ → Type 0
IsNotOneAt long bytes place =
    ((place ≡ 0) × BeginsNone 0 long bytes)
    ⊎ ((e left : List ℕ) × (bytes ≡ e ++ left) × IsGood 0 long e × (left ≢ []) × (place ≡ length e))

-- what follows the second byte of a parsed FIG is at fault at this offset
abbrev pub IsBodyFault : ℕ → Bool → List ℕ → ℕ → Type 0
IsBodyFault ext long bytes place =
    ((ext ≢ 0) × IsNoEntryAt ext long bytes place) ⊎ ((ext ≡ 0) × IsNotOneAt long bytes place)

-- a parsed FIG is whole, with its header at offset `at`, and its entries are at fault
pub record IsFigFault (bytes : List ℕ) (place : ℕ) : Type 0 where
  pub at : ℕ
  pub second : ℕ
  pub body : List ℕ
  pub after : List ℕ
  pub within : ℕ
  pub stands : LeadsToHeader bytes at (1 + length body) (second ∷ body ++ after)
  pub short : length body < 31
  pub looked_into : is_open second ≡ true
  pub fault : IsBodyFault (second % 32) (is_long second) body within
  pub place_is : place ≡ at + 2 + within

-- a FIG of type 0 without its second byte is at this offset, or an entry is at fault
abbrev pub IsEntryFault : List ℕ → ℕ → Type 0
IsEntryFault bytes place = ((rest : List ℕ) × LeadsToHeader bytes place 0 rest) ⊎ IsFigFault bytes place

-- the CRC comes before all others
abbrev pub IsFibFault : List ℕ → FibFault → Type 0
IsFibFault bytes Crc = IsChecked bytes → ⊥
IsFibFault bytes (Overrun place) = IsChecked bytes × IsOverrun (take 30 bytes) place
IsFibFault bytes (Entry place) = IsChecked bytes × IsEntryFault (take 30 bytes) place
