-- The lines of a list of bytes.
use Rattle.std.specs.Prelude.{◌≡◌, ◌≢◌, ◌⊎◌, ◌↔◌, ℕ, ◌==◌, if◌then◌else◌, List, [], ◌∷◌, ◌++◌, flat_map, Option, None}
use Rattle.std.specs.Prelude.{Some}
use Rattle.std.specs.List.{AllByRecursion}

-- ---- the lines of bytes

-- a line contains no line feed
abbrev pub HasNoFeed : List ℕ → Type 0
HasNoFeed line = AllByRecursion (λ b. b ≢ 10) line

-- lines, each followed by a line feed
abbrev pub with_feeds : List (List ℕ) → List ℕ
with_feeds lines = flat_map (λ line. line ++ 10 ∷ []) lines

-- the last line ends with the bytes, without a line feed, and is not empty
pub record LacksLastFeed (bytes : List ℕ) (lines : List (List ℕ)) : Type 0 where
  pub front : List (List ℕ)
  pub last : List ℕ
  pub lines_are : lines ≡ front ++ last ∷ []
  pub some : last ≢ []
  pub bytes_are : bytes ≡ with_feeds front ++ last

pub record AreLinesOf (bytes : List ℕ) (lines : List (List ℕ)) : Type 0 where
  pub no_feed : AllByRecursion HasNoFeed lines
  pub whole : (bytes ≡ with_feeds lines) ⊎ LacksLastFeed bytes lines

-- ---- the lines, computed byte by byte

abbrev pub with_byte : ℕ → List (List ℕ) → List (List ℕ)
with_byte b [] = (b ∷ []) ∷ []
with_byte b (line ∷ lines) = (b ∷ line) ∷ lines

abbrev pub lines_of : List ℕ → List (List ℕ)
lines_of [] = []
lines_of (b ∷ bs) = if b == 10 then [] ∷ lines_of bs else with_byte b (lines_of bs)

-- bytes have exactly one list of lines
abbrev pub BytesHaveLines : Type 0
BytesHaveLines = (bytes : List ℕ) (lines : List (List ℕ)) → AreLinesOf bytes lines ↔ (lines_of bytes ≡ lines)

-- ---- reading lines

-- an input with these bytes left gave these lines, and has those left; nothing is claimed where its bytes are unknown
abbrev pub GivesLines : Option (List ℕ) → List (List ℕ) → Option (List ℕ) → Type 0
GivesLines None lines new = Unit {0}
GivesLines (Some old) lines None = ⊥
GivesLines (Some old) lines (Some new) = lines_of old ≡ lines ++ lines_of new

abbrev pub GivesLine : Option (List ℕ) → List ℕ → Option (List ℕ) → Type 0
GivesLine old line new = GivesLines old (line ∷ []) new
