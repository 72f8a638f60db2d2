-- Reading values from the front of the remaining tokens: a token is read as the value that it spells, if that is in
-- range. The law of each reading is stated at the end.
use Rattle.std.specs.Prelude.{ℕ, ◌+◌, ◌-◌, ◌*◌, ◌<◌, ◌≤◌, Bool, true, false, ◌&&◌, ◌==◌, nat_le, nat_lt, if◌then◌else◌}
use Rattle.std.specs.Prelude.{List, [], ◌∷◌, length, take, drop, slice_index_or, Some, None}
use Rattle.std.specs.Str.{bytes_eq}
use Rattle.std.specs.Fmt.{decimal}
use Rattle.mux_eep.specs.declared.sizes.EepSet.{EepSet}
use Rattle.mux_eep.specs.declared.sizes.EepSet.TheVariants.{A, B}
use Rattle.mux_eep.specs.Sizes.{Profile}
use Rattle.mux_types.specs.declared.numbers.Sid.{Sid}
use Rattle.mux_types.specs.declared.numbers.Sid.TheVariants.{Short, Long}
use Rattle.mux_config.specs.Configuration.{IsSid}
use Rattle.script_tokens.specs.declared.keyword.Keyword.TheVariants as the
use Rattle.script_tokens.specs.Keywords.{Lexeme, the as keyword, text as bare, word_of, has_name_letters, IsName}
use Rattle.script_tokens.specs.Reading.{Spelled, Reads, ◌>>=◌, is_next, after, ReadsAsSpelled}
use Rattle.script_tokens.specs.Spelling.{hex_text, sid_text, profile_text, level_text, time_text}

-- ---- the values of bytes that spell one

abbrev pub number_on : ℕ → List ℕ → ℕ
number_on n [] = n
number_on n (c ∷ cs) = number_on (n * 10 + (c - 48)) cs

abbrev pub number_of : List ℕ → ℕ
number_of w = number_on 0 w

abbrev pub byte_of : List ℕ → ℕ → ℕ
byte_of w i = slice_index_or w i 0

abbrev pub digit_of : ℕ → ℕ
digit_of b = if nat_lt b 58 then b - 48 else b - 55

abbrev pub four_of : List ℕ → ℕ
four_of w = (digit_of (byte_of w 0) * 16 + digit_of (byte_of w 1)) * 256
    + (digit_of (byte_of w 2) * 16 + digit_of (byte_of w 3))

abbrev pub sid_of : List ℕ → Sid
sid_of w = if length w == 4 then Short (four_of w) else Long (four_of (take 4 w) * 65536 + four_of (drop 4 w))

abbrev pub set_of : ℕ → EepSet
set_of b = if b == 65 then A else B

abbrev pub profile_of : List ℕ → Profile
profile_of w = record { set = set_of (byte_of w 2); level = byte_of w 0 - 48 }

abbrev pub two_of : List ℕ → ℕ
two_of w = (byte_of w 0 - 48) * 10 + (byte_of w 1 - 48)

abbrev pub time_of : List ℕ → ℕ
time_of w = two_of w * 3600 + (two_of (drop 3 w) * 60 + two_of (drop 6 w))

-- ---- reading

-- the value of the next token, if it fits and the token is its spelling
unfoldable pub value_at : {A : Type 0} → (value : List ℕ → A) → (text : A → List ℕ) → (fits : A → Bool) → Spelled
    → Reads A
value_at value text fits [] = None
value_at value text fits (w ∷ ws) = if fits (value w) && bytes_eq w (text (value w)) then Some (value w, ws) else None

-- a decimal of at most nine digits, in this range
abbrev pub is_number : (low high : ℕ) → ℕ → Bool
is_number low high n = nat_le low n && nat_le n high && nat_lt n 1000000000

unfoldable pub number_at : (low high : ℕ) → Spelled → Reads ℕ
number_at low high ws = value_at number_of decimal (is_number low high) ws

abbrev pub is_eid : ℕ → Bool
is_eid n = nat_lt n 65536

unfoldable pub eid_at : Spelled → Reads ℕ
eid_at ws = value_at four_of hex_text is_eid ws

abbrev pub is_sid : Sid → Bool
is_sid (Short n) = nat_lt n 65536
is_sid (Long n) = nat_lt n 4294967296

unfoldable pub sid_at : Spelled → Reads Sid
sid_at ws = value_at sid_of sid_text is_sid ws

abbrev pub is_profile : Profile → Bool
is_profile p = nat_le 1 p.level && nat_le p.level 4

unfoldable pub profile_at : Spelled → Reads Profile
profile_at ws = value_at profile_of profile_text is_profile ws

abbrev pub is_time : ℕ → Bool
is_time t = nat_lt t 86400

unfoldable pub time_at : Spelled → Reads ℕ
time_at ws = value_at time_of time_text is_time ws

-- whether a contact is closed
unfoldable pub level_at : Spelled → Reads Bool
level_at ws = if is_next the.Closed ws then Some (true, drop 1 ws) else
    (after the.Open ws >>= λ rest. Some (false, rest))

-- the name of a block, which is no keyword
abbrev pub is_bare : Lexeme → Bool
is_bare (keyword k) = false
is_bare (bare bytes) = true

abbrev pub is_name : List ℕ → Bool
is_name w = has_name_letters w && nat_le (length w) 32 && is_bare (word_of w)

unfoldable pub name_next : Spelled → Reads (List ℕ)
name_next [] = None
name_next (w ∷ ws) = if is_name w then Some (w, ws) else None

-- ---- laws

pub record ValuesAreRead : Type 0 where
  pub numbers : (low high : ℕ) → high < 1000000000 → ReadsAsSpelled (number_at low high) (λ n. (low ≤ n) × (n ≤ high))
      (λ n. decimal n ∷ [])
  pub eids : ReadsAsSpelled eid_at (λ n. n < 65536) (λ n. hex_text n ∷ [])
  pub sids : ReadsAsSpelled sid_at IsSid (λ s. sid_text s ∷ [])
  pub profiles : ReadsAsSpelled profile_at (λ p. (1 ≤ p.level) × (p.level ≤ 4)) (λ p. profile_text p ∷ [])
  pub times : ReadsAsSpelled time_at (λ t. t < 86400) (λ t. time_text t ∷ [])
  pub levels : ReadsAsSpelled level_at (λ closed. Unit {0}) (λ closed. level_text closed ∷ [])
  pub names : ReadsAsSpelled name_next IsName (λ name. name ∷ [])
