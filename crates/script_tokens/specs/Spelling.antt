-- How values are spelled.
use Rattle.std.specs.Prelude.{ℕ, ◌+◌, ◌/◌, ◌%◌, Bool, true, false, List, [], ◌∷◌, ◌++◌, nat_lt, if◌then◌else◌}
use Rattle.mux_eep.specs.declared.sizes.EepSet.{EepSet}
use Rattle.mux_eep.specs.declared.sizes.EepSet.TheVariants.{A, B}
use Rattle.mux_eep.specs.Sizes.{Profile}
use Rattle.mux_types.specs.declared.numbers.Sid.{Sid}
use Rattle.mux_types.specs.declared.numbers.Sid.TheVariants.{Short, Long}
use Rattle.script_tokens.specs.declared.keyword.Keyword.TheVariants as the
use Rattle.script_tokens.specs.Keywords.{letters}

-- a digit 0-9 or A-F
abbrev pub hex_digit : ℕ → ℕ
hex_digit d = if nat_lt d 10 then 48 + d else 55 + d

abbrev pub hex_byte : ℕ → List ℕ
hex_byte n = hex_digit (n / 16) ∷ hex_digit (n % 16) ∷ []

-- four digits, and eight
abbrev pub hex_text : ℕ → List ℕ
hex_text n = hex_byte (n / 256) ++ hex_byte (n % 256)

abbrev pub hex_long : ℕ → List ℕ
hex_long n = hex_text (n / 65536) ++ hex_text (n % 65536)

abbrev pub set_letter : EepSet → ℕ
set_letter A = 65
set_letter B = 66

-- `3-A`
abbrev pub profile_text : Profile → List ℕ
profile_text p = (48 + p.level) ∷ 45 ∷ set_letter p.set ∷ []

abbrev pub two_digits : ℕ → List ℕ
two_digits n = (48 + n / 10) ∷ (48 + n % 10) ∷ []

-- `HH:MM:SS`
abbrev pub time_text : ℕ → List ℕ
time_text second = two_digits (second / 3600) ++ 58 ∷ (two_digits (second / 60 % 60) ++ 58 ∷ two_digits (second % 60))

-- four digits for a short SId, eight for a long one
abbrev pub sid_text : Sid → List ℕ
sid_text (Short n) = hex_text n
sid_text (Long n) = hex_long n

-- the level of a contact
abbrev pub level_text : Bool → List ℕ
level_text true = letters the.Closed
level_text false = letters the.Open
