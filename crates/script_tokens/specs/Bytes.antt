-- The kinds of bytes, and positions in a text.
use Rattle.std.specs.Prelude.{ℕ, ◌+◌, ◌==◌, ◌||◌, ◌&&◌, Bool, if◌then◌else◌, nat_le, List, [], ◌∷◌}
use Rattle.script_tokens.specs.declared.token.Token.{Token}
use Rattle.script_tokens.specs.declared.token.Kind.{Kind}
use Rattle.script_tokens.specs.declared.token.Kind.TheVariants.{Blank, LineEnd, Hash, Brace, Letter, Bad}
use Rattle.script_tokens.specs.declared.token.Place.{Place}

abbrev pub is_within : (low high b : ℕ) → Bool
is_within low high b = nat_le low b && nat_le b high

-- letters, digits, `:`, `_` and `-`
abbrev pub is_atom_byte : ℕ → Bool
is_atom_byte b = is_within 48 58 b || is_within 65 90 b || is_within 97 122 b || (b == 95) || (b == 45)

abbrev pub kind_of : ℕ → Kind
kind_of b =
    if b == 10 then LineEnd
    else if (b == 32) || (b == 9) || (b == 13) || (b == 59) then Blank
    else if b == 35 then Hash
    else if (b == 123) || (b == 125) then Brace
    else if is_atom_byte b then Letter
    else Bad

-- the kinds in the order of their numbers
abbrev pub kind_numbered : ℕ → Kind
kind_numbered n =
    if n == 0 then Blank
    else if n == 1 then LineEnd
    else if n == 2 then Hash
    else if n == 3 then Brace
    else if n == 4 then Letter
    else Bad

-- lines and columns are counted from 1, columns in bytes
abbrev pub first_position : Place
first_position = record { at = 0; position = record { line = 1; column = 1 } }

abbrev pub position_after : Place → Kind → Place
position_after p LineEnd = record { at = p.at + 1; position = record { line = p.position.line + 1; column = 1 } }
position_after p k = record {
  at = p.at + 1;
  position = record { line = p.position.line; column = p.position.column + 1 };
}

-- the position after these bytes
abbrev pub position_past : Place → List ℕ → Place
position_past p [] = p
position_past p (b ∷ bs) = position_past (position_after p (kind_of b)) bs

abbrev pub token_at : (start : Place) → (end : ℕ) → Token
token_at p end = record { start = p.at; end = end; position = p.position }
