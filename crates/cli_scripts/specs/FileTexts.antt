-- The text of a file, as far as it is read.
use Rattle.std.specs.Prelude.{◌≡◌, ◌<◌, ◌⊎◌, ℕ, List, length, take, IsUtf8}
use Rattle.script_tokens.specs.Texts.{MOST_BYTES}

-- the text that is read of a file: all of it, or more of it than any script has
pub record IsReadOf (bytes text : List ℕ) : Type 0 where
  pub front : text ≡ take (length text) bytes
  pub enough : (text ≡ bytes) ⊎ (MOST_BYTES < length text)
  pub utf8 : IsUtf8 text
