-- A source of which some bytes are buffered.
use Rattle.std.specs.Prelude.{ℕ, List, Option}
use Rattle.std.specs.Io.KnownBytes.{prepend_known}

-- the bytes that are buffered, and those that are left of the source, if known
pub record Buffered : Type 0 where
  pub ahead : List ℕ
  pub behind : Option (List ℕ)

-- all bytes that are left
abbrev pub left_of : Buffered → Option (List ℕ)
left_of b = prepend_known b.ahead b.behind
