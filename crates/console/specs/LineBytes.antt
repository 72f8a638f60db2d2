-- What reading a byte consumes of an input. No public contract needs this to be believed.
use Rattle.std.specs.Prelude.{ℕ, List, [], ◌∷◌, Option}
use Rattle.std.specs.Io.KnownBytes.{Consumes, IsAtEnd}
use Rattle.console.specs.declared.lines.NextByte.{NextByte}
use Rattle.console.specs.declared.lines.NextByte.TheVariants.{Byte, End, Failed}

abbrev pub TakesByte : Option (List ℕ) → Option (List ℕ) → NextByte → Type 0
TakesByte old new (Byte b) = Consumes old new (b ∷ [])
TakesByte old new End = Consumes old new [] × IsAtEnd new
TakesByte old new Failed = Unit {0}
