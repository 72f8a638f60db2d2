-- What was printed, where the underlying writer reports its bytes.
use Rattle.std.specs.Prelude.{ℕ, Bool, List, Option}
use Rattle.std.specs.Io.KnownBytes.{append_known}
use Rattle.console.specs.declared.output.Output.{Output}

-- the underlying writer
abbrev pub writer_of : {W : Type 0} → Output W → W
writer_of o = o.out

-- the bytes of the underlying writer, and then the buffered ones
abbrev pub printed : {W : Type 0} → (W → Option (List ℕ)) → Output W → Option (List ℕ)
printed contents o = append_known (contents (writer_of o)) o.held.items

-- a write to the underlying writer, or a flush of it, has failed
abbrev pub has_failed : {W : Type 0} → Output W → Bool
has_failed o = o.has_failed
