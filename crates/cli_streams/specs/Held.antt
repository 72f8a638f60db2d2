-- Frames that are held back from an output.
use Rattle.std.specs.Prelude.{◌≡◌, ℕ, List, [], Option}
use Rattle.std.specs.Io.KnownBytes.{Keeps, append_known}
use Rattle.cli_streams.specs.declared.held_frames.HeldFrames.{HeldFrames}

-- the output
abbrev pub writer_of : {W : Type 0} → HeldFrames W → W
writer_of h = h.out.now

-- the bytes of all frames so far: those that the output has taken, and then those that are held
abbrev pub finished : {W : Type 0} → (W → Option (List ℕ)) → HeldFrames W → Option (List ℕ)
finished contents h = append_known (contents (writer_of h)) h.held.items

-- none is held, and the output has taken the bytes of all frames so far
abbrev pub IsWritten : {W : Type 0} → (W → Option (List ℕ)) → HeldFrames W → Type 0
IsWritten contents h = (h.held.items ≡ []) × Keeps (finished contents h) (contents (writer_of h))
