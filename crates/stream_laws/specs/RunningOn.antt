-- The counts of a stream without a fault, as they are in the bytes of its frames (EN 300 401 clause 6.4).
use Rattle.std.specs.Prelude.{◌≡◌, ℕ, ◌+◌, ◌%◌, ◌≤◌, Bool, List, [], ◌∷◌, map}
use Rattle.std.specs.List.{AllByRecursion}
use Rattle.mux_types.specs.Entries.{EnsembleInformation}
use Rattle.mux_types.specs.declared.limits.TheConstants.{COUNTS}
use Rattle.fib_codec.specs.Heard.{IsEnsembleHeardInRow}
use Rattle.stream_check.specs.Frames.{Reading}
use Rattle.stream_laws.specs.Faultless.{IsFaultless}
use Rattle.stream_laws.specs.Notices.{AreFibBytes, read_frames, row_of}

-- FIG 0/0 is heard in the frame if this count is a multiple of the step, and only then, and only with this EId and this
-- count
pub record IsAtCount (step eid count : ℕ) (frame : List ℕ) : Type 0 where
  pub there : count % step ≡ 0 → (next : Bool) × (e : EnsembleInformation) × IsEnsembleHeardInRow frame next e
  pub only : (next : Bool) (e : EnsembleInformation) → IsEnsembleHeardInRow frame next e
      → (count % step ≡ 0) × (e.eid ≡ eid) × (e.count ≡ count)

-- the counts of these frames run on from this one, modulo 5000
abbrev pub RunOn : (step eid count : ℕ) → List (List ℕ) → Type 0
RunOn step eid count [] = Unit {0}
RunOn step eid count (frame ∷ frames) =
    IsAtCount step eid count frame × RunOn step eid ((count + 1) % COUNTS) frames

-- the law of running counts: those of a stream without a fault run on from a multiple of the step, with one EId
abbrev pub CountsRunOn : Type 0
CountsRunOn =
    (r : Reading) (size step period : ℕ) (frames : List (List (List ℕ))) → 1 ≤ size
    → AllByRecursion AreFibBytes frames → IsFaultless size step period (read_frames r frames)
    → (eid count : ℕ) × (count % step ≡ 0) × RunOn step eid count (map row_of frames)
