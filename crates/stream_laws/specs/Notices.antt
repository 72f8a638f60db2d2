-- The frames of a notice, as the bytes of their FIBs.
use Rattle.std.specs.Prelude.{◌≡◌, ℕ, ◌-◌, List, ◌++◌, length, map, flat_map, take, drop}
use Rattle.std.specs.List.{AllByRecursion}
use Rattle.fib_codec.specs.Laws.{IsByte}
use Rattle.stream_check.specs.Frames.{Fib, Reading, IsFramed}
use Rattle.stream_check.specs.History.{Moment, frames_ended, rows}

-- a FIB: 32 bytes
abbrev pub IsFibBytes : List ℕ → Type 0
IsFibBytes fib = (length fib ≡ 32) × AllByRecursion IsByte fib

abbrev pub AreFibBytes : List (List ℕ) → Type 0
AreFibBytes fibs = AllByRecursion IsFibBytes fibs

-- what is read of frames, each given by its FIBs
abbrev pub read_frames : Reading → List (List (List ℕ)) → List (List Fib)
read_frames r frames = map (map r.read) frames

-- the bytes of a frame's FIBs, one after the other
abbrev pub row_of : List (List ℕ) → List ℕ
row_of fibs = flat_map (λ fib. fib) fibs

-- the last n of these
abbrev pub last_of : {X : Type 0} → ℕ → List X → List X
last_of n frames = drop (length frames - n) frames

-- the frames of the current notice that have ended: the last ones of all that have ended, as many as the notice has
abbrev pub notice_frames : List Moment → List (List (List ℕ)) → List (List ℕ)
notice_frames past frames = map row_of (last_of (length (rows past)) (take (frames_ended past) frames))

-- FIBs that were cut into frames, as bytes: those that are skipped, those of each frame, and those that are left over
pub record IsCutOf (r : Reading) (fibs : List (List ℕ)) (skipped : List Fib) (frames : List (List Fib))
    (rest : List Fib) : Type 0 where
  pub before : List (List ℕ)
  pub bytes : List (List (List ℕ))
  pub after : List (List ℕ)
  pub whole : fibs ≡ before ++ (flat_map (λ frame. frame) bytes ++ after)
  pub skips : map r.read before ≡ skipped
  pub reads : read_frames r bytes ≡ frames
  pub leaves : map r.read after ≡ rest

-- the law of cutting: the frames into which a stream is cut are frames of its bytes
abbrev pub FramesAreOfBytes : Type 0
FramesAreOfBytes =
    (r : Reading) (size : ℕ) (fibs : List (List ℕ)) (skipped : List Fib) (frames : List (List Fib)) (rest : List Fib)
    → IsFramed size (map r.read fibs) skipped frames rest → IsCutOf r fibs skipped frames rest
