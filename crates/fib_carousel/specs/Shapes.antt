-- Successive entries with the same head and size, which are appended to a FIB together. No public contract depends on
-- this.
use Rattle.std.specs.Prelude.{◌≡◌, ℕ, ◌+◌, ◌*◌, ◌≤◌, List, ◌++◌, length, map, take, drop}
use Rattle.std.specs.List.{AllByRecursion}
use Rattle.mux_types.specs.Facts.{Marked}
use Rattle.fib_codec.specs.Spelling.{entries_bytes}
use Rattle.fib_carousel.specs.declared.pack_state.EntryShape.{EntryShape}
use Rattle.fib_carousel.specs.Runs.{shape_of}

-- this many entries from an index on
abbrev pub piece : List Marked → ℕ → ℕ → List Marked
piece ms index count = take count (drop index ms)

-- the entries have this head and size
abbrev pub AreAlike : EntryShape → List Marked → Type 0
AreAlike shape ms = AllByRecursion (λ m. shape_of m ≡ shape) ms

pub record IsRun (ms : List Marked) (index count : ℕ) (shape : EntryShape) : Type 0 where
  pub inside : index + count ≤ length ms
  pub alike : AreAlike shape (piece ms index count)

-- the bytes of the entries, concatenated
abbrev pub marked_bytes : List Marked → List ℕ
marked_bytes ms = entries_bytes (map (λ (m : Marked). m.entry) ms)

-- a run of this shape is appended: at least one entry, and no more than fit in the room
pub record PutsRun (ms : List Marked) (index : ℕ) (shape : EntryShape) (room count : ℕ) (old new : List ℕ) : Type
    0 where
  pub some : 1 ≤ count
  pub run : IsRun ms index count shape
  pub fits : count * shape.size ≤ room
  pub bytes : new ≡ old ++ marked_bytes (piece ms index count)

-- a FIB has space for each run from an index on that fits in the room
abbrev pub TakesRuns : List Marked → ℕ → ℕ → List ℕ → Type 0
TakesRuns ms index room old = (n : ℕ) (s : EntryShape) → IsRun ms index n s → n * s.size ≤ room
    → length old + n * s.size ≤ 30
