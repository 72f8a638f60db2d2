-- How an entry is added to the FIGs of a FIB. No public contract depends on this.
use Rattle.std.specs.Prelude.{◌≡◌, ℕ, ◌+◌, ◌<◌, ◌≤◌, Bool, true, false, Option, Some, None, List, [], ◌∷◌, ◌++◌, length}
use Rattle.std.specs.Prelude.{slice_index_or, slice_set}
use Rattle.fib_codec.specs.Spelling.{head_byte}
use Rattle.fib_carousel.specs.declared.pack_state.EntryShape.{EntryShape}
use Rattle.fib_carousel.specs.declared.page_writer.OpenFig.{OpenFig}
use Rattle.fib_carousel.specs.Packing.{same_head}

-- a FIG is begun for an entry of this shape
pub record Begins (s : EntryShape) (old : List ℕ) (fig : OpenFig) (new : List ℕ) : Type 0 where
  pub head : fig.head ≡ s.head
  pub place : fig.place ≡ length old
  pub bytes : new ≡ old ++ (1 + s.size) ∷ head_byte s.head ∷ []

-- the last FIG is lengthened by the entry
pub record Lengthens (f : OpenFig) (s : EntryShape) (old : List ℕ) (fig : OpenFig) (new : List ℕ) : Type 0 where
  pub same : fig ≡ f
  pub bytes : new ≡ slice_set old f.place (slice_index_or old f.place 0 + s.size)

-- the last FIG is lengthened if it has the entry's head; otherwise a FIG is begun
abbrev pub GrowsBy : Bool → OpenFig → EntryShape → List ℕ → OpenFig → List ℕ → Type 0
GrowsBy true f s old fig new = Lengthens f s old fig new
GrowsBy false f s old fig new = Begins s old fig new

abbrev pub Grows : Option OpenFig → EntryShape → List ℕ → OpenFig → List ℕ → Type 0
Grows None s old fig new = Begins s old fig new
Grows (Some f) s old fig new = GrowsBy (same_head f.head s.head) f s old fig new

-- there is room for the entry
abbrev pub FitsBy : Bool → OpenFig → EntryShape → List ℕ → Type 0
FitsBy true f s old = (f.place < length old) × (slice_index_or old f.place 0 + s.size ≤ 255)
FitsBy false f s old = length old + 2 + s.size ≤ 30

abbrev pub TakesEntry : Option OpenFig → EntryShape → List ℕ → Type 0
TakesEntry None s old = length old + 2 + s.size ≤ 30
TakesEntry (Some f) s old = FitsBy (same_head f.head s.head) f s old
