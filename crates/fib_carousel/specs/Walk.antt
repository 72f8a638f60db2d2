-- Positions in the list of entries, and the page of a cursor. No public contract depends on the record Position: a new
-- cursor is at page 0, and each page moves it to the next one.
use Rattle.std.specs.Prelude.{◌≡◌, ℕ, ◌*◌, ◌<◌, ◌≤◌, ◌⊎◌, List, ◌∷◌, drop, length, slice_get, Some}
use Rattle.mux_types.specs.Facts.{Marked}
use Rattle.fib_codec.specs.Spelling.{head_of}
use Rattle.fib_codec.specs.declared.frame_layout.FrameLayout.{FrameLayout}
use Rattle.fib_carousel.specs.declared.pack_state.EntryShape.{EntryShape}
use Rattle.fib_carousel.specs.declared.pack_state.Position.{Position}
use Rattle.fib_carousel.specs.declared.page_cursor.Cursor.{Cursor}
use Rattle.fib_carousel.specs.Packing.{size_of, entries_in_fib, last_number}
use Rattle.fib_carousel.specs.Greedy.{placed, numbers_from, packing}
use Rattle.fib_carousel.specs.Pages.{fib_entries, first_fib, rounds}

-- the entry at an index has this head and size
pub record IsShapeAt (ms : List Marked) (index : ℕ) (shape : EntryShape) : Type 0 where
  pub entry : Marked
  pub here : slice_get ms index ≡ Some entry
  pub head : shape.head ≡ head_of entry
  pub size : shape.size ≡ size_of entry

-- from the position on, the rule gives FIB n and later ones what the packing gives them
pub record IsAtFib (layout : FrameLayout) (ms : List Marked) (n : ℕ) (p : Position) : Type 0 where
  pub index : p.index ≤ length ms
  pub used : p.state.used ≤ 30
  pub fib : p.state.fib ≤ 2 * p.index
  pub below : p.state.fib ≤ n
  pub rest : (m : ℕ) → n ≤ m → entries_in_fib m (drop p.index ms) (numbers_from layout p.state (drop p.index ms))
      ≡ fib_entries layout m ms
  pub last : last_number p.state.fib (numbers_from layout p.state (drop p.index ms)) ≡ last_number 0 (packing layout ms)

-- no entry is left after FIB n, or the last one is past it
pub record HasPassed (layout : FrameLayout) (ms : List Marked) (n : ℕ) (p : Position) : Type 0 where
  pub fib : p.state.fib ≤ n
  pub left : (p.index ≡ length ms) ⊎ (n < last_number 0 (packing layout ms))

-- the next remaining entry goes past FIB n
abbrev pub NextIsAfter : FrameLayout → List Marked → ℕ → Position → Type 0
NextIsAfter layout ms n p =
    (m : Marked) (rest : List Marked) → drop p.index ms ≡ m ∷ rest → n < (placed layout m p.state).fib

-- the current page of a cursor
abbrev pub cursor_page : Cursor → ℕ
cursor_page c = c.page

-- it is a page of these entries, and the cursor's position in the list is where that page starts
pub record IsAtPageStart (layout : FrameLayout) (ms : List Marked) (c : Cursor) : Type 0 where
  pub within : cursor_page c < rounds layout ms
  pub before : IsAtFib layout ms (first_fib layout (cursor_page c)) c.position

-- the cursor is at page k of these entries
abbrev pub IsAtPage : FrameLayout → List Marked → ℕ → Cursor → Type 0
IsAtPage layout ms k c = IsAtPageStart layout ms c × (cursor_page c ≡ k)

-- the cursor is at page 0, whatever the entries are
pub record IsAtFirstPage (c : Cursor) : Type 0 where
  pub page : cursor_page c ≡ 0
  pub stands : (layout : FrameLayout) (ms : List Marked) → IsAtPageStart layout ms c
