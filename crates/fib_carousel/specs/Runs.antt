-- Placing entries one after another, and runs of entries with the same head and size. No public contract depends on
-- this.
use Rattle.std.specs.Prelude.{◌≡◌, ℕ, zero, suc, ◌+◌, ◌<◌, ◌≤◌, Bool, false, List, [], ◌∷◌, Option, Some, None}
use Rattle.std.specs.Prelude.{if◌then◌else◌, nat_le}
use Rattle.mux_types.specs.Facts.{Marked}
use Rattle.fib_codec.specs.Spelling.{head_of}
use Rattle.fib_codec.specs.declared.head.Head.{Head}
use Rattle.fib_codec.specs.declared.frame_layout.FrameLayout.{FrameLayout}
use Rattle.fib_carousel.specs.declared.pack_state.EntryShape.{EntryShape}
use Rattle.fib_carousel.specs.declared.pack_state.PackState.{PackState}
use Rattle.fib_carousel.specs.Packing.{room, same_head, size_of}
use Rattle.fib_carousel.specs.Greedy.{placed}

abbrev pub shape_of : Marked → EntryShape
shape_of m = record { head = head_of m; size = size_of m }

-- the shape of all entries of FIG 0/1 in the long form, and of all entries of FIG 0/3 without CAOrg
abbrev pub sub_shape : Bool → EntryShape
sub_shape next = record { head = record { next = next; oe = false; long = false; ext = 1 }; size = 4 }

abbrev pub packet_shape : Bool → EntryShape
packet_shape next = record { head = record { next = next; oe = false; long = false; ext = 3 }; size = 5 }

-- what an entry of this shape takes after one with this head, and the state after placing it
abbrev pub shape_cost : Option Head → EntryShape → ℕ
shape_cost None s = 2 + s.size
shape_cost (Some h) s = if same_head h s.head then s.size else 2 + s.size

abbrev pub state_at : EntryShape → ℕ → ℕ → PackState
state_at s fib used = record { fib = fib; used = used; head = Some s.head }

abbrev pub step : FrameLayout → EntryShape → PackState → PackState
step layout s p =
    if nat_le (p.used + shape_cost p.head s) (room layout p.fib) then state_at s p.fib (p.used + shape_cost p.head s)
    else (if nat_le (2 + s.size) (room layout (p.fib + 1)) then state_at s (p.fib + 1) (2 + s.size) else state_at s
    (p.fib + 2) (2 + s.size))

-- the state after placing this many entries of one shape
abbrev pub steps : FrameLayout → EntryShape → ℕ → PackState → PackState
steps layout s zero p = p
steps layout s (suc n) p = steps layout s n (step layout s p)

-- a state whose FIB is closed: every entry goes after it
abbrev pub closed : PackState → PackState
closed p = record { fib = p.fib; used = 30; head = None }

-- the state after placing the entries of a list
abbrev pub all_placed : FrameLayout → List Marked → PackState → PackState
all_placed layout [] p = p
all_placed layout (e ∷ es) p = all_placed layout es (placed layout e p)

-- the state after placing an entry of this shape, in FIB `number` or an earlier one
pub record IsThenWithin (layout : FrameLayout) (s : EntryShape) (number : ℕ) (p q : PackState) : Type 0 where
  pub is : (m : Marked) → s.head ≡ head_of m → s.size ≡ size_of m → q ≡ placed layout m p
  pub used : q.used ≤ 30
  pub low : q.fib ≤ number
  pub near : q.fib ≤ p.fib + 2

-- an entry of this shape goes into a FIB after FIB `number`
abbrev pub IsPlacedAfter : FrameLayout → EntryShape → ℕ → PackState → Type 0
IsPlacedAfter layout s number p = (m : Marked) → s.head ≡ head_of m → s.size ≡ size_of m
    → number < (placed layout m p).fib
