-- The rule that computes the packing. It need not be trusted: the laws below say that its result is the packing, and
-- that a list has no other.
use Rattle.std.specs.Prelude.{ℕ, ◌+◌, ◌≤◌, List, [], ◌∷◌, Some, None, if◌then◌else◌, nat_le}
use Rattle.mux_types.specs.Facts.{Marked}
use Rattle.fib_codec.specs.Spelling.{head_of}
use Rattle.fib_codec.specs.declared.frame_layout.FrameLayout.{FrameLayout}
use Rattle.fib_carousel.specs.declared.pack_state.PackState.{PackState}
use Rattle.fib_carousel.specs.Packing.{room, size_of, cost, IsDivision, IsPacking, AreSmall, last_number, rounds_of}

-- before the first entry
abbrev pub start : PackState
start = record { fib = 0; used = 0; head = None }

-- an entry added to the FIB of the previous one, and an entry as the first of FIB n
abbrev pub extended : Marked → PackState → PackState
extended e p = record { fib = p.fib; used = p.used + cost p.head e; head = Some (head_of e) }

abbrev pub opened : Marked → ℕ → PackState
opened e n = record { fib = n; used = 2 + size_of e; head = Some (head_of e) }

-- an entry goes into the FIB of the previous entry if it fits, else into the next FIB in which it fits: of two
-- successive FIBs at most one is the first of a page
abbrev pub placed : FrameLayout → Marked → PackState → PackState
placed layout e p =
    if nat_le (p.used + cost p.head e) (room layout p.fib) then extended e p
    else (if nat_le (2 + size_of e) (room layout (p.fib + 1)) then opened e (p.fib + 1) else opened e (p.fib + 2))

abbrev pub numbers_from : FrameLayout → PackState → List Marked → List ℕ
numbers_from layout p [] = []
numbers_from layout p (e ∷ es) = (placed layout e p).fib ∷ numbers_from layout (placed layout e p) es

abbrev pub packing : FrameLayout → List Marked → List ℕ
packing layout es = numbers_from layout start es

-- the rule gives the packing of every list that has a division
abbrev pub GreedyIsPacking : Type 0
GreedyIsPacking = (layout : FrameLayout) (es : List Marked) → AreSmall es → IsPacking layout es (packing layout es)

-- no division takes fewer FIBs or fewer pages
abbrev pub NoFewer : Type 0
NoFewer =
    (layout : FrameLayout) (es : List Marked) (ms : List ℕ) → IsDivision layout es ms
    → (last_number 0 (packing layout es) ≤ last_number 0 ms)
    × (rounds_of layout (packing layout es) ≤ rounds_of layout ms)
