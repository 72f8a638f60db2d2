-- How a list of entries is divided over a sequence of FIBs, and which division is the packing. A page has as many FIBs
-- as a frame has that are not reserved.
use Rattle.std.specs.Prelude.{◌≡◌, ℕ, ◌+◌, ◌/◌, ◌%◌, ◌≤◌, ◌==◌, Bool, true, false, ◌&&◌, List, [], ◌∷◌, length}
use Rattle.std.specs.Prelude.{slice_index, Option, Some, None, if◌then◌else◌}
use Rattle.mux_types.specs.Facts.{Marked}
use Rattle.std.specs.List.{AllByRecursion}
use Rattle.fib_codec.specs.Layouts.{used_fibs}
use Rattle.fib_codec.specs.Spelling.{head_of, entry_size}
use Rattle.fib_codec.specs.declared.frame_layout.FrameLayout.{FrameLayout}
use Rattle.fib_codec.specs.declared.head.Head.{Head}

-- the bytes that the FIGs of entries may take in FIB n of the sequence: the first FIB of a page leaves room for the
-- longest FIG 0/0, which has 7 bytes of the 30
abbrev pub room : FrameLayout → ℕ → ℕ
room layout n = if n % used_fibs layout == 0 then 23 else 30

abbrev pub size_of : Marked → ℕ
size_of e = entry_size e.entry

abbrev pub same_flag : Bool → Bool → Bool
same_flag true b = b
same_flag false b = if b then false else true

abbrev pub same_head : Head → Head → Bool
same_head g h = same_flag g.next h.next && same_flag g.oe h.oe && same_flag g.long h.long && g.ext == h.ext

-- what an entry takes after one with this head in the same FIB, or as its first: successive entries with the same head
-- share a FIG, which has one header and one second byte
abbrev pub cost : Option Head → Marked → ℕ
cost None e = 2 + size_of e
cost (Some h) e = if same_head h (head_of e) then size_of e else 2 + size_of e

-- what the FIGs of these entries take in one FIB, after an entry with this head
abbrev pub figs_size : Option Head → List Marked → ℕ
figs_size h [] = 0
figs_size h (e ∷ es) = cost h e + figs_size (Some (head_of e)) es

-- the entries whose FIB numbers pass a test
abbrev pub entries_where : (ℕ → Bool) → List Marked → List ℕ → List Marked
entries_where test [] ns = []
entries_where test (e ∷ es) [] = []
entries_where test (e ∷ es) (n ∷ ns) = if test n then e ∷ entries_where test es ns else entries_where test es ns

-- the entries of FIB n, and of page k, if the entries are in the FIBs with these numbers
abbrev pub entries_in_fib : ℕ → List Marked → List ℕ → List Marked
entries_in_fib n es ns = entries_where (λ m. m == n) es ns

abbrev pub entries_in_page : FrameLayout → ℕ → List Marked → List ℕ → List Marked
entries_in_page layout k es ns = entries_where (λ m. m / used_fibs layout == k) es ns

abbrev pub NeverFalls : ℕ → List ℕ → Type 0
NeverFalls low [] = Unit {0}
NeverFalls low (n ∷ ns) = (low ≤ n) × NeverFalls n ns

-- a division gives each entry a FIB number, never decreasing along the list, such that the FIGs of each FIB fit its
-- room
pub record IsDivision (layout : FrameLayout) (es : List Marked) (ns : List ℕ) : Type 0 where
  pub each : length ns ≡ length es
  pub rising : NeverFalls 0 ns
  pub fits : (n : ℕ) → figs_size None (entries_in_fib n es ns) ≤ room layout n

-- the packing is the division in which every entry's number is least among all divisions
pub record IsPacking (layout : FrameLayout) (es : List Marked) (ns : List ℕ) : Type 0 where
  pub division : IsDivision layout es ns
  pub least : (ms : List ℕ) → IsDivision layout es ms → (i : ℕ) → slice_index ns i ≤ slice_index ms i

-- every entry fits in a FIB that is not the first of a page: a list with a larger entry has no division
abbrev pub AreSmall : List Marked → Type 0
AreSmall es = AllByRecursion (λ e. size_of e ≤ 28) es

-- the last FIB number, and the number of pages, which is 1 if there are no entries
abbrev pub last_number : ℕ → List ℕ → ℕ
last_number n [] = n
last_number n (m ∷ ms) = last_number m ms

abbrev pub rounds_of : FrameLayout → List ℕ → ℕ
rounds_of layout ns = last_number 0 ns / used_fibs layout + 1

-- a list has at most one packing
abbrev pub PackingIsOne : Type 0
PackingIsOne =
    (layout : FrameLayout) (es : List Marked) (ns ms : List ℕ)
    → IsPacking layout es ns → IsPacking layout es ms → ns ≡ ms

-- a list with a division has no entry that is too large for a FIB
abbrev pub DividedAreSmall : Type 0
DividedAreSmall = (layout : FrameLayout) (es : List Marked) (ns : List ℕ) → IsDivision layout es ns → AreSmall es
