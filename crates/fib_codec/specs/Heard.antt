-- The entries that a receiver decodes from FIBs, by the grammar alone (EN 300 401 clauses 5.2.2.1, 6.2.1, 6.3.1, 6.3.2
-- and 6.4).
use Rattle.std.specs.Prelude.{◌≡◌, ℕ, ◌*◌, ◌%◌, ◌≤◌, ◌↔◌, Bool, if◌then◌else◌, List, [], map, flat_map, take, drop}
use Rattle.std.specs.Prelude.{Contains}
use Rattle.std.specs.List.{AllByRecursion}
use Rattle.mux_types.specs.Entries.{EnsembleInformation}
use Rattle.mux_types.specs.Facts.{Marked, marked}
use Rattle.mux_types.specs.declared.entry.Entry.TheVariants.{Ensemble as EnsembleOf}
use Rattle.fib_codec.specs.Ranges.{IsWithin}
use Rattle.fib_codec.specs.Spelling.{entry_bytes, ext_of, is_long_entry, Written, IsWritten}
use Rattle.fib_codec.specs.Grammar.{Fig, Open, Other, IsFib, fig_of, is_next, is_long}

-- these bytes, in a FIG with this second byte, are the tagged entry: its extension, its C/N flag, for a service the P/D
-- flag of its SId, and its encoding
pub record IsSaid (second : ℕ) (bytes : List ℕ) (m : Marked) : Type 0 where
  pub ext : second % 32 ≡ ext_of m.entry
  pub next : is_next second ≡ m.next
  pub long : ext_of m.entry ≡ 2 → is_long second ≡ is_long_entry m.entry
  pub spelled : bytes ≡ entry_bytes m.entry
  pub within : IsWithin m.entry

-- the tagged entry is in a FIG that is parsed, which is one of this ensemble
abbrev pub IsInFig : Fig → Marked → Type 0
IsInFig (Open second es) m = (bytes : List ℕ) × Contains es bytes × IsSaid second bytes m
IsInFig (Other given) m = ⊥

-- the tagged entry is in the FIB
abbrev pub IsInFib : List ℕ → Marked → Type 0
IsInFib bytes m = (figs : List Fig) × (fig : Fig) × IsFib bytes figs × Contains figs fig × IsInFig fig m

-- an entry of FIG 0/1 to 0/3 that is decoded from the FIB
pub record IsHeard (bytes : List ℕ) (m : Marked) : Type 0 where
  pub organization : 1 ≤ ext_of m.entry
  pub inside : IsInFib bytes m

-- ensemble information, FIG 0/0, that is decoded from the FIB with this C/N flag
abbrev pub IsEnsembleHeard : List ℕ → Bool → EnsembleInformation → Type 0
IsEnsembleHeard bytes next e = IsInFib bytes (record { next = next; entry = EnsembleOf e })

-- the FIB at an index in a sequence of FIBs, from 0
abbrev pub fib_at : List ℕ → ℕ → List ℕ
fib_at bytes place = take 32 (drop (32 * place) bytes)

-- the same for some FIB of a sequence, such as the three of a frame
abbrev pub IsHeardInRow : List ℕ → Marked → Type 0
IsHeardInRow bytes m = (place : ℕ) × IsHeard (fib_at bytes place) m

abbrev pub IsEnsembleHeardInRow : List ℕ → Bool → EnsembleInformation → Type 0
IsEnsembleHeardInRow bytes next e = (place : ℕ) × IsEnsembleHeard (fib_at bytes place) next e

-- the entries of a written FIG with the C/N flag of its head, but none of another ensemble
abbrev pub marked_by : Written → List Marked
marked_by w = if w.head.oe then [] else map (marked w.head.next) w.entries

abbrev pub marked_of : List Written → List Marked
marked_of figs = flat_map marked_by figs

-- a FIB that contains written FIGs has exactly their tagged entries
abbrev pub HeardIsWritten : Type 0
HeardIsWritten =
    (bytes : List ℕ) (figs : List Written) → AllByRecursion IsWritten figs → IsFib bytes (map fig_of figs)
    → (m : Marked) → IsInFib bytes m ↔ Contains (marked_of figs) m
