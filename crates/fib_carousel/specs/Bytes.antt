-- The bytes of the FIBs of a page (EN 300 401 clauses 5.2.1, 5.2.2 and 6.4).
use Rattle.std.specs.Prelude.{◌≡◌, map, flat_map, take, drop, replicate, ℕ, false, if◌then◌else◌, Option, Some, None}
use Rattle.std.specs.Prelude.{List, [], ◌∷◌, ◌++◌}
use Rattle.mux_types.specs.Entries.{EnsembleInformation}
use Rattle.mux_types.specs.Facts.{Marked, marked}
use Rattle.mux_types.specs.declared.entry.Entry.TheVariants.{Ensemble as EnsembleOf}
use Rattle.mux_types.specs.declared.entry.Entry.{Entry}
use Rattle.fib_codec.specs.declared.head.Head.{Head}
use Rattle.fib_codec.specs.Spelling.{Written, head_of, fib_bytes}
use Rattle.fib_codec.specs.Grammar.{IsValid, fig_of}
use Rattle.fib_codec.specs.declared.frame_layout.FrameLayout.{FrameLayout}
use Rattle.fib_codec.specs.Layouts.{reserved_fibs}
use Rattle.fib_carousel.specs.Packing.{same_head, entries_in_fib}
use Rattle.fib_carousel.specs.Greedy.{packing}
use Rattle.fib_carousel.specs.Pages.{first_fib, later_fibs}

-- successive entries with the same head share a FIG
abbrev pub with_entry_first : Marked → List Written → List Written
with_entry_first m [] = record { head = head_of m; entries = m.entry ∷ [] } ∷ []
with_entry_first m (f ∷ fs) =
    if same_head (head_of m) f.head then record { head = f.head; entries = m.entry ∷ f.entries } ∷ fs
    else record { head = head_of m; entries = m.entry ∷ [] } ∷ f ∷ fs

abbrev pub figs_of : List Marked → List Written
figs_of [] = []
figs_of (m ∷ ms) = with_entry_first m (figs_of ms)

-- the entries at the front that have this head
abbrev pub run_of : Head → List Marked → List Entry
run_of head [] = []
run_of head (m ∷ ms) = if same_head head (head_of m) then m.entry ∷ run_of head ms else []

-- FIG 0/0, if given: of this ensemble, with C/N 0 and P/D 0
abbrev pub ensemble_figs : Option EnsembleInformation → List Written
ensemble_figs None = []
ensemble_figs (Some e) = record { head = head_of (marked false (EnsembleOf e)); entries = EnsembleOf e ∷ [] } ∷ []

-- the FIGs of the FIBs of page k, if the entries are in the FIBs with these numbers: FIG 0/0, if given, comes first in
-- the first of them
abbrev pub used_figs : FrameLayout → List ℕ → Option EnsembleInformation → ℕ → List Marked → List (List Written)
used_figs layout ns ensemble k ms =
    (ensemble_figs ensemble ++ figs_of (entries_in_fib (first_fib layout k) ms ns))
    ∷ map (λ n. figs_of (entries_in_fib n ms ns)) (later_fibs layout k)

-- the reserved FIBs have none
abbrev pub reserved_figs : FrameLayout → List (List Written)
reserved_figs layout = replicate (reserved_fibs layout) []

-- the FIGs of all FIBs of the frame in which page k is sent
abbrev pub figs_by : FrameLayout → List ℕ → Option EnsembleInformation → ℕ → List Marked → List (List Written)
figs_by layout ns ensemble k ms = used_figs layout ns ensemble k ms ++ reserved_figs layout

abbrev pub page_figs : FrameLayout → Option EnsembleInformation → ℕ → List Marked → List (List Written)
page_figs layout ensemble k ms = figs_by layout (packing layout ms) ensemble k ms

-- the bytes of page k of these entries, with this FIG 0/0: what is sent in one frame
abbrev pub page_bytes : FrameLayout → Option EnsembleInformation → ℕ → List Marked → List ℕ
page_bytes layout ensemble k ms = flat_map fib_bytes (page_figs layout ensemble k ms)

-- these bytes are valid FIBs, one after another, with exactly these FIGs
abbrev pub AreFibs : List (List Written) → List ℕ → Type 0
AreFibs [] bytes = bytes ≡ []
AreFibs (figs ∷ rest) bytes = IsValid (take 32 bytes) (map fig_of figs) × AreFibs rest (drop 32 bytes)
