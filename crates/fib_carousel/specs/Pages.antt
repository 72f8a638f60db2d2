-- The entries of each page.
use Rattle.std.specs.Prelude.{◌≡◌, ℕ, ◌+◌, ◌-◌, ◌*◌, ◌<◌, ◌≤◌, zero, suc, true, false, List, [], ◌∷◌, ◌++◌, flat_map}
use Rattle.std.specs.Prelude.{Option, Some, None, Contains, if◌then◌else◌, nat_lt, option_map}
use Rattle.std.specs.List.{range_with_len}
use Rattle.mux_types.specs.Facts.{Marked, facts_of}
use Rattle.mux_config.specs.Configuration.{Configuration}
use Rattle.fib_codec.specs.Layouts.{used_fibs}
use Rattle.fib_codec.specs.declared.frame_layout.FrameLayout.{FrameLayout}
use Rattle.fib_carousel.specs.Packing.{rounds_of, entries_in_fib, entries_in_page}
use Rattle.fib_carousel.specs.Greedy.{packing}

-- the entries of a page set, in the packing's order: those of the current configuration with C/N 0, then those of the
-- next one, if given, with C/N 1
abbrev pub page_set : Configuration → Option Configuration → List Marked
page_set current None = facts_of current false
page_set current (Some next) = facts_of current false ++ facts_of next true

-- the page set of stores that hold these configurations
abbrev pub page_set_of : {S : Type 0} → (S → Configuration) → S → Option S → List Marked
page_set_of content current next = page_set (content current) (option_map content next)

-- the number of pages that the entries take, at least 1
abbrev pub rounds : FrameLayout → List Marked → ℕ
rounds layout es = rounds_of layout (packing layout es)

-- the page after page k of this many pages: page 0 again after the last
abbrev pub page_after : ℕ → ℕ → ℕ
page_after pages k = if nat_lt (k + 1) pages then k + 1 else 0

-- the FIB numbers of page k: the first one, and the others
abbrev pub first_fib : FrameLayout → ℕ → ℕ
first_fib layout k = used_fibs layout * k

abbrev pub later_fibs : FrameLayout → ℕ → List ℕ
later_fibs layout k = range_with_len (first_fib layout k + 1) (used_fibs layout - 1)

abbrev pub fibs_of_page : FrameLayout → ℕ → List ℕ
fibs_of_page layout k = first_fib layout k ∷ later_fibs layout k

abbrev pub fib_entries : FrameLayout → ℕ → List Marked → List Marked
fib_entries layout n es = entries_in_fib n es (packing layout es)

abbrev pub page_entries : FrameLayout → ℕ → List Marked → List Marked
page_entries layout k es = entries_in_page layout k es (packing layout es)

-- the entries of the first k pages
abbrev pub pages_below : FrameLayout → ℕ → List Marked → List Marked
pages_below layout zero es = []
pages_below layout (suc k) es = pages_below layout k es ++ page_entries layout k es

-- all pages together have each entry once, in order, and no other
abbrev pub PagesAreAll : Type 0
PagesAreAll = (layout : FrameLayout) (es : List Marked) → pages_below layout (rounds layout es) es ≡ es

abbrev pub EachInAPage : Type 0
EachInAPage =
    (layout : FrameLayout) (es : List Marked) (e : Marked) → Contains es e
    → (k : ℕ) × (k < rounds layout es) × Contains (page_entries layout k es) e

abbrev pub NoneBeyond : Type 0
NoneBeyond = (layout : FrameLayout) (es : List Marked) (k : ℕ) → rounds layout es ≤ k → page_entries layout k es ≡ []

-- a page consists of as many successive FIBs as the layout does not reserve
abbrev pub PageIsFibs : Type 0
PageIsFibs =
    (layout : FrameLayout) (es : List Marked) (k : ℕ)
    → page_entries layout k es ≡ flat_map (λ n. fib_entries layout n es) (fibs_of_page layout k)
