-- What a receiver decodes from the bytes of a page.
use Rattle.std.specs.Prelude.{◌≡◌, ℕ, ◌*◌, ◌≤◌, ◌↔◌, Bool, false, List, length, Option, Some, IfSome, Contains}
use Rattle.mux_config.specs.Configuration.{Configuration, IsConfiguration}
use Rattle.std.specs.List.{AllByRecursion}
use Rattle.mux_types.specs.Entries.{EnsembleInformation}
use Rattle.mux_types.specs.Facts.{Marked}
use Rattle.fib_codec.specs.Layouts.{frame_fibs, KeepsReserve}
use Rattle.fib_codec.specs.Ranges.{IsEnsembleInformation, IsWithin}
use Rattle.fib_codec.specs.Spelling.{ext_of}
use Rattle.fib_codec.specs.Heard.{IsHeardInRow, IsEnsembleHeardInRow}
use Rattle.fib_codec.specs.declared.frame_layout.FrameLayout.{FrameLayout}
use Rattle.fib_carousel.specs.Packing.{size_of}
use Rattle.fib_carousel.specs.Pages.{page_set, page_entries}
use Rattle.fib_carousel.specs.Bytes.{page_bytes, page_figs, AreFibs}

-- an entry that a page can carry: of FIG 0/1 to 0/3, with its fields within their bits, and small enough for a FIB
pub record IsSendable (m : Marked) : Type 0 where
  pub organization : 1 ≤ ext_of m.entry
  pub within : IsWithin m.entry
  pub small : size_of m ≤ 28

abbrev pub AreSendable : List Marked → Type 0
AreSendable ms = AllByRecursion IsSendable ms

-- what a page requires: entries that it can carry, and ensemble information within its bits
pub record IsPageable (ensemble : Option EnsembleInformation) (ms : List Marked) : Type 0 where
  pub entries : AreSendable ms
  pub ensemble_within : IfSome ensemble IsEnsembleInformation

-- the entries of configurations satisfy this
abbrev pub PageSetsArePageable : Type 0
PageSetsArePageable =
    (current : Configuration) (next : Option Configuration) (ensemble : Option EnsembleInformation)
    → IsConfiguration current → IfSome next IsConfiguration → IfSome ensemble IsEnsembleInformation
    → IsPageable ensemble (page_set current next)

-- a page consists of as many valid FIBs as a frame of the mode has, with the FIG 0/0 given and the FIGs of its entries
abbrev pub PagesAreValid : Type 0
PagesAreValid =
    (layout : FrameLayout) (ensemble : Option EnsembleInformation) (k : ℕ) (ms : List Marked) → IsPageable ensemble ms
    → AreFibs (page_figs layout ensemble k ms) (page_bytes layout ensemble k ms)
    × (length (page_bytes layout ensemble k ms) ≡ 32 * frame_fibs layout)

-- the entries of FIG 0/1 to 0/3 decoded from a page's bytes are that page's entries, and no others
abbrev pub PagesAreHeard : Type 0
PagesAreHeard =
    (layout : FrameLayout) (ensemble : Option EnsembleInformation) (k : ℕ) (ms : List Marked) → IsPageable ensemble ms
    → (m : Marked) → IsHeardInRow (page_bytes layout ensemble k ms) m ↔ Contains (page_entries layout k ms) m

-- the ensemble information decoded from them is the one given, as FIG 0/0 with C/N 0, and no other
abbrev pub EnsembleIsCarried : Type 0
EnsembleIsCarried =
    (layout : FrameLayout) (ensemble : Option EnsembleInformation) (k : ℕ) (ms : List Marked) → IsPageable ensemble ms
    → (next : Bool) (e : EnsembleInformation)
    → IsEnsembleHeardInRow (page_bytes layout ensemble k ms) next e ↔ ((next ≡ false) × (ensemble ≡ Some e))

-- the reserved FIBs are empty
abbrev pub PagesKeepReserve : Type 0
PagesKeepReserve =
    (layout : FrameLayout) (ensemble : Option EnsembleInformation) (k : ℕ) (ms : List Marked) → IsPageable ensemble ms
    → KeepsReserve layout (page_bytes layout ensemble k ms)
