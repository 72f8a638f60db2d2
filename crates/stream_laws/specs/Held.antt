-- Which swaps are announced in a stream without a fault, and what holds of the others (EN 300 401 clause 6.5).
use Rattle.std.specs.Prelude.{◌≡◌, ◌⊎◌, ℕ, ◌<◌, ◌%◌, Bool, true, List, flat_map, Contains, Some}
use Rattle.std.specs.List.{AllByRecursion}
use Rattle.mux_types.specs.Entries.{EnsembleInformation}
use Rattle.fib_codec.specs.Heard.{IsEnsembleHeardInRow}
use Rattle.stream_check.specs.Frames.{Fib, Reading, first_of_frame}
use Rattle.stream_check.specs.History.{Item, Moment, ensemble_of_item, listener_after, is_swap, last_flags}
use Rattle.stream_laws.specs.Faultless.{IsFaultless, IsSaidIn}
use Rattle.stream_laws.specs.Notices.{AreFibBytes, read_frames, notice_frames}
use Rattle.stream_laws.specs.Entries.{AnnouncesChange}
use Rattle.stream_laws.specs.Staying.{last_swap}

-- the first FIG 0/0 of these frames has no change flags
abbrev pub BeginsUnflagged : List (List Fib) → Type 0
BeginsUnflagged frames =
    (e : EnsembleInformation) → first_of_frame (flat_map (λ frame. frame) frames) ≡ Some e → e.change ≡ 0

-- the law of whole notices: where the first FIG 0/0 of the stream has no change flags, each swap is announced as the
-- law of notices says; where it has some, each but the first
abbrev pub WholeNoticesAreHeld : Type 0
WholeNoticesAreHeld =
    (r : Reading) (size step period : ℕ) (frames : List (List (List ℕ))) (past : List Moment) (i : Item)
    → AllByRecursion AreFibBytes frames
    → IsFaultless size step period (read_frames r frames) → IsSaidIn step (read_frames r frames) past i
    → is_swap past i ≡ true → BeginsUnflagged (read_frames r frames) ⊎ (0 < last_swap past)
    → AnnouncesChange (listener_after past).current (listener_after past).next (ensemble_of_item i).count
    (notice_frames past frames)

-- the law of announced counts: at each swap, each FIG 0/0 in the frames of its notice that were heard has change flags,
-- the same in all, and the low part of the swap's count
abbrev pub CountsAreHeld : Type 0
CountsAreHeld =
    (r : Reading) (size step period : ℕ) (frames : List (List (List ℕ))) (past : List Moment) (i : Item)
    → AllByRecursion AreFibBytes frames
    → IsFaultless size step period (read_frames r frames) → IsSaidIn step (read_frames r frames) past i
    → is_swap past i ≡ true
    → (frame : List ℕ) (next : Bool) (e : EnsembleInformation)
    → Contains (notice_frames past frames) frame → IsEnsembleHeardInRow frame next e
    → (0 < e.change) × (e.change ≡ last_flags past) × (e.occurrence ≡ Some ((ensemble_of_item i).count % 250))
