-- What a stream without a fault sends before each swap, entry by entry, for any pictures
-- (EN 300 401 clauses 5.2.2.1, 6.4 and 6.5).
use Rattle.std.specs.Prelude.{◌≡◌, ℕ, ◌%◌, Bool, true, false, List, ◌++◌, Contains, Some}
use Rattle.std.specs.List.{AllByRecursion}
use Rattle.mux_types.specs.Entries.{EnsembleInformation}
use Rattle.fib_codec.specs.Grammar.{Fig, Open, IsFib, is_next}
use Rattle.fib_codec.specs.Heard.{fib_at, IsEnsembleHeardInRow}
use Rattle.fib_reader.specs.Raw.{Raw, entries_in}
use Rattle.fib_reader.specs.Listening.{Pictured}
use Rattle.stream_check.specs.Frames.{Reading}
use Rattle.stream_check.specs.History.{Item, Moment, ensemble_of_item, listener_after, is_swap, is_cut_off}
use Rattle.stream_check.specs.Rules.{change_between}
use Rattle.plan_runs.specs.Announced.{HasThreeHeaders}
use Rattle.stream_laws.specs.Faultless.{IsFaultless, IsSaidIn}
use Rattle.stream_laws.specs.Keeping.{entry_like}
use Rattle.stream_laws.specs.Notices.{AreFibBytes, read_frames, notice_frames}

-- the entry is in a FIB of this row of FIBs, with this C/N flag
pub record IsSent (next : Bool) (row : List ℕ) (raw : Raw) : Type 0 where
  pub place : ℕ
  pub figs : List Fig
  pub second : ℕ
  pub es : List (List ℕ)
  pub is_fib : IsFib (fib_at row place) figs
  pub inside : Contains figs (Open second es)
  pub tagged : is_next second ≡ next
  pub there : Contains (entries_in (Open second es)) raw

-- each entry of the picture is sent with C/N 1 in one of these frames
abbrev pub IsSentWhole : Pictured → List (List ℕ) → Type 0
IsSentWhole p frames = (raw : Raw) → entry_like raw p ≡ Some raw → (frame : List ℕ) × Contains frames frame
    × IsSent true frame raw

-- these frames announce the change from one picture to another at this count
pub record AnnouncesChange (now next : Pictured) (count : ℕ) (heard : List (List ℕ)) : Type 0 where
  pub first : List (List ℕ)
  pub second : List (List ℕ)
  pub third : List (List ℕ)
  pub cut : heard ≡ first ++ second ++ third
  pub whole_in_first : IsSentWhole next first
  pub whole_in_second : IsSentWhole next second
  pub whole_in_third : IsSentWhole next third
  pub headers : HasThreeHeaders heard
  pub flagged : (frame : List ℕ) (marked : Bool) (e : EnsembleInformation)
      → Contains heard frame → IsEnsembleHeardInRow frame marked e
      → (e.change ≡ change_between now next) × (e.occurrence ≡ Some (count % 250))

-- the law of notices: at each swap, unless the beginning of its notice was not heard, the bytes of the notice's frames
-- announce the change from the current picture before it to the next one
abbrev pub ChangesAreAnnounced : Type 0
ChangesAreAnnounced =
    (r : Reading) (size step period : ℕ) (frames : List (List (List ℕ))) (past : List Moment) (i : Item)
    → AllByRecursion AreFibBytes frames
    → IsFaultless size step period (read_frames r frames) → IsSaidIn step (read_frames r frames) past i
    → is_swap past i ≡ true → is_cut_off past ≡ false
    → AnnouncesChange (listener_after past).current (listener_after past).next (ensemble_of_item i).count
    (notice_frames past frames)
