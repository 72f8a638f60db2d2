-- Streams without a fault, and the entries in them.
use Rattle.std.specs.Prelude.{◌≡◌, ℕ, false, List, [], ◌∷◌, ◌++◌}
use Rattle.std.specs.List.{AllByRecursion}
use Rattle.stream_check.specs.declared.finding.What.{What}
use Rattle.stream_check.specs.declared.finding.What.TheVariants as whats
use Rattle.stream_check.specs.Frames.{Fib}
use Rattle.stream_check.specs.History.{Item, Moment, said, frame_items}
use Rattle.stream_check.specs.Stream.{findings_of, after_frames, frames_full}

abbrev pub IsNoFault : What → Type 0
IsNoFault (whats.Event e) = Unit {0}
IsNoFault (whats.Fault f) = ⊥

-- all findings in these frames are events, and each picture has room for its entries
pub record IsFaultless (size step period : ℕ) (frames : List (List Fib)) : Type 0 where
  pub room : frames_full step period [] frames ≡ false
  pub plain : AllByRecursion (λ found. IsNoFault found.what) (findings_of size step period [] frames)

-- this entry is sent in one of the frames, after all that is in `past`
pub record IsSaidIn (step : ℕ) (frames : List (List Fib)) (past : List Moment) (i : Item) : Type 0 where
  pub before : List (List Fib)
  pub frame : List Fib
  pub after : List (List Fib)
  pub front : List Item
  pub back : List Item
  pub frames_are : frames ≡ before ++ frame ∷ after
  pub items_are : frame_items frame ≡ front ++ i ∷ back
  pub past_is : past ≡ said front (after_frames step [] before)
