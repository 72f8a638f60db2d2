-- FIBs as they are read, and what is known of them before they are heard.
use Rattle.std.specs.Prelude.{◌≡◌, ℕ, ◌+◌, ◌<◌, ◌≤◌, ◌==◌, ◌&&◌, Bool, true, false, not, if◌then◌else◌, List, [], ◌∷◌}
use Rattle.std.specs.Prelude.{◌++◌, length, flat_map, Option, Some, None}
use Rattle.std.specs.List.{AllByRecursion}
use Rattle.mux_types.specs.Entries.{EnsembleInformation}
use Rattle.fib_codec.specs.Grammar.{Fig, IsFib}
use Rattle.fib_reader.specs.Raw.{Raw, entries_in, ensemble_in}
use Rattle.stream_check.specs.declared.frame.FibSummary.{FibSummary}

-- ---- FIBs

-- a FIB as it is read: its FIGs, or None where it is damaged
abbrev pub Fib : Type 0
Fib = Option (List Fig)

abbrev pub Reads : List ℕ → Fib → Type 0
Reads bytes (Some figs) = IsFib bytes figs
Reads bytes None = (figs : List Fig) → IsFib bytes figs → ⊥

-- a reading of all FIBs by the grammar
pub record Reading : Type 0 where
  pub read : List ℕ → Fib
  pub right : (bytes : List ℕ) → Reads bytes (read bytes)

abbrev pub is_damaged : Fib → Bool
is_damaged None = true
is_damaged (Some figs) = false

-- the first FIG 0/0 among entries
abbrev pub first_raw : List Raw → Option EnsembleInformation
first_raw [] = None
first_raw (raw ∷ raws) = if raw.ext == 0 then Some (ensemble_in raw) else first_raw raws

abbrev pub first_or : Option EnsembleInformation → Option EnsembleInformation → Option EnsembleInformation
first_or None other = other
first_or (Some e) other = Some e

abbrev pub first_in_figs : List Fig → Option EnsembleInformation
first_in_figs [] = None
first_in_figs (f ∷ fs) = first_or (first_raw (entries_in f)) (first_in_figs fs)

abbrev pub first_in : Fib → Option EnsembleInformation
first_in None = None
first_in (Some figs) = first_in_figs figs

-- the FIG 0/0 that a FIB begins with
abbrev pub opening_in_figs : List Fig → Option EnsembleInformation
opening_in_figs [] = None
opening_in_figs (f ∷ fs) = first_raw (entries_in f)

abbrev pub opening : Fib → Option EnsembleInformation
opening None = None
opening (Some figs) = opening_in_figs figs

abbrev pub is_there : Option EnsembleInformation → Bool
is_there None = false
is_there (Some e) = true

abbrev pub begins_with_ensemble : Fib → Bool
begins_with_ensemble fib = is_there (opening fib)

abbrev pub holds_ensemble : Fib → Bool
holds_ensemble fib = is_there (first_in fib)

pub record IsSeen (summary : FibSummary) (fib : Fib) : Type 0 where
  pub damaged : summary.is_damaged ≡ is_damaged fib
  pub begins : summary.opening ≡ opening fib

-- ---- frames

-- one frame: no later FIB of it begins with a FIG 0/0
abbrev pub IsOneFrame : List Fib → Type 0
IsOneFrame [] = ⊥
IsOneFrame (fib ∷ fibs) = AllByRecursion (λ later. begins_with_ensemble later ≡ false) fibs

abbrev pub BeginsAnew : List Fib → Type 0
BeginsAnew [] = ⊥
BeginsAnew (fib ∷ fibs) = begins_with_ensemble fib ≡ true

-- frames one after the other, and the rest, which is not a frame. A frame has `size` FIBs, or fewer if the FIB
-- after it begins with a FIG 0/0.
abbrev pub AreFrames : ℕ → List (List Fib) → List Fib → Type 0
AreFrames size [] [] = Unit {0}
AreFrames size [] (fib ∷ rest) = IsOneFrame (fib ∷ rest) × (length (fib ∷ rest) < size)
AreFrames size (frame ∷ frames) rest =
    IsOneFrame frame × (length frame ≤ size)
    × (length frame < size → BeginsAnew (flat_map (λ f. f) frames ++ rest)) × AreFrames size frames rest

-- the first of these FIBs contains a FIG 0/0
abbrev pub HoldsFirst : List Fib → Type 0
HoldsFirst [] = Unit {0}
HoldsFirst (fib ∷ fibs) = holds_ensemble fib ≡ true

-- a stream of FIBs, cut into frames; the FIBs before the first that contains a FIG 0/0 are skipped
pub record IsFramed (size : ℕ) (stream skipped : List Fib) (frames : List (List Fib)) (rest : List Fib) : Type 0 where
  pub whole : stream ≡ skipped ++ (flat_map (λ f. f) frames ++ rest)
  pub before : AllByRecursion (λ fib. holds_ensemble fib ≡ false) skipped
  pub begun : HoldsFirst (flat_map (λ f. f) frames ++ rest)
  pub cut : AreFrames size frames rest

-- ---- properties of a frame

abbrev pub damaged_in : List Fib → ℕ
damaged_in [] = 0
damaged_in (fib ∷ fibs) = (if is_damaged fib then 1 else 0) + damaged_in fibs

abbrev pub first_of_frame : List Fib → Option EnsembleInformation
first_of_frame [] = None
first_of_frame (fib ∷ fibs) = first_or (first_in fib) (first_of_frame fibs)

-- the FIG 0/0 that its first FIB begins with
abbrev pub first_opening : List Fib → Option EnsembleInformation
first_opening [] = None
first_opening (fib ∷ fibs) = opening fib

-- its first FIB is undamaged, and does not begin with a FIG 0/0
abbrev pub lacks_opening : List Fib → Bool
lacks_opening [] = false
lacks_opening (fib ∷ fibs) = not (is_damaged fib) && not (begins_with_ensemble fib)

-- what is known of a frame before it is heard: how many FIBs are damaged, and how the first one begins
pub record AreSeen (damaged : ℕ) (begins : Option EnsembleInformation) (lacks : Bool) (frame : List Fib) : Type 0 where
  pub damaged_is : damaged ≡ damaged_in frame
  pub begins_is : begins ≡ first_opening frame
  pub lacks_is : lacks ≡ lacks_opening frame
