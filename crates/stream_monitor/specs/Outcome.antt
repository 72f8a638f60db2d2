-- The lines of a check of a stream before its last one, and how it ends.
use Rattle.std.specs.Prelude.{◌≡◌, ◌⊎◌, ℕ, ◌<◌, ◌≤◌, true, false, List, [], ◌∷◌, ◌++◌, length, map, flat_map, Option}
use Rattle.std.specs.List.{AllByRecursion, concat}
use Rattle.std.specs.Io.KnownBytes.{Consumes, IsAtEnd}
use Rattle.fib_codec.specs.Modes.{fib_count}
use Rattle.stream_check.specs.Frames.{Fib, Reading, IsFramed, holds_ensemble, damaged_in}
use Rattle.stream_check.specs.CheckerState.{most}
use Rattle.stream_monitor.specs.declared.ending.Ending.{Ending}
use Rattle.stream_monitor.specs.declared.ending.Ending.TheVariants as endings
use Rattle.stream_monitor.specs.declared.line.Cause.TheVariants as causes
use Rattle.stream_monitor.specs.declared.line.Line.{Line}
use Rattle.stream_monitor.specs.declared.options.CheckOptions.{CheckOptions}
use Rattle.stream_monitor.specs.Frames.{is_full, is_stopped, totals_after, frames_lines}

-- ---- after some FIBs

abbrev pub HasFibSize : List ℕ → Type 0
HasFibSize fib = length fib ≡ 32

-- the check goes on: the FIBs are cut into frames, none of which ends it, and these are their lines
pub record GoesOn (r : Reading) (o : CheckOptions) (fibs : List (List ℕ)) (log : List Line) : Type 0 where
  pub sizes : AllByRecursion HasFibSize fibs
  pub skipped : List Fib
  pub frames : List (List Fib)
  pub rest : List Fib
  pub framed : IsFramed (fib_count o.mode) (map r.read fibs) skipped frames rest
  pub room : is_full o frames ≡ false
  pub no_fault : is_stopped o frames ≡ false
  pub lines : log ≡ frames_lines o skipped [] frames

-- the check goes on until the FIB after these ends one more frame, and these are the lines of all
pub record EndsFrame (r : Reading) (o : CheckOptions) (fibs : List (List ℕ)) (fib : List ℕ) (log : List Line)
    (skipped : List Fib) (frames : List (List Fib)) : Type 0 where
  pub log_before : List Line
  pub before : GoesOn r o fibs log_before
  pub size : HasFibSize fib
  pub frame : List Fib
  pub rest : List Fib
  pub framed : IsFramed (fib_count o.mode) (map r.read (fibs ++ fib ∷ [])) skipped frames rest
  pub one_more : frames ≡ before.frames ++ frame ∷ []
  pub lines : log ≡ frames_lines o skipped [] frames

-- ---- how a check ends

-- there are 2 ^ 62 frames, skipped FIBs or damaged FIBs
abbrev pub IsTooLong : (skipped : List Fib) (frames : List (List Fib)) → Type 0
IsTooLong skipped frames =
    (most ≤ length frames) ⊎ (most ≤ length skipped) ⊎ (most ≤ damaged_in (flat_map (λ f. f) frames))

-- with the FIB after these: a fault is found in the frame that it ends, and is to end the check; there is no room for
-- an entry of this frame; or nothing more is counted
abbrev pub StopsWithFib : Reading → CheckOptions → (fibs : List (List ℕ)) (fib : List ℕ) (log : List Line) → Ending
    → Type 0
StopsWithFib r o fibs fib log (endings.Counted totals) =
    (skipped : List Fib) × (frames : List (List Fib)) × EndsFrame r o fibs fib log skipped frames
    × (is_full o frames ≡ false) × (is_stopped o frames ≡ true) × (totals ≡ totals_after o skipped frames [])
StopsWithFib r o fibs fib log (endings.Refused causes.Full) =
    (skipped : List Fib) × (frames : List (List Fib)) × EndsFrame r o fibs fib log skipped frames
    × (is_full o frames ≡ true)
StopsWithFib r o fibs fib log (endings.Refused causes.TooLong) =
    (g : GoesOn r o fibs log) × HasFibSize fib × IsTooLong g.skipped g.frames
StopsWithFib r o fibs fib log (endings.Refused causes.NotWhole) = ⊥
StopsWithFib r o fibs fib log (endings.Refused causes.NoEnsemble) = ⊥

-- no FIB contains a FIG 0/0
abbrev pub HasNoEnsemble : List Fib → Type 0
HasNoEnsemble fibs = AllByRecursion (λ fib. holds_ensemble fib ≡ false) fibs

-- at the end of the stream, which has these FIBs and then this part of one
abbrev pub StopsAtEnd : Reading → CheckOptions → (fibs : List (List ℕ)) (part : List ℕ) (log : List Line) → Ending
    → Type 0
StopsAtEnd r o fibs part log (endings.Counted totals) =
    (g : GoesOn r o fibs log) × (part ≡ []) × (HasNoEnsemble (map r.read fibs) → ⊥)
    × (totals ≡ totals_after o g.skipped g.frames g.rest)
StopsAtEnd r o fibs part log (endings.Refused causes.Full) = ⊥
StopsAtEnd r o fibs part log (endings.Refused causes.TooLong) = ⊥
StopsAtEnd r o fibs part log (endings.Refused causes.NotWhole) =
    GoesOn r o fibs log × (0 < length part) × (length part < 32)
StopsAtEnd r o fibs part log (endings.Refused causes.NoEnsemble) =
    GoesOn r o fibs log × (part ≡ []) × HasNoEnsemble (map r.read fibs)

-- a check of these bytes has these lines and then ends so: at their end, or with one of the FIBs, and nothing behind it
-- matters
abbrev pub Checks : Reading → CheckOptions → (stream : List ℕ) (log : List Line) → Ending → Type 0
Checks r o stream log ending =
    ((fibs : List (List ℕ)) × (part : List ℕ) × (stream ≡ concat fibs ++ part) × StopsAtEnd r o fibs part log ending)
    ⊎ ((fibs : List (List ℕ)) × (fib more : List ℕ) × (stream ≡ concat fibs ++ (fib ++ more))
    × StopsWithFib r o fibs fib log ending)

-- a check of an input with the old bytes left, if they are known, which then has the new ones left
abbrev pub ChecksInput : Reading → CheckOptions → (old new : Option (List ℕ)) (log : List Line) → Ending → Type 0
ChecksInput r o old new log ending =
    ((fibs : List (List ℕ)) × (part : List ℕ) × Consumes old new (concat fibs ++ part) × IsAtEnd new
    × StopsAtEnd r o fibs part log ending)
    ⊎ ((fibs : List (List ℕ)) × (fib more : List ℕ) × Consumes old new (concat fibs ++ (fib ++ more))
    × StopsWithFib r o fibs fib log ending)
