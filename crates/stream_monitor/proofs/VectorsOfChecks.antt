-- Examples of checks: for each definition one in which it holds, and one in which it does not.
use Rattle.stream_monitor.proofs.Words.{[], ◌++◌, ◌∙◌, ◌∷◌, ◌≡◌, CheckOptions, Checks, EndsFrame, Fib, Finding, GoesOn}
use Rattle.stream_monitor.proofs.Words.{IsTooLong, Line, List, None, Reading, Some, StopsAtEnd, Totals, alive_lines, ap}
use Rattle.stream_monitor.proofs.Words.{arith, false, finding_lines, frames_lines, inl, inr, is_full, is_stopped, refl}
use Rattle.stream_monitor.proofs.Words.{sym, tally_after, true, ℕ}
use Rattle.stream_check.specs.declared.finding.What.{What}
use Rattle.fib_codec.specs.declared.modes.Mode.TheVariants as modes
use Rattle.stream_check.specs.declared.finding.StreamEvent.TheVariants as events
use Rattle.stream_check.specs.declared.finding.Fault.TheVariants as faults
use Rattle.stream_check.specs.declared.finding.What.TheVariants as whats
use Rattle.stream_monitor.specs.declared.ending.Ending.TheVariants as endings
use Rattle.stream_monitor.specs.declared.line.Cause.TheVariants as causes
use Rattle.stream_monitor.specs.declared.line.Line.TheVariants as lines
use Rattle.stream_monitor.proofs.Endings.{none_framed, none_there}

-- in mode I, with totals after each second frame; the check does not end with a fault
abbrev pub options : CheckOptions
options = record {
  mode = modes.I;
  period = 250;
  every = Some 2;
  until_fault = false;
  form = record { is_json = false; start = None };
}

-- the same up to a fault
abbrev until_fault : CheckOptions
until_fault = record {
  mode = modes.I;
  period = 250;
  every = Some 2;
  until_fault = true;
  form = record { is_json = false; start = None };
}

-- a frame of three damaged FIBs
abbrev damaged : List Fib
damaged = None ∷ None ∷ None ∷ []

abbrev found : ℕ → What → Finding
found frame what = record { frame = frame; count = frame; what = what }

abbrev first_found : List Finding
first_found = found 0 (whats.Event (events.Ensemble 0)) ∷ found 0 (whats.Fault (faults.Damaged 3)) ∷ []

abbrev pub two : Totals
two = record { summary = record { frames = 2; skipped = 0; left_over = 0; damaged = 6 }; swaps = 0; faults = 2 }

-- ---- lines

-- totals after the second frame, and not after the first
two_frames : frames_lines options [] [] (damaged ∷ damaged ∷ [])
    ≡ (finding_lines first_found ++ [])
    ++ ((finding_lines (found 1 (whats.Fault (faults.Damaged 3)) ∷ []) ++ lines.Alive two ∷ []) ++ [])
two_frames = refl

not_due : alive_lines options [] (damaged ∷ []) ≡ []
not_due = refl

has_room : is_full options (damaged ∷ []) ≡ false
has_room = refl

counts : tally_after options (damaged ∷ []) ≡ record { swaps = 0; faults = 1 }
counts = refl

-- ---- the fault that ends a check

ends_with_fault : is_stopped until_fault (damaged ∷ []) ≡ true
ends_with_fault = refl

goes_on_at_fault : is_stopped options (damaged ∷ []) ≡ false
goes_on_at_fault = refl

-- ---- streams without a FIB

abbrev pub goes_on : (r : Reading) → GoesOn r options [] []
goes_on r = record {
  sizes = tt;
  skipped = [];
  frames = [];
  rest = [];
  framed = record { whole = refl; before = tt; begun = tt; cut = tt };
  room = refl;
  no_fault = refl;
  lines = refl;
}

pub tells_nothing : (r : Reading) (log : List Line) → GoesOn r options [] log → log ≡ []
tells_nothing r log g =
    let none = none_framed 3 g.frames g.rest g.framed.cut (none_there g.skipped _ (sym g.framed.whole)) in
    g.lines ∙ ap (frames_lines options g.skipped []) none.0

-- no frame ends before it has a FIB
no_frame_ends : (r : Reading) (fib : List ℕ) (log : List Line) (skipped : List Fib)
    → EndsFrame r options [] fib log skipped [] → ⊥
no_frame_ends r fib log skipped e = last e.before.frames e.frame e.one_more
  where
    last : (frames : List (List Fib)) (frame : List Fib) → [] ≡ frames ++ frame ∷ [] → ⊥
    last [] frame h = absurd cc
    last (f ∷ fs) frame h = absurd cc

short : IsTooLong [] [] → ⊥
short (inl h) = absurd (omega (arith, h))
short (inr (inl h)) = absurd (omega (arith, h))
short (inr (inr h)) = absurd (omega (arith, h))

-- a stream without a FIB is refused
refused : (r : Reading) → Checks r options [] [] (endings.Refused causes.NoEnsemble)
refused r = inl ([], [], refl, (goes_on r, refl, tt))

-- and has no totals
not_counted : (r : Reading) (log : List Line) (t : Totals) → StopsAtEnd r options [] [] log (endings.Counted t) → ⊥
not_counted r log t h = h.2 tt
