-- Which FIGs of a multiplexer are carried, and how they wait (EN 300 401 clauses 5.2.2.1 and 6.4).
use Rattle.std.specs.Prelude.{◌≡◌, ℕ, ◌+◌, ◌-◌, ◌/◌, ◌%◌, ◌^◌, ◌≤◌, ◌==◌, ◌&&◌, Bool, true, false, if◌then◌else◌}
use Rattle.std.specs.Prelude.{nat_lt, List, [], ◌∷◌, ◌++◌, length, get_or, Some, None}
use Rattle.std.specs.List.{AllByRecursion, list_any}
use Rattle.std.specs.Str.{bytes_eq}
use Rattle.fib_codec.specs.Grammar.{Fig, Open, Other, IsOther, fig_spelled}
use Rattle.fib_reader.specs.Listening.{Listening, untuned}
use Rattle.stream_check.specs.Frames.{Fib}

-- the second byte of FIG 0/7 of this ensemble: OE 0 and extension 7
abbrev pub is_configuration : ℕ → Bool
is_configuration second = second / 64 % 2 == 0 && second % 32 == 7

-- FIGs that are left out, whatever their C/N and P/D flags: FIG 0/0 to 0/3 of this ensemble, which the plan sends, and
-- FIG 0/7 of this ensemble, which counts the services of another configuration
abbrev pub is_left_out : Fig → Bool
is_left_out (Open second es) = true
is_left_out (Other bytes) = nat_lt (get_or bytes 0 0) 32 && is_configuration (get_or bytes 1 0)

-- the bytes of each FIG that is carried, in order
abbrev pub taken_of : List Fig → List (List ℕ)
taken_of [] = []
taken_of (f ∷ fs) = if is_left_out f then taken_of fs else fig_spelled f ∷ taken_of fs

-- a damaged FIB gives none
abbrev pub taken_in : Fib → List (List ℕ)
taken_in None = []
taken_in (Some figs) = taken_of figs

-- the most FIGs that wait
abbrev pub most : ℕ
most = 256

-- the bytes of the FIGs that wait, the one that has waited longest first; how many FIGs were carried, how many dropped,
-- and how many were stale; how many FIBs were damaged; and what a listener has heard of the plan's FIBs
pub record Merging : Type 0 where
  pub waiting : List (List ℕ)
  pub carried : ℕ
  pub dropped : ℕ
  pub stale : ℕ
  pub damaged : ℕ
  pub heard : Listening

abbrev pub nothing_taken : Merging
nothing_taken = record { waiting = []; carried = 0; dropped = 0; stale = 0; damaged = 0; heard = untuned }

-- the bytes of a FIG that a listener passes over, which fits into an empty FIB
abbrev pub IsPassedOver : List ℕ → Type 0
IsPassedOver fig = IsOther fig × (length fig ≤ 30)

-- a FIG that is passed over, if it is not left out
abbrev pub IsSendable : Fig → Type 0
IsSendable f = is_left_out f ≡ false → IsPassedOver (fig_spelled f)

pub record IsMerging (m : Merging) : Type 0 where
  pub few : length m.waiting ≤ most
  pub passed_over : AllByRecursion IsPassedOver m.waiting

-- counts end at 2^64 - 1; no real stream comes near it
abbrev pub limited : ℕ → ℕ
limited n = if nat_lt n (2 ^ 64) then n else 2 ^ 64 - 1

-- a FIG with the same bytes waits
abbrev pub waits : List ℕ → List (List ℕ) → Bool
waits fig waiting = list_any (bytes_eq fig) waiting

-- with a FIG that is taken: it waits, unless one with the same bytes waits already, or else is dropped where 256 wait
abbrev pub with_fig : List ℕ → Merging → Merging
with_fig fig m =
    if waits fig m.waiting then m
    else if nat_lt (length m.waiting) most then record m { waiting = m.waiting ++ fig ∷ [] }
    else record m { dropped = limited (m.dropped + 1) }

abbrev pub with_figs : List (List ℕ) → Merging → Merging
with_figs [] m = m
with_figs (fig ∷ figs) m = with_figs figs (with_fig fig m)

abbrev pub with_damaged : Merging → Merging
with_damaged m = record m { damaged = limited (m.damaged + 1) }

-- after the FIGs of a FIB of the multiplexer were taken
abbrev pub after_take : Fib → Merging → Merging
after_take None m = with_damaged m
after_take (Some figs) m = with_figs (taken_of figs) m
