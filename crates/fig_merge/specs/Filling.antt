-- Filling the FIBs of a plan with FIGs that wait (EN 300 401 clauses 5.2.1 and 5.2.2).
use Rattle.std.specs.Prelude.{ℕ, ◌+◌, ◌-◌, if◌then◌else◌, nat_le, Bool, List, [], ◌∷◌, ◌++◌, length, flat_map, Option}
use Rattle.std.specs.Prelude.{Some, None}
use Rattle.std.specs.List.{concat}
use Rattle.fib_codec.specs.Grammar.{Fig, fig_spelled}
use Rattle.fib_codec.specs.Spelling.{filled, checked}
use Rattle.fib_reader.specs.Listening.{Listening, hear_figs}
use Rattle.fig_mentions.specs.Agreeing.{fig_agrees}
use Rattle.stream_check.specs.Frames.{Fib}
use Rattle.fig_merge.specs.Taking.{Merging, limited, with_damaged}

-- the bytes of the FIGs of a FIB, and what is left of its thirty data bytes
abbrev pub data_of : List Fig → List ℕ
data_of figs = flat_map fig_spelled figs

abbrev pub room_of : List Fig → ℕ
room_of figs = 30 - length (data_of figs)

-- what a listener has heard after the FIGs of a FIB: nothing of one for which it has no room
abbrev pub heard_or : Listening → Option Listening → Listening
heard_or l None = l
heard_or l (Some heard) = heard

abbrev pub hearing : List Fig → Listening → Listening
hearing figs l = heard_or l (hear_figs figs l)

-- whether a FIG agrees with the current configuration, as far as it was heard with this FIB of the plan
abbrev pub agrees_with : List Fig → Listening → List ℕ → Bool
agrees_with figs l fig = fig_agrees (hearing figs l).current fig

-- ---- one pass over the FIGs that wait, from the one that has waited longest, by which of them agree

-- one that is carried takes its room; one that does not agree takes none
abbrev pub room_after : (List ℕ → Bool) → ℕ → List ℕ → ℕ
room_after agrees room fig = if agrees fig then room - length fig else room

-- those whose turn comes: each that fits into what those before it leave
abbrev pub turns_in : (List ℕ → Bool) → ℕ → List (List ℕ) → List (List ℕ)
turns_in agrees room [] = []
turns_in agrees room (fig ∷ figs) =
    if nat_le (length fig) room then fig ∷ turns_in agrees (room_after agrees room fig) figs
    else turns_in agrees room figs

-- and those that wait on
abbrev pub left_waiting : (List ℕ → Bool) → ℕ → List (List ℕ) → List (List ℕ)
left_waiting agrees room [] = []
left_waiting agrees room (fig ∷ figs) =
    if nat_le (length fig) room then left_waiting agrees (room_after agrees room fig) figs
    else fig ∷ left_waiting agrees room figs

-- of those whose turn comes, the ones that agree are carried, and the others are stale
abbrev pub carried_of : (List ℕ → Bool) → List (List ℕ) → List (List ℕ)
carried_of agrees [] = []
carried_of agrees (fig ∷ figs) = if agrees fig then fig ∷ carried_of agrees figs else carried_of agrees figs

abbrev pub stale_of : (List ℕ → Bool) → List (List ℕ) → List (List ℕ)
stale_of agrees [] = []
stale_of agrees (fig ∷ figs) = if agrees fig then stale_of agrees figs else fig ∷ stale_of agrees figs

abbrev pub carried_in : (List ℕ → Bool) → ℕ → List (List ℕ) → List (List ℕ)
carried_in agrees room waiting = carried_of agrees (turns_in agrees room waiting)

abbrev pub stale_in : (List ℕ → Bool) → ℕ → List (List ℕ) → List (List ℕ)
stale_in agrees room waiting = stale_of agrees (turns_in agrees room waiting)

-- ---- a FIB of the plan

-- with these FIGs, followed by those that are carried
abbrev pub filled_fib : List Fig → Listening → List (List ℕ) → List ℕ
filled_fib figs l waiting =
    checked (filled (data_of figs ++ concat (carried_in (agrees_with figs l) (room_of figs) waiting)))

-- its bytes after it is filled; a damaged one stays as it is
abbrev pub merged : List ℕ → Fib → Merging → List ℕ
merged bytes None m = bytes
merged bytes (Some figs) m = filled_fib figs m.heard m.waiting

-- the FIGs whose turn comes with it, those that are carried in it, and those that are stale
abbrev pub turns_by : Fib → Merging → List (List ℕ)
turns_by None m = []
turns_by (Some figs) m = turns_in (agrees_with figs m.heard) (room_of figs) m.waiting

abbrev pub carried_by : Fib → Merging → List (List ℕ)
carried_by None m = []
carried_by (Some figs) m = carried_in (agrees_with figs m.heard) (room_of figs) m.waiting

abbrev pub stale_by : Fib → Merging → List (List ℕ)
stale_by None m = []
stale_by (Some figs) m = stale_in (agrees_with figs m.heard) (room_of figs) m.waiting

-- after it is filled
abbrev pub after_fill : Fib → Merging → Merging
after_fill None m = with_damaged m
after_fill (Some figs) m = record m {
  waiting = left_waiting (agrees_with figs m.heard) (room_of figs) m.waiting;
  carried = limited (m.carried + length (carried_in (agrees_with figs m.heard) (room_of figs) m.waiting));
  stale = limited (m.stale + length (stale_in (agrees_with figs m.heard) (room_of figs) m.waiting));
  heard = hearing figs m.heard;
}
