-- What is sent in a frame, FIG by FIG: entries of FIG 0/0 to 0/3, and other FIGs by their bytes.
use Rattle.std.specs.Prelude.{ℕ, nat_le, Bool, true, false, if◌then◌else◌, List, [], ◌∷◌, ◌++◌, map, Some, None}
use Rattle.fib_codec.specs.Grammar.{Fig, Open, Other, is_next}
use Rattle.fib_reader.specs.Raw.{Raw, entries_in}
use Rattle.stream_check.specs.declared.contradiction.Contradiction.{Contradiction}
use Rattle.stream_check.specs.Frames.{Fib}
use Rattle.stream_check.specs.History.{Item, Moment, Said, frames_ended, listener_after, is_swap}
use Rattle.stream_check.specs.Contradictions.{contradictions_in, noted_with}

pub data Sent : Type 0 where
  EntrySent : Item → Sent
  FigSent : List ℕ → Sent

abbrev pub entries_sent : Bool → Bool → List Raw → List Sent
entries_sent first next raws = map (λ raw. EntrySent (record { first = first; next = next; raw = raw })) raws

abbrev pub fig_sent : Bool → Fig → List Sent
fig_sent first (Open second es) = entries_sent first (is_next second) (entries_in (Open second es))
fig_sent first (Other given) = FigSent given ∷ []

abbrev pub figs_sent : Bool → List Fig → List Sent
figs_sent first [] = []
figs_sent first (f ∷ fs) = fig_sent first f ++ figs_sent false fs

abbrev pub fib_sent : Bool → Fib → List Sent
fib_sent first None = []
fib_sent first (Some figs) = figs_sent first figs

abbrev pub fibs_sent : Bool → List Fib → List Sent
fibs_sent first [] = []
fibs_sent first (fib ∷ fibs) = fib_sent first fib ++ fibs_sent false fibs

-- in order; nothing in a damaged FIB
abbrev pub frame_sent : List Fib → List Sent
frame_sent frame = fibs_sent true frame

-- the entries among it
abbrev pub items_in : List Sent → List Item
items_in [] = []
items_in (EntrySent i ∷ ss) = i ∷ items_in ss
items_in (FigSent fig ∷ ss) = items_in ss

-- ---- contradictions

-- of a FIG, to the current configuration as the FIGs before it left it; only once `period` frames have ended, so that
-- all its entries should be known
abbrev pub contradictions_at : ℕ → List Moment → List ℕ → List Contradiction
contradictions_at period past fig =
    if nat_le period (frames_ended past) then contradictions_in (listener_after past).current fig else []

-- those that were reported since the last swap, after an entry; below, after all that is sent
abbrev pub noted_at : List Moment → Item → List Contradiction → List Contradiction
noted_at past i noted = if is_swap past i then [] else noted

abbrev pub noted_after : ℕ → List Moment → List Contradiction → List Sent → List Contradiction
noted_after period past noted [] = noted
noted_after period past noted (EntrySent i ∷ ss) = noted_after period (Said i ∷ past) (noted_at past i noted) ss
noted_after period past noted (FigSent fig ∷ ss) =
    noted_after period past (noted_with noted (contradictions_at period past fig)) ss
