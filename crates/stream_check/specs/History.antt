-- The past of a stream: the entries of each frame, and what follows from all entries so far.
use Rattle.std.specs.Prelude.{ℕ, ◌+◌, ◌%◌, ◌==◌, ◌&&◌, ◌||◌, Bool, true, false, not, if◌then◌else◌, List, [], ◌∷◌, ◌++◌}
use Rattle.std.specs.Prelude.{map, Option, Some, None}
use Rattle.mux_types.specs.Entries.{EnsembleInformation}
use Rattle.fib_codec.specs.Grammar.{Fig, Open, Other, is_next}
use Rattle.stream_check.specs.Frames.{Fib}
use Rattle.stream_check.specs.Pictures.{key_of}
use Rattle.fib_reader.specs.Raw.{Raw, entries_in, ensemble_in}
use Rattle.fib_reader.specs.Listening.{Listening, untuned, hear_entry, is_made, where_heard}

-- ---- the entries of FIBs

-- an entry of FIG 0/0 to 0/3 in a frame: whether it is in the first FIG of the frame's first FIB, whether
-- it is sent with C/N 1, and its bytes
pub record Item : Type 0 where
  pub first : Bool
  pub next : Bool
  pub raw : Raw

abbrev pub items_of : Bool → Bool → List Raw → List Item
items_of first next raws = map (λ raw. record { first = first; next = next; raw = raw }) raws

abbrev pub fig_items : Bool → Fig → List Item
fig_items first (Open second es) = items_of first (is_next second) (entries_in (Open second es))
fig_items first (Other given) = []

abbrev pub figs_items : Bool → List Fig → List Item
figs_items first [] = []
figs_items first (f ∷ fs) = fig_items first f ++ figs_items false fs

abbrev pub fib_items : Bool → Fib → List Item
fib_items first None = []
fib_items first (Some figs) = figs_items first figs

-- the entries of a frame in order; a damaged FIB has none
abbrev pub fibs_items : Bool → List Fib → List Item
fibs_items first [] = []
fibs_items first (fib ∷ fibs) = fib_items first fib ++ fibs_items false fibs

abbrev pub frame_items : List Fib → List Item
frame_items frame = fibs_items true frame

-- ---- the past

-- the past of a stream: entries that were sent, and ends of frames, each with the CIF count of its frame. The latest
-- is the first in the list.
pub data Moment : Type 0 where
  Said : Item → Moment
  Ended : ℕ → Moment

abbrev pub said : List Item → List Moment → List Moment
said [] past = past
said (i ∷ is) past = said is (Said i ∷ past)

abbrev pub is_ensemble : Item → Bool
is_ensemble i = i.raw.ext == 0

abbrev pub ensemble_of_item : Item → EnsembleInformation
ensemble_of_item i = ensemble_in i.raw

-- a FIG 0/0 with change flags
abbrev pub is_flagged : Item → Bool
is_flagged i = is_ensemble i && not ((ensemble_of_item i).change == 0)

-- a FIG 0/0 that is the first FIG of its frame, at a count that is a multiple of the mode's step
abbrev pub is_in_place : ℕ → Item → Bool
is_in_place step i = i.first && (is_ensemble i && ((ensemble_of_item i).count % step == 0))

-- the number of frames that have ended
abbrev pub frames_ended : List Moment → ℕ
frames_ended [] = 0
frames_ended (Said i ∷ past) = frames_ended past
frames_ended (Ended count ∷ past) = frames_ended past + 1

-- what a listener knows that heard everything; None where it had no room for an entry
abbrev pub listening : List Moment → Option Listening
listening [] = Some untuned
listening (Said i ∷ past) = where_heard (listening past) (hear_entry i.next i.raw)
listening (Ended count ∷ past) = listening past

abbrev pub listener : Option Listening → Listening
listener None = untuned
listener (Some l) = l

abbrev pub listener_after : List Moment → Listening
listener_after past = listener (listening past)

-- a listener makes a swap at this entry
abbrev pub is_swap : List Moment → Item → Bool
is_swap past i = is_ensemble i && is_made (listener_after past).awaited (ensemble_of_item i)

-- an entry of FIG 0/1 to 0/3 that a listener keeps: not before the first FIG 0/0
abbrev pub is_member : List Moment → Item → Bool
is_member past i = not (is_ensemble i) && (listener_after past).tuned

-- ---- counts and ensembles

-- the count that is due in the next frame: that of the last frame plus one, modulo 5000
abbrev pub due : List Moment → Option ℕ
due [] = None
due (Said i ∷ past) = due past
due (Ended count ∷ past) = Some ((count + 1) % 5000)

-- the EId of the last FIG 0/0 in place, initially of the first FIG 0/0 of all
abbrev pub eid_of : ℕ → Item → Option ℕ → Option ℕ
eid_of step i None = if is_ensemble i then Some (ensemble_of_item i).eid else None
eid_of step i (Some eid) = if is_in_place step i then Some (ensemble_of_item i).eid else Some eid

abbrev pub last_eid : ℕ → List Moment → Option ℕ
last_eid step [] = None
last_eid step (Said i ∷ past) = eid_of step i (last_eid step past)
last_eid step (Ended count ∷ past) = last_eid step past

-- whether the current frame has had a FIG 0/0
abbrev pub has_ensemble : List Moment → Bool
has_ensemble [] = false
has_ensemble (Said i ∷ past) = is_ensemble i || has_ensemble past
has_ensemble (Ended count ∷ past) = false

-- ---- the notice

-- a flagged FIG 0/0 or an entry of the next configuration begins a notice
abbrev pub begins_notice : List Moment → Item → Bool
begins_notice past i = is_flagged i || (is_member past i && i.next)

-- whether a notice has begun since the last swap; the FIG 0/0 of a swap can begin the next notice
abbrev pub has_begun : List Moment → Bool
has_begun [] = false
has_begun (Said i ∷ past) = if is_swap past i then is_flagged i else has_begun past || begins_notice past i
has_begun (Ended count ∷ past) = has_begun past

-- whether an entry began it, since the last FIG 0/0, in a frame that had no FIG 0/0 yet
abbrev pub began_early : List Moment → Bool
began_early [] = false
began_early (Said i ∷ past) =
    if is_ensemble i then false
    else if begins_notice past i && not (has_begun past) then not (has_ensemble past)
    else began_early past
began_early (Ended count ∷ past) = began_early past

-- the number of flagged FIG 0/0 in it
abbrev pub flag_count : Item → ℕ
flag_count i = if is_flagged i then 1 else 0

abbrev pub times_announced : List Moment → ℕ
times_announced [] = 0
times_announced (Said i ∷ past) = if is_swap past i then flag_count i else times_announced past + flag_count i
times_announced (Ended count ∷ past) = times_announced past

-- the flags of the last flagged FIG 0/0
abbrev pub last_flags : List Moment → ℕ
last_flags [] = 0
last_flags (Said i ∷ past) = if is_flagged i then (ensemble_of_item i).change else last_flags past
last_flags (Ended count ∷ past) = last_flags past

-- whether its beginning was not heard: the first FIG 0/0 of all is flagged, and no swap has been made since
abbrev pub is_cut_off : List Moment → Bool
is_cut_off [] = false
is_cut_off (Said i ∷ past) =
    if is_swap past i then false
    else if is_ensemble i && not (listener_after past).tuned then is_flagged i
    else is_cut_off past
is_cut_off (Ended count ∷ past) = is_cut_off past

abbrev pub next_key : List Moment → Item → List ℕ
next_key past i = if is_member past i && i.next then key_of i.raw ∷ [] else []

-- what was heard with C/N 1 in the current frame, since the last swap
abbrev pub row_at_hand : List Moment → List ℕ
row_at_hand [] = []
row_at_hand (Said i ∷ past) = if is_swap past i then [] else row_at_hand past ++ next_key past i
row_at_hand (Ended count ∷ past) = []

-- the same for each frame of the notice that has ended, from the one in which it began
abbrev pub rows : List Moment → List (List ℕ)
rows [] = []
rows (Said i ∷ past) = if is_swap past i then [] else rows past
rows (Ended count ∷ past) = if has_begun past then rows past ++ row_at_hand past ∷ [] else []

-- ---- the current configuration

-- the frame from which on all its entries should be known: frame `period`; after a swap, that of the swap, or `period`
-- frames later if the beginning of the notice was not heard
abbrev pub settles_at : ℕ → List Moment → ℕ
settles_at period [] = period
settles_at period (Said i ∷ past) =
    if is_swap past i then (if is_cut_off past then frames_ended past + period else 0) else settles_at period past
settles_at period (Ended count ∷ past) = settles_at period past

-- the number of the frame, from 1, in which the entry with this key was last heard with C/N 0, or the last swap was
-- made, whichever is later; 0 if neither
abbrev pub last_heard : ℕ → List Moment → ℕ
last_heard key [] = 0
last_heard key (Said i ∷ past) =
    if is_swap past i || (is_member past i && (not i.next && (key_of i.raw == key))) then frames_ended past + 1
    else last_heard key past
last_heard key (Ended count ∷ past) = last_heard key past
