-- Worked runs of small schedules, with a notice of 24 frames: in which frames they commit and swap, and what is on air.
use Rattle.schedule_runs.proofs.Words.{[], ◌∷◌, ◌≡◌, Configuration, Contact, Event, II, List}
use Rattle.schedule_runs.proofs.Words.{Option, OnContact, Overlay, OnTime, Some, Start, Tree, drop, due_in, false}
use Rattle.schedule_runs.proofs.Words.{map, on_air, option_map, refl, replicate, slice_get, take, true, ℕ}
use Rattle.schedule_runs.proofs.Samples.{at_rate, closed, commits_of, frames, overlay, run_from, schedule, schedule_in}
use Rattle.schedule_runs.proofs.Samples.{start_at, swaps_of}

abbrev open_at_zero : Start
open_at_zero = start_at 0 0 (closed 0)

-- what is on air in frame n
abbrev airs_in : Tree → Start → List Event → ℕ → Option Configuration
airs_in s start events n = option_map on_air (slice_get (run_from s start events) n)

-- ---- `overlay low while contact 3 closed { rate sub 1 96 }`

abbrev low : Overlay
low = overlay ((OnContact 3 true ∷ []) ∷ []) 96

-- closed before frame 1, open before frame 40
abbrev for_a_while : List Event
for_a_while = frames 1 (Contact 3 true ∷ frames 39 (Contact 3 false ∷ frames 40 []))

while_closed : (commits_of (schedule (low ∷ [])) open_at_zero for_a_while ≡ (1, 27) ∷ (40, 24) ∷ [])
    × (swaps_of (schedule (low ∷ [])) open_at_zero for_a_while ≡ 28 ∷ 64 ∷ [])
while_closed = (refl, refl)

low_from_the_swap : (airs_in (schedule (low ∷ [])) open_at_zero for_a_while 27 ≡ Some (at_rate 128))
    × (airs_in (schedule (low ∷ [])) open_at_zero for_a_while 28 ≡ Some (at_rate 96))
    × (airs_in (schedule (low ∷ [])) open_at_zero for_a_while 63 ≡ Some (at_rate 96))
    × (airs_in (schedule (low ∷ [])) open_at_zero for_a_while 64 ≡ Some (at_rate 128))
low_from_the_swap = (refl, refl, refl, refl)

closed_at_the_start : (commits_of (schedule (low ∷ [])) (start_at 0 0 (closed 8)) (frames 30 []) ≡ (0, 24) ∷ [])
    × (swaps_of (schedule (low ∷ [])) (start_at 0 0 (closed 8)) (frames 30 []) ≡ 24 ∷ [])
closed_at_the_start = (refl, refl)

-- closed in frame 1 alone: what was announced is made, and its end is announced in the frame of the swap
abbrev for_a_frame : List Event
for_a_frame = frames 1 (Contact 3 true ∷ frames 1 (Contact 3 false ∷ frames 58 []))

end_is_announced : (commits_of (schedule (low ∷ [])) open_at_zero for_a_frame ≡ (1, 27) ∷ (28, 24) ∷ [])
    × (swaps_of (schedule (low ∷ [])) open_at_zero for_a_frame ≡ 28 ∷ 52 ∷ [])
end_is_announced = (refl, refl)

-- closed again before the swap: what was announced stays due
closed_again :
    (commits_of (schedule (low ∷ [])) open_at_zero
    (frames 1 (Contact 3 true ∷ frames 1 (Contact 3 false ∷ frames 20 (Contact 3 true ∷ frames 40 [])))) ≡ (1, 27) ∷ [])
    × (swaps_of (schedule (low ∷ [])) open_at_zero
    (frames 1 (Contact 3 true ∷ frames 1 (Contact 3 false ∷ frames 20 (Contact 3 true ∷ frames 40 [])))) ≡ 28 ∷ [])
closed_again = (refl, refl)

-- the count goes on from 4999 to 0
over_the_last_count :
    (commits_of (schedule (low ∷ [])) (start_at 4997 0 (closed 8)) (frames 1 (Contact 3 false ∷ frames 59 []))
    ≡ (0, 27) ∷ (27, 24) ∷ [])
    × (swaps_of (schedule (low ∷ [])) (start_at 4997 0 (closed 8)) (frames 1 (Contact 3 false ∷ frames 59 []))
    ≡ 27 ∷ 51 ∷ [])
over_the_last_count = (refl, refl)

-- ---- `overlay lower while contact 4 closed { rate sub 1 64 }` after it, or before it

abbrev lower : Overlay
lower = overlay ((OnContact 4 true ∷ []) ∷ []) 64

abbrev both : Tree
both = schedule (low ∷ lower ∷ [])

abbrev one_then_the_other : List Event
one_then_the_other = frames 1 (Contact 3 true ∷ frames 1 (Contact 3 false ∷ Contact 4 true ∷ frames 60 []))

one_change_is_finished_first : (commits_of both open_at_zero one_then_the_other ≡ (1, 27) ∷ (28, 24) ∷ [])
    × (swaps_of both open_at_zero one_then_the_other ≡ 28 ∷ 52 ∷ [])
one_change_is_finished_first = (refl, refl)

-- due from frame 2 on, and on air in frame 52, 24 + 4 - 2 + 24 frames later, but not in the frame before
as_late_as_can_be :
    (map (due_in both) (take 50 (drop 2 (run_from both open_at_zero one_then_the_other))) ≡ replicate 50 (at_rate 64))
    × (airs_in both open_at_zero one_then_the_other 51 ≡ Some (at_rate 96))
    × (airs_in both open_at_zero one_then_the_other 52 ≡ Some (at_rate 64))
as_late_as_can_be = (refl, refl, refl)

-- both contacts are closed: the later edit counts
abbrev both_closed : List Event
both_closed = frames 1 (Contact 3 true ∷ Contact 4 true ∷ frames 29 [])

later_edit_counts : (airs_in both open_at_zero both_closed 28 ≡ Some (at_rate 64))
    × (airs_in (schedule (lower ∷ low ∷ [])) open_at_zero both_closed 28 ≡ Some (at_rate 96))
later_edit_counts = (refl, refl)

-- ---- `while time 00:00:01 to 00:00:03`: from frame 42 of the day, up to frame 125

abbrev morning : Overlay
morning = overlay ((OnTime 1 3 ∷ []) ∷ []) 96

abbrev from_day : ℕ → Start
from_day day = start_at 0 day (closed 0)

-- in mode I a swap falls on a multiple of four
at_the_hour : (commits_of (schedule (morning ∷ [])) (from_day 0) (frames 140 []) ≡ (18, 26) ∷ (101, 27) ∷ [])
    × (swaps_of (schedule (morning ∷ [])) (from_day 0) (frames 140 []) ≡ 44 ∷ 128 ∷ [])
at_the_hour = (refl, refl)

at_the_frame : (commits_of (schedule_in II (morning ∷ [])) (from_day 0) (frames 140 []) ≡ (18, 24) ∷ (101, 24) ∷ [])
    × (swaps_of (schedule_in II (morning ∷ [])) (from_day 0) (frames 140 []) ≡ 42 ∷ 125 ∷ [])
at_the_frame = (refl, refl)

-- due for one frame more, it is on air for a notice; a frame later it is not due
due_for_a_frame : (commits_of (schedule (morning ∷ [])) (from_day 100) (frames 60 []) ≡ (0, 24) ∷ (24, 24) ∷ [])
    × (swaps_of (schedule (morning ∷ [])) (from_day 100) (frames 60 []) ≡ 24 ∷ 48 ∷ [])
due_for_a_frame = (refl, refl)

no_longer_due : commits_of (schedule (morning ∷ [])) (from_day 101) (frames 60 []) ≡ []
no_longer_due = refl

-- ---- `while time 23:59:59 to 00:00:01`: from frame 3,599,959 of the day, up to frame 42 of the next one

abbrev midnight : Overlay
midnight = overlay ((OnTime 86399 1 ∷ []) ∷ []) 96

over_midnight :
    (commits_of (schedule (midnight ∷ [])) (from_day 3599900) (frames 150 []) ≡ (35, 25) ∷ (118, 26) ∷ [])
    × (swaps_of (schedule (midnight ∷ [])) (from_day 3599900) (frames 150 []) ≡ 60 ∷ 144 ∷ [])
over_midnight = (refl, refl)

just_before_its_end : (commits_of (schedule (midnight ∷ [])) (from_day 17) (frames 60 []) ≡ (0, 24) ∷ (24, 24) ∷ [])
    × (commits_of (schedule (midnight ∷ [])) (from_day 18) (frames 60 []) ≡ [])
just_before_its_end = (refl, refl)

-- ---- `overlay a while contact 3 closed { .. 96 }`, and `overlay b while contact 4 closed or contact 5 closed and
-- contact 6 open { .. 64 }`

abbrev of_two : Tree
of_two =
    schedule
    (low ∷ overlay ((OnContact 4 true ∷ []) ∷ (OnContact 5 true ∷ OnContact 6 false ∷ []) ∷ []) 64 ∷ [])

abbrev one_by_one : List Event
one_by_one =
    frames 40 (Contact 3 true
    ∷ frames 40 (Contact 6 true ∷ frames 40 (Contact 4 true ∷ frames 40 (Contact 3 false ∷ frames 30 []))))

alternatives : (commits_of of_two (start_at 0 0 (closed 32)) one_by_one ≡ (0, 24) ∷ (80, 24) ∷ (120, 24) ∷ [])
    × (swaps_of of_two (start_at 0 0 (closed 32)) one_by_one ≡ 24 ∷ 104 ∷ 144 ∷ [])
alternatives = (refl, refl)
