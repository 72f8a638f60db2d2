-- How a schedule is kept: for each definition, an example that holds and one that fails.
use Rattle.schedule_runs.proofs.Words.{[], ◌<◌, ◌∷◌, ◌≡◌, ◌≤◌, Airing, AreFrames, ChangesAt, Commits}
use Rattle.schedule_runs.proofs.Words.{IsDueThroughout, IsFrame, IsFree}
use Rattle.schedule_runs.proofs.Words.{IsNextOnStep, IsNoticeOnStep, IsOnStep, IsOnTime, List, None}
use Rattle.schedule_runs.proofs.Words.{OnTime, Option, Some, Swaps, SwapsInTime, Tree, WasCommitted, WhatComesWasDue}
use Rattle.schedule_runs.proofs.Words.{absurd_none, ap, arith, begins}
use Rattle.schedule_runs.proofs.Words.{false≢true, on_air, refl, ℕ}
use Rattle.schedule_runs.proofs.Playing.{its_frames}
use Rattle.schedule_runs.proofs.Runs.{run_is_kept}
use Rattle.schedule_runs.proofs.Samples.{at_rate, closed, frames, overlay, rate, run_from, schedule, start_at}

-- ---- `overlay a while time 00:00:01 to 00:00:03 { rate sub 1 96 }`, in a run of 60 frames from frame 0 of the day

abbrev morning : Tree
morning = schedule (overlay ((OnTime 1 3 ∷ []) ∷ []) 96 ∷ [])

abbrev run : List Airing
run = run_from morning (start_at 0 0 (closed 0)) (frames 60 [])

-- a frame, where nothing is pending and 128 kbit/s are on air, on this count and in the same frame of the day
abbrev idle : ℕ → Airing
idle n = begins morning (start_at n n (closed 0))

-- from frame 18 on 96 kbit/s are to come, in frame 44
abbrev pending : (n left : ℕ) → Airing
pending n left = record (idle n) { next = at_rate 96; left = Some left }

-- ---- frames

abbrev count_in : Option Airing → ℕ
count_in None = 0
count_in (Some x) = x.count

performed : AreFrames morning (idle 0) (frames 60 []) run
performed = its_frames morning (idle 0) (frames 60 [])

one_too_few : AreFrames morning (idle 0) (frames 60 []) (run_from morning (start_at 0 0 (closed 0)) (frames 59 [])) → ⊥
one_too_few h = let long : 59 ≡ 60 = h.all in omega (arith, long)

not_performed : AreFrames morning (idle 0) (frames 1 []) (idle 1 ∷ []) → ⊥
not_performed h =
    let first : Some (idle 1) ≡ Some (idle 0) = h.each [] [] (idle 0) refl refl in
    let count : 1 ≡ 0 = ap count_in first in
    omega (arith, count)

frame_eighteen : IsFrame run 18 (idle 18)
frame_eighteen = refl

the_swap : IsFrame run 44 (pending 44 0) × Swaps (pending 44 0) × IsFree (pending 44 0)
    × (on_air (pending 44 0) ≡ at_rate 96) × IsOnStep morning (pending 44 0)
the_swap = (refl, refl, refl, refl, refl)

no_frame_sixty : (x : Airing) → IsFrame run 60 x → ⊥
no_frame_sixty x e = absurd cc

no_swap_before : Swaps (pending 43 1) → ⊥
no_swap_before e = false≢true e

not_free_before : IsFree (pending 43 1) → ⊥
not_free_before e = absurd_none 1 e

no_step_before : IsOnStep morning (pending 43 1) → ⊥
no_step_before e = let odd : 3 ≡ 0 = e in omega (arith, odd)

-- ---- what comes was due

eighteen_commits : Commits morning (idle 18)
eighteen_commits = record { free = refl; changes = λ e. let n : 96 ≡ 128 = ap rate e in omega (arith, n) }

seventeen_does_not : Commits morning (idle 17) → ⊥
seventeen_does_not h = h.changes refl

was_committed : (in_time : SwapsInTime) → WasCommitted morning run 44 (pending 44 0)
was_committed in_time =
    (run_is_kept in_time morning (idle 0) (frames 60 []) (omega arith) refl (omega arith)).was_due 44 (pending 44 0)
    refl refl

-- a swap that no frame committed
never_committed : WhatComesWasDue morning (pending 44 0 ∷ []) → ⊥
never_committed h =
    let none : (h 0 (pending 44 0) refl refl).number < 0 = (h 0 (pending 44 0) refl refl).earlier in omega (arith, none)

-- ---- what stays due comes

notice_on_step : IsNoticeOnStep morning 24
notice_on_step = record { reached = omega arith; holds = refl; first = λ q from on. from }

not_a_step_more : IsNoticeOnStep morning 28 → ⊥
not_a_step_more h = let low : 28 ≤ 24 = h.first 24 (omega arith) refl in omega (arith, low)

due_from_the_start : IsDueThroughout morning run 0 17 (at_rate 128) → IsDueThroughout morning run 3 5 (at_rate 128)
due_from_the_start h k y from to e = h k y (omega (arith, from)) (omega (arith, to)) e

not_due_throughout : IsDueThroughout morning run 17 18 (at_rate 128) → ⊥
not_due_throughout h =
    let e : at_rate 96 ≡ at_rate 128 = h 18 (idle 18) (omega arith) (omega arith) refl in
    let n : 96 ≡ 128 = ap rate e in
    omega (arith, n)

-- ---- what the clock changes

changes_at_one : ChangesAt morning (idle 18) 42
changes_at_one = record {
  a_notice_before = refl;
  free = refl;
  changes = λ e. let n : 96 ≡ 128 = ap rate e in omega (arith, n);
}

not_a_frame_before : ChangesAt morning (idle 17) 41 → ⊥
not_a_frame_before h = h.changes refl

not_to_another_frame : ChangesAt morning (idle 18) 41 → ⊥
not_to_another_frame h = let n : 42 ≡ 41 = h.a_notice_before in omega (arith, n)

not_next : IsNextOnStep morning run 40 44 (pending 44 0) → ⊥
not_next h = h.first 40 (pending 40 4) (omega arith) (omega arith) refl refl

on_time : (in_time : SwapsInTime) → IsNextOnStep morning run 42 44 (pending 44 0)
    → IsOnTime morning run 18 (at_rate 96) 44 (pending 44 0)
on_time in_time next =
    ((run_is_kept in_time morning (idle 0) (frames 60 []) (omega arith) refl (omega arith)).clock 18 42 (idle 18) refl
    changes_at_one).comes 44 (pending 44 0) refl next

not_on_time : IsOnTime morning run 18 (at_rate 96) 43 (pending 43 1) → ⊥
not_on_time h = false≢true h.swaps
