-- Every run of a schedule is kept.
use Rattle.schedule_runs.proofs.Words.{[], ◌%◌, ◌+◌, ◌-◌, ◌<◌, ◌∙◌, ◌∷◌, ◌≡◌, ◌≤◌, Airing, ChangesAt, Contact, Event}
use Rattle.schedule_runs.proofs.Words.{Frame, inl, inr}
use Rattle.schedule_runs.proofs.Words.{HasNextOnStep, IsFrame, IsFree, IsKept, IsNextOnStep, IsOnTime, List, None}
use Rattle.schedule_runs.proofs.Words.{SchedulesAreKept, Some, Swaps, SwapsInTime, Tree, WhatComesWasDue}
use Rattle.schedule_runs.proofs.Words.{WhatStaysDueComes, WhatTheClockChangesIsPunctual, ap, arith, begins, due_in}
use Rattle.schedule_runs.proofs.Words.{get_or}
use Rattle.schedule_runs.proofs.Words.{get_or_from_slice_get, is_due, left_in, length, on_air, refl, slice_get-get_or}
use Rattle.schedule_runs.proofs.Words.{slice_get_within, step_of, subst, suc, sym, wanted, with_level, zero, ℕ}
use Rattle.schedule_runs.proofs.Following.{Follows, followed}
use Rattle.schedule_runs.proofs.Along.{Falls, IsRun, days, falls, swapped}
use Rattle.schedule_runs.proofs.Keeping.{Committed, Punctual, committed, due_left, next_on_step, punctual}
use Rattle.schedule_runs.proofs.Keeping.{what_stays_due_comes}
use Rattle.schedule_runs.proofs.Playing.{aired, its_frames, its_frames_only, performs, played}

-- ---- the frames of a run follow one another

-- contacts between two frames change nothing else
record IsAlike (x y : Airing) : Type 0 where
  pub current : y.current ≡ x.current
  pub next : y.next ≡ x.next
  pub left : y.left ≡ x.left
  pub count : y.count ≡ x.count
  pub day : y.day ≡ x.day

itself : (x : Airing) → IsAlike x x
itself x = record { current = refl; next = refl; left = refl; count = refl; day = refl }

some_airing : (x y : Airing) → Some x ≡ Some y → x ≡ y
some_airing x y e = cc

first_alike : (s : Tree) (x : Airing) (events : List Event) (y : Airing) → IsFrame (aired s x events) 0 y → IsAlike x y
first_alike s x [] y e = absurd cc
first_alike s x (Contact contact closed ∷ es) y e =
    let h = first_alike s (with_level contact closed x) es y e in
    record { current = h.current; next = h.next; left = h.left; count = h.count; day = h.day }
first_alike s x (Frame ∷ es) y e = subst (λ z. IsAlike x z) (some_airing x y e) (itself x)

alike_follows : (s : Tree) (x y z : Airing) → Follows s x y → IsAlike y z → Follows s x z
alike_follows s x y z h a = record {
  taken = elim h.taken [
    | inl w ↦ inl (record {
      left = w.left;
      some = w.some;
      before = w.before;
      after = a.left ∙ w.after;
      next = a.next ∙ w.next;
    })
    | inr other ↦ inr (elim other [
      | inl stays ↦ inl (record { free = stays.free; same = stays.same; after = a.left ∙ stays.after })
      | inr announces ↦ inr (record {
        free = announces.free;
        changes = announces.changes;
        after = a.left ∙ announces.after;
        next = a.next ∙ announces.next;
      })
    ])
  ];
  current = a.current ∙ h.current;
  count = a.count ∙ h.count;
  day = a.day ∙ h.day;
}

aired_follow : (s : Tree) (x : Airing) (events : List Event) (k : ℕ) (y z : Airing) → IsFrame (aired s x events) k y
    → IsFrame (aired s x events) (suc k) z → Follows s y z
aired_follow s x [] k y z e f = absurd cc
aired_follow s x (Contact contact closed ∷ es) k y z e f = aired_follow s (with_level contact closed x) es k y z e f
aired_follow s x (Frame ∷ es) zero y z e f =
    let next = first_alike s (played s x) es z f in
    subst (λ u. Follows s u z) (some_airing x y e)
    (alike_follows s x (played s x) z (followed s x (played s x) (performs s x)) next)
aired_follow s x (Frame ∷ es) (suc k) y z e f = aired_follow s (played s x) es k y z e f

head_alike : (x : Airing) (run : List Airing) → ((y : Airing) → IsFrame run 0 y → IsAlike x y)
    → IsAlike x (get_or run 0 x)
head_alike x [] first = itself x
head_alike x (y ∷ ys) first = first y refl

-- ---- runs by the number of a frame

runs : (s : Tree) (x : Airing) (events : List Event) → 12 ≤ s.header.notice → SwapsInTime → x.left ≡ None
    → x.day < 3600000 → IsRun s (λ k. get_or (aired s x events) k x) (length (aired s x events))
runs s x events notice in_time none day =
    let run : List Airing = aired s x events in
    let head = head_alike x run (first_alike s x events) in
    record {
      notice = notice;
      in_time = in_time;
      follows = λ k within.
          aired_follow s x events k (get_or run k x) (get_or run (suc k) x)
          (slice_get-get_or run k x (omega (arith, within))) (slice_get-get_or run (suc k) x within);
      begun = head.left ∙ none;
      day = omega (arith, head.day, day);
    }

was_due : (s : Tree) (d : Airing) (run : List Airing) → IsRun s (λ k. get_or run k d) (length run)
    → WhatComesWasDue s run
was_due s d run h n x e swaps =
    let at = λ (k : ℕ). get_or run k d in
    let same : at n ≡ x = get_or_from_slice_get run n x d e in
    let left : x.left ≡ Some 0 = due_left x.left swaps in
    let within : n < length run = slice_get_within run n x e in
    let from : Committed s at n =
    committed s at (length run) h n within 0 (ap (λ (z : Airing). z.left) same ∙ left) in
    record {
      number = from.number;
      earlier = from.earlier;
      commit = at from.number;
      is_frame = slice_get-get_or run from.number d (omega (arith, from.earlier, within));
      commits = from.commits;
      brings = (swapped x left).1 ∙ sym (ap (λ (z : Airing). z.next) same) ∙ from.next;
      pending = λ k y past before f free.
          from.pending k past before (subst (λ z. IsFree z) (sym (get_or_from_slice_get run k y d f)) free);
    }

stays_due : (s : Tree) (d : Airing) (run : List Airing) → IsRun s (λ k. get_or run k d) (length run)
    → WhatStaysDueComes s run
stays_due s d run h m n up c x least e long is =
    let at = λ (k : ℕ). get_or run k d in
    let within : n < length run = slice_get_within run n x e in
    subst (λ z. on_air z ≡ c) (get_or_from_slice_get run n x d e)
    (what_stays_due_comes s at (length run) h c m n up least long within
    (λ k from to. is k (at k) from to (slice_get-get_or run k d (omega (arith, to, within)))))

on_time : (s : Tree) (d : Airing) (run : List Airing) → IsRun s (λ k. get_or run k d) (length run) → (f day_frame : ℕ)
    (x : Airing) → IsFrame run f x → ChangesAt s x day_frame → (n : ℕ) (y : Airing) → IsFrame run n y
    → IsNextOnStep s run (f + s.header.notice) n y → IsOnTime s run f (wanted s x.contacts day_frame) n y
on_time s d run h f day_frame x e changes n y at_n next =
    let at = λ (k : ℕ). get_or run k d in
    let same : at f ≡ x = get_or_from_slice_get run f x d e in
    let there : at n ≡ y = get_or_from_slice_get run n y d at_n in
    let within : n < length run = slice_get_within run n y at_n in
    let is : due_in s x ≡ wanted s x.contacts day_frame = ap (λ day. wanted s x.contacts day) changes.a_notice_before in
    let more : suc f < length run = omega (arith, next.reached, within, h.notice) in
    let result : Punctual s at f n = punctual s at (length run) h f n next.reached within
    (ap (λ (z : Airing). z.count % step_of s) there ∙ next.on_step)
    (λ k from before on. next.first k (at k) from before (slice_get-get_or run k d (omega (arith, before, within))) on)
    (subst (λ z. IsFree z) (sym same) changes.free)
    (λ equal. changes.changes (sym is ∙ subst (λ z. due_in s z ≡ on_air z) same equal))
    (h.follows f more).taken in
    record {
      swaps = ap is_due (sym (ap (λ (z : Airing). z.left) there) ∙ result.swaps);
      brings = sym (ap on_air there) ∙ result.brings ∙ ap (λ z. due_in s z) same ∙ is;
      alone = λ k z past before f_k swaps.
          result.alone k past before (subst (λ u. Swaps u) (sym (get_or_from_slice_get run k z d f_k)) swaps);
      late = result.late;
    }

there : (s : Tree) (d : Airing) (run : List Airing) → IsRun s (λ k. get_or run k d) (length run) → (f : ℕ)
    → f + s.header.notice + (step_of s - 1) < length run → HasNextOnStep s run (f + s.header.notice)
there s d run h f long =
    let at = λ (k : ℕ). get_or run k d in
    let left : ℕ = left_in (step_of s) (at f).count s.header.notice in
    let at_left : Falls s (at f) left = falls h.in_time s (at f) in
    let n : ℕ = f + left in
    let within : n < length run = omega (arith, at_left.to, long) in
    let next = next_on_step s at (length run) h f left at_left within in (
      n,
      at n,
      slice_get-get_or run n d within,
      record {
        reached = next.reached;
        on_step = next.on_step;
        first = λ k z from before e on.
            next.first k from before
            (ap (λ (y : Airing). y.count % step_of s) (get_or_from_slice_get run k z d e) ∙ on);
      },
    )

a_notice_later : (s : Tree) (d : Airing) (run : List Airing) → IsRun s (λ k. get_or run k d) (length run)
    → (f day_frame : ℕ)
    (x : Airing) → IsFrame run f x → ChangesAt s x day_frame → (y : Airing) → IsFrame run (f + s.header.notice) y
    → y.day ≡ day_frame
a_notice_later s d run h f day_frame x e changes y e_y =
    let n : ℕ = f + s.header.notice in
    let same : get_or run f d ≡ x = get_or_from_slice_get run f x d e in
    let there : get_or run n d ≡ y = get_or_from_slice_get run n y d e_y in
    let within : n < length run = slice_get_within run n y e_y in
    let day = days s (λ k. get_or run k d) (length run) h f n (omega arith) within in
    let x_day : (get_or run f d).day ≡ x.day = ap (λ (z : Airing). z.day) same in
    let notice : (get_or run f d).day + (n - f) ≡ x.day + s.header.notice = omega (arith, x_day) in
    sym (ap (λ (z : Airing). z.day) there) ∙ day ∙ ap (λ k. k % 3600000) notice ∙ changes.a_notice_before

clock : (s : Tree) (d : Airing) (run : List Airing) → IsRun s (λ k. get_or run k d) (length run)
    → WhatTheClockChangesIsPunctual s run
clock s d run h f day_frame x e changes = record {
  comes = on_time s d run h f day_frame x e changes;
  there = there s d run h f;
  a_notice_later = a_notice_later s d run h f day_frame x e changes;
}

-- from any airing in which nothing is pending
pub run_is_kept : SwapsInTime → (s : Tree) (x : Airing) (events : List Event) → 12 ≤ s.header.notice → x.left ≡ None
    → x.day < 3600000 → IsKept s (aired s x events)
run_is_kept in_time s x events notice none day =
    let run : List Airing = aired s x events in
    let h = runs s x events notice in_time none day in
    record { was_due = was_due s x run h; stays_due = stays_due s x run h; clock = clock s x run h }

pub schedules_are_kept : SwapsInTime → SchedulesAreKept
schedules_are_kept in_time s start events schedule in_range within =
    let x : Airing = begins s start in
    record {
      run = aired s x events;
      frames = its_frames s x events;
      only = its_frames_only s x events;
      kept = run_is_kept in_time s x events schedule.headed.notice_from refl in_range.day;
    }
