-- After the end of a frame the state still agrees with the past of the stream.
use Rattle.stream_check.proofs.Words.{[], ◌%◌, ◌++◌, ◌+◌, ◌∙◌, ◌∷◌, ◌≡◌, ◌≤◌, AllByRecursion, Bool, CheckerState, Ended}
use Rattle.stream_check.proofs.Words.{Fib, FrameAt, HasNotice, Heard, Hears, HearsFrame, IsLastHeard, IsLater, Item}
use Rattle.stream_check.proofs.Words.{Knows, List, Moment, Option, Raw, Reported, Some, What, ap, append-nil}
use Rattle.stream_check.proofs.Words.{append_assoc, arith, cond, count_of_frame, due, false, false≢true, filter}
use Rattle.stream_check.proofs.Words.{findings_at_sent, frame_at, frame_findings, frame_items, frame_sent, frames_ended}
use Rattle.stream_check.proofs.Words.{has_begun, heard_since, in_frame, is_silent, last_findings, length}
use Rattle.stream_check.proofs.Words.{length-append, listener_in, map, map-append, name_of, quiet_findings, raws, refl}
use Rattle.stream_check.proofs.Words.{row_at_hand, rows, runs_full, said, silence, silent_findings, silent_in, subst}
use Rattle.stream_check.proofs.Words.{sym, true, when, with_frame, with_more, with_row, ℕ}
use Rattle.stream_check.specs.declared.finding.Fault.TheVariants as faults
use Rattle.stream_check.proofs.Notice.{notice_closed, notice_open}
use Rattle.stream_check.proofs.Members.{after_is}
use Rattle.stream_check.proofs.Chain.{more_twice}
use Rattle.stream_check.proofs.Sending.{frame_has_items}

-- ---- the frames of the notice

rows_are : (past : List Moment) (count : ℕ) (b : Bool) → has_begun past ≡ b
    → rows (Ended count ∷ past) ≡ cond b (rows past ++ row_at_hand past ∷ []) []
rows_are past count b e = rw (e) refl

few_more : (past : List Moment) (count : ℕ) (b : Bool) → has_begun past ≡ b → length (rows past) ≤ frames_ended past
    → length (rows (Ended count ∷ past)) ≤ frames_ended past + 1
few_more past count true e few =
    rw (rows_are past count true e) (omega (arith, length-append (rows past) (row_at_hand past ∷ []), few))
few_more past count false e few = rw (rows_are past count false e) (omega arith)

-- the parts after a frame
abbrev row_state : Bool → Bool → CheckerState → CheckerState
row_state begun whole m = cond begun (cond whole (record m {
  rows = m.rows + 1;
  parts = m.parts + 1;
  since = m.rows + 1;
}) (record m { rows = m.rows + 1 })) m

abbrev framed : ℕ → CheckerState → CheckerState → CheckerState
framed count m n = record n { has_ensemble = false; frames = m.frames + 1; due = Some ((count + 1) % 5000) }

noticed : (step period : ℕ) (past : List Moment) (m : CheckerState) (count : ℕ) (begun whole : Bool)
    → m.has_begun ≡ begun → heard_since m.since m.next ≡ whole → Knows step period past m
    → HasNotice (rows (Ended count ∷ past)) [] (row_state begun whole m).rows (row_state begun whole m).since
    (row_state begun whole m).parts m.next m.has_begun
noticed step period past m count true true b w k =
    rw (b) (rw (rows_are _ _ _ (sym k.has_begun ∙ b)) (notice_closed _ _ _ _ _ _ w (rw (← b) k.notice)))
noticed step period past m count true false b w k =
    rw (b) (rw (rows_are _ _ _ (sym k.has_begun ∙ b)) (notice_open _ _ _ _ _ _ w (rw (← b) k.notice)))
noticed step period past m count false whole b w k =
    let idle = k.notice.idle b in
    rw (← idle.0 ∙ sym (rows_are past count false (sym k.has_begun ∙ b))) (rw (← idle.1) k.notice)

-- whatever the rows and parts become, if the notice agrees with them
knows_rows : (step period : ℕ) (past : List Moment) (m : CheckerState) (count r s q : ℕ) → Knows step period past m
    → length (rows (Ended count ∷ past)) ≤ frames_ended past + 1
    → HasNotice (rows (Ended count ∷ past)) [] r s q m.next m.has_begun
    → Knows step period (Ended count ∷ past) (framed count m (record m { rows = r; parts = q; since = s }))
knows_rows step period past m count r s q k few notice = record {
  mode = k.mode;
  page_index = k.page_index;
  heard = k.heard;
  frames = rw (k.frames) refl;
  due = refl;
  eid = k.eid;
  has_ensemble = refl;
  has_begun = k.has_begun;
  began_early = k.began_early;
  is_cut_off = k.is_cut_off;
  flags = k.flags;
  times = k.times;
  settles_at = k.settles_at;
  untuned = k.untuned;
  few = few;
  swapped = omega (arith, k.swapped);
  kinds = k.kinds;
  last = k.last;
  notice = notice;
}

case_frame : (begun whole : Bool) (step period : ℕ) (past : List Moment) (m : CheckerState) (count : ℕ)
    → m.has_begun ≡ begun → heard_since m.since m.next ≡ whole → Knows step period past m
    → Knows step period (Ended count ∷ past) (framed count m (row_state begun whole m))
case_frame true true step period past m count b w k =
    knows_rows step period past m count (m.rows + 1) (m.rows + 1) (m.parts + 1) k
    (few_more past count true (sym k.has_begun ∙ b) k.few) (noticed step period past m count true true b w k)
case_frame true false step period past m count b w k =
    knows_rows step period past m count (m.rows + 1) m.since m.parts k
    (few_more past count true (sym k.has_begun ∙ b) k.few) (noticed step period past m count true false b w k)
case_frame false whole step period past m count b w k =
    knows_rows step period past m count m.rows m.since m.parts k (few_more past count false (sym k.has_begun ∙ b) k.few)
    (noticed step period past m count false whole b w k)

pub knows_frame : (step period : ℕ) (past : List Moment) (m : CheckerState) (count : ℕ) → Knows step period past m
    → Knows step period (Ended count ∷ past) (with_frame count m)
knows_frame step period past m count k = cases m.has_begun (heard_since m.since m.next) refl refl
  where
    cases : (b w : Bool) → m.has_begun ≡ b → heard_since m.since m.next ≡ w
        → Knows step period (Ended count ∷ past) (with_frame count m)
    cases b w e f =
        subst (λ (t : Bool). Knows step period (Ended count ∷ past) (framed count m (cond t (with_row m) m))) (sym e)
        (subst (λ (t : Bool). Knows step period (Ended count ∷ past)
        (framed count m (cond b (cond t (record m { rows = m.rows + 1; parts = m.parts + 1; since = m.rows + 1 })
        (record m { rows = m.rows + 1 })) m))) (sym f)
        (case_frame b w step period past m count e f k))

pub frame_noted : (m : CheckerState) (count : ℕ) → (with_frame count m).noted ≡ m.noted
frame_noted m count = by m.has_begun (heard_since m.since m.next)
  where
    by : (begun whole : Bool) → (row_state begun whole m).noted ≡ m.noted
    by true true = refl
    by true false = refl
    by false whole = refl

-- ---- silent entries

quiet_raws : (period : ℕ) (past : List Moment) (swapped frames : ℕ) (hs : List Heard) → frames ≡ frames_ended past
    → AllByRecursion (IsLastHeard past swapped) hs
    → quiet_findings swapped period frames hs ≡ map silence (filter (is_silent period past) (raws hs))
quiet_raws period past swapped frames [] e all = refl
quiet_raws period past swapped frames (h ∷ hs) e all =
    ap (λ t. when t (faults.Silent (name_of h.raw)) ++ quiet_findings swapped period frames hs) (rw (all.0, e) refl)
    ∙ ap (λ fs. when (is_silent period past h.raw) (faults.Silent (name_of h.raw)) ++ fs)
    (quiet_raws period past swapped frames hs e all.1)
    ∙ chosen (is_silent period past h.raw) h.raw (filter (is_silent period past) (raws hs))
  where
    chosen : (t : Bool) (raw : Raw) (rest : List Raw) → when t (faults.Silent (name_of raw))
        ++ map silence rest ≡ map silence (cond t (raw ∷ rest) rest)
    chosen true raw rest = refl
    chosen false raw rest = refl

filter_append : {X : Type 0} (p : X → Bool) (xs ys : List X) → filter p (xs ++ ys) ≡ filter p xs ++ filter p ys
filter_append p [] ys = refl
filter_append p (x ∷ xs) ys = elim (p x) as (λ t. cond t (x ∷ filter p (xs ++ ys)) (filter p (xs ++ ys))
    ≡ cond t (x ∷ filter p xs) (filter p xs) ++ filter p ys) [
      | true ↦ rw (filter_append p xs ys) refl
      | false ↦ filter_append p xs ys
    ]

spread : (period : ℕ) (past : List Moment) (xs ys : List Raw)
    → map silence (filter (is_silent period past) (xs ++ ys)) ≡ map silence (filter (is_silent period past) xs)
    ++ map silence (filter (is_silent period past) ys)
spread period past xs ys = ap (map silence) (filter_append (is_silent period past) xs ys)
    ∙ map-append silence (filter (is_silent period past) xs) (filter (is_silent period past) ys)

pub silent_is : (step period : ℕ) (past : List Moment) (m : CheckerState) → Knows step period past m
    → silent_in m ≡ silent_findings period past
silent_is step period past m k =
    rw (
      k.page_index,
      quiet_raws period past m.swapped m.frames m.current.subs k.frames k.last.0,
      quiet_raws period past m.swapped m.frames m.current.services k.frames k.last.1.0,
      quiet_raws period past m.swapped m.frames m.current.packets k.frames k.last.1.1,
    ) (rw (after_is past (listener_in m) k.heard)
    (sym (spread period past (raws m.current.subs ++ raws m.current.services) (raws m.current.packets)
    ∙ ap (λ fs. fs ++ map silence (filter (is_silent period past) (raws m.current.packets)))
    (spread period past (raws m.current.subs) (raws m.current.services))
    ∙ append_assoc (map silence (filter (is_silent period past) (raws m.current.subs)))
    (map silence (filter (is_silent period past) (raws m.current.services)))
    (map silence (filter (is_silent period past) (raws m.current.packets))))))

-- ---- a whole frame

-- all entries of the frame were heard, and the silent ones were reported
pub frame_done : (size : ℕ) (frame : List Fib) (at : FrameAt) (old mid : CheckerState)
    (before reported one two : Reported)
    → at ≡ record { frame = old.frames; count = count_of_frame old.step old.due frame }
    → one ≡ with_more before (map (in_frame at) (frame_findings size old.step old.due frame))
    → Hears at (frame_sent frame) old one mid two false → IsLater old mid
    → reported ≡ with_more two (map (in_frame at) (silent_in mid))
    → HearsFrame size frame old before (with_frame (count_of_frame old.step old.due frame) mid) reported false
frame_done size frame at old mid before reported one two place first h l last past k =
    let all = h past k in
    let room = ap (runs_full old.step old.period past) (sym (frame_has_items frame)) ∙ all.room in
    let known = subst (λ (is : List Item). Knows old.step old.period (said is past) mid) (frame_has_items frame)
    (all.knows refl) in
    let same : at ≡ frame_at old.step past frame = rw (← k.due, ← k.frames) place in
    let silent = silent_is old.step old.period (said (frame_items frame) past) mid known in
    let items = findings_at_sent old.step old.period past old.noted (frame_sent frame) in
    let rest = silent_findings old.period (said (frame_items frame) past) in
    record {
      findings = last ∙ ap (λ t. with_more t (map (in_frame at) (silent_in mid)))
          (all.findings ∙ ap (λ t. with_more t (map (in_frame at) items)) first)
          ∙ ap (λ fs. with_more (with_more
          (with_more before (map (in_frame at) (frame_findings size old.step old.due frame)))
          (map (in_frame at) items)) (map (in_frame at) fs)) silent
          ∙ three at before (frame_findings size old.step old.due frame) items rest
          ∙ ap (λ a. with_more before
          (map (in_frame a) (frame_findings size old.step old.due frame ++ (items ++ rest)))) same
          ∙ ap (λ d. with_more before
          (map (in_frame (frame_at old.step past frame)) (frame_findings size old.step d frame ++ (items ++ rest))))
          k.due
          ∙ ap (λ b. with_more before
          (map (in_frame (frame_at old.step past frame))
          (frame_findings size old.step (due past) frame
          ++ (items ++ last_findings b old.period (said (frame_items frame) past))))) (sym room);
      room = room;
      knows = λ e. subst (λ (d : Option ℕ). Knows old.step old.period
          (Ended (count_of_frame old.step d frame) ∷ said (frame_items frame) past)
          (with_frame (count_of_frame old.step old.due frame) mid)) k.due
          (knows_frame old.step old.period (said (frame_items frame) past) mid (count_of_frame old.step old.due frame)
          known);
      noted = λ e. frame_noted mid (count_of_frame old.step old.due frame) ∙ all.noted refl;
    }
  where
    at_of : ℕ → ℕ → FrameAt
    at_of n c = record { frame = n; count = c }

    three : (at : FrameAt) (reported : Reported) (xs ys zs : List What)
        → with_more (with_more (with_more reported (map (in_frame at) xs)) (map (in_frame at) ys))
        (map (in_frame at) zs) ≡ with_more reported (map (in_frame at) (xs ++ (ys ++ zs)))
    three at reported xs ys zs =
        more_twice (with_more reported (map (in_frame at) xs)) (map (in_frame at) ys) (map (in_frame at) zs)
        ∙ more_twice reported (map (in_frame at) xs) (map (in_frame at) ys ++ map (in_frame at) zs)
        ∙ ap (with_more reported)
        (sym (map-append (in_frame at) xs (ys ++ zs)
        ∙ ap (λ fs. map (in_frame at) xs ++ fs) (map-append (in_frame at) ys zs)))

-- there was no room for one of its entries
pub frame_full : (size : ℕ) (frame : List Fib) (at : FrameAt) (old mid : CheckerState) (before reported one : Reported)
    → at ≡ record { frame = old.frames; count = count_of_frame old.step old.due frame }
    → one ≡ with_more before (map (in_frame at) (frame_findings size old.step old.due frame))
    → Hears at (frame_sent frame) old one mid reported true → HearsFrame size frame old before mid reported true
frame_full size frame at old mid before reported one place first h past k =
    let all = h past k in
    let room = ap (runs_full old.step old.period past) (sym (frame_has_items frame)) ∙ all.room in
    let items = findings_at_sent old.step old.period past old.noted (frame_sent frame) in
    record {
      findings = all.findings ∙ ap (λ t. with_more t (map (in_frame at) items)) first
          ∙ two at before (frame_findings size old.step old.due frame) items
          ∙ ap (λ a. with_more before (map (in_frame a) (frame_findings size old.step old.due frame ++ (items ++ []))))
          (rw (← k.due, ← k.frames) place)
          ∙ ap (λ d. with_more before
          (map (in_frame (frame_at old.step past frame)) (frame_findings size old.step d frame ++ (items ++ []))))
          k.due
          ∙ ap (λ b. with_more before
          (map (in_frame (frame_at old.step past frame))
          (frame_findings size old.step (due past) frame
          ++ (items ++ last_findings b old.period (said (frame_items frame) past))))) (sym room);
      room = room;
      knows = λ e. absurd (false≢true (sym e));
      noted = λ e. absurd (false≢true (sym e));
    }
  where
    at_of : ℕ → ℕ → FrameAt
    at_of n c = record { frame = n; count = c }

    two : (at : FrameAt) (reported : Reported) (xs ys : List What)
        → with_more (with_more reported (map (in_frame at) xs)) (map (in_frame at) ys)
        ≡ with_more reported (map (in_frame at) (xs ++ (ys ++ [])))
    two at reported xs ys =
        more_twice reported (map (in_frame at) xs) (map (in_frame at) ys)
        ∙ ap (with_more reported)
        (sym (map-append (in_frame at) xs (ys ++ [])
        ∙ ap (λ fs. map (in_frame at) xs ++ map (in_frame at) fs) (append-nil ys)))
