-- The frames heard of a notice are the last ones that a run sent.
use Rattle.plan_runs.proofs.Words.{[], ◌++◌, ◌-◌, ◌∙◌, ◌∷◌, ◌≡◌, ◌≤◌, Bool, Contact, Event, Frame, HeardWasSent, Known}
use Rattle.plan_runs.proofs.Words.{List, None, Option, Plan, Program, Some, State, after_frame, ap, append-nil}
use Rattle.plan_runs.proofs.Words.{append_assoc, arith, cond, false, frame_bytes, happens, heard_along, heard_before}
use Rattle.plan_runs.proofs.Words.{heard_left, heard_of, inl, inr, is_due, is_noticed, left_after_frame, length}
use Rattle.plan_runs.proofs.Words.{notice_begin, notice_frames, refl, run, run_frames, shown, suc, sym, true}
use Rattle.plan_runs.proofs.Words.{with_next_counts, zero, ℕ}
use Rattle.plan_runs.proofs.Knowledge.{IsAhead}
use Rattle.plan_runs.proofs.Passing.{due_is}
use Rattle.plan_runs.proofs.Tracked.{noticed, split_le}
use Rattle.plan_runs.proofs.Facts.{Holds, IsCode, airs, frame_holds, happens_holds, started_holds}
use Rattle.plan_runs.proofs.Notice.{heard_frame}
use Rattle.plan_runs.proofs.Announcing.{heard_contacts, heard_run}

-- ---- nothing is heard outside of a notice

heard_before_notice : (plan : Plan) (s : State) (l : ℕ) → s.left ≡ Some l → plan.notice ≤ l → heard_of plan s ≡ []
heard_before_notice plan s l is past =
    let none : plan.notice - l ≡ 0 = omega (arith, past) in
    ap (heard_left plan s) is ∙ ap (λ (n : ℕ). notice_frames plan n (notice_begin plan l s)) none

pub unnoticed_left : (plan : Plan) (u : State) (left : Option ℕ) → u.left ≡ left → IsAhead left
    → is_noticed plan.notice left ≡ false → heard_of plan (with_next_counts plan u) ≡ []
unnoticed_left plan u None is ahead off =
    ap (λ (o : Option ℕ). heard_left plan (with_next_counts plan u) (left_after_frame o)) is
unnoticed_left plan u (Some l) is ahead off =
    elim (split_le l plan.notice) [
      | inl within ↦ let clash : true ≡ false = sym (noticed plan.notice l ahead within) ∙ off in absurd cc
      | inr past ↦ heard_before_notice plan (with_next_counts plan u) (l - 1) (ap left_after_frame is)
          (omega (arith, past))
    ]

-- ---- frame by frame

-- what was heard is the end of what was sent
abbrev IsEndOf : List (List ℕ) → List (List ℕ) → Type 0
IsEndOf heard sent = (earlier : List (List ℕ)) × (sent ≡ earlier ++ heard)

-- before a frame, what was heard is dropped if a swap is due
begun : (s : State) (heard sent : List (List ℕ)) (due : Bool) → is_due s.left ≡ due → IsEndOf heard sent
    → IsEndOf (heard_before s heard) sent
begun s heard sent true e h = (
  sent,
  sym (append-nil sent)
      ∙ ap (λ xs. sent ++ xs) (sym (ap (λ (b : Bool). cond b [] heard) e)),
)
begun s heard sent false e h = (h.0, h.1 ∙ ap (λ xs. h.0 ++ xs) (sym (ap (λ (b : Bool). cond b [] heard) e)))

-- whether or not the frame is in the notice
frame_sent : (p : Program) (ts : List Known) → IsCode p ts → (s : State) → Holds p ts s → (sent : List (List ℕ))
    → IsEndOf (heard_of p.plan s) sent
    → (on : Bool) → is_noticed p.plan.notice (shown p s).left ≡ on
    → IsEndOf (heard_of p.plan (after_frame p s)) (sent ++ frame_bytes p s ∷ [])
frame_sent p ts c s h sent end true e =
    let heard : List (List ℕ) = heard_before s (heard_of p.plan s) in
    let bytes : List ℕ = frame_bytes p s in
    let before = begun s (heard_of p.plan s) sent (is_due s.left) refl end in
    let more : heard ++ bytes ∷ [] ≡ heard_of p.plan (after_frame p s) =
    sym (ap (λ (b : Bool). cond b (heard ++ bytes ∷ []) heard) e) ∙ heard_frame p ts c s h in (
      before.0,
      ap (λ xs. xs ++ bytes ∷ []) before.1 ∙ append_assoc before.0 heard (bytes ∷ [])
          ∙ ap (λ xs. before.0 ++ xs) more,
    )
frame_sent p ts c s h sent end false e =
    let all : List (List ℕ) = sent ++ frame_bytes p s ∷ [] in
    let none = unnoticed_left p.plan (shown p s) (shown p s).left refl (airs p ts c s h).ahead e in
    (all, sym (append-nil all) ∙ ap (λ xs. all ++ xs) (sym none))

run_sent : (p : Program) (ts : List Known) → IsCode p ts → (s : State) (sent : List (List ℕ)) (events : List Event)
    → Holds p ts s → IsEndOf (heard_of p.plan s) sent
    → IsEndOf (heard_of p.plan (run p s events)) (sent ++ run_frames p s events)
run_sent p ts c s sent [] h end = (end.0, append-nil sent ∙ end.1)
run_sent p ts c s sent (Contact d closed ∷ es) h end =
    let t : State = happens p s (Contact d closed) in
    run_sent p ts c t sent es (happens_holds p ts c s (Contact d closed) h)
    (end.0, end.1 ∙ ap (λ xs. end.0 ++ xs) (sym (heard_contacts p.plan s d closed s.left refl)))
run_sent p ts c s sent (Frame ∷ es) h end =
    let t : State = after_frame p s in
    let bytes : List ℕ = frame_bytes p s in
    let rest = run_sent p ts c t (sent ++ bytes ∷ []) es (frame_holds p ts c s h)
    (frame_sent p ts c s h sent end (is_noticed p.plan.notice (shown p s).left) refl) in
    (rest.0, sym (append_assoc sent (bytes ∷ []) (run_frames p t es)) ∙ rest.1)

-- ---- the number of frames

frames_length : (plan : Plan) (n : ℕ) (s : State) → length (notice_frames plan n s) ≡ n
frames_length plan zero s = refl
frames_length plan (suc n) s = let rest = frames_length plan n (with_next_counts plan s) in omega (arith, rest)

heard_at_swap : (plan : Plan) (s : State) (left : Option ℕ) → s.left ≡ left → is_due left ≡ true
    → length (heard_of plan s) ≡ plan.notice
heard_at_swap plan s None is due = absurd cc
heard_at_swap plan s (Some l) is due =
    let all : plan.notice - l ≡ plan.notice = omega (arith, due_is l due) in
    cc (is, frames_length plan (plan.notice - l) (notice_begin plan l s), all)

-- ---- from a start

pub heard_was_sent : HeardWasSent
heard_was_sent p start first events program typed in_range started =
    let ts : List Known = typed.0 in
    let c : IsCode p ts = record { program = program; typing = typed.1 } in
    let h : Holds p ts first = started_holds p ts start first c in_range started in
    let nothing : heard_of p.plan first ≡ [] = ap (heard_left p.plan first) started.left in
    let last = run_sent p ts c first [] events h ([], sym nothing) in
    let end : State = run p first events in
    record {
      along = ap (λ xs. heard_along p first xs events) (sym nothing) ∙ heard_run p ts c first events h;
      earlier = last.0;
      sent = last.1;
      whole = heard_at_swap p.plan end end.left refl;
    }
