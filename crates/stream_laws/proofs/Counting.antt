-- The counts of a run run on, and FIG 0/0 is heard at each multiple of the step.
use Rattle.stream_laws.proofs.Words.{[], ◌%◌, ◌+◌, ◌==◌, ◌∙◌, ◌∷◌, ◌≡◌, AreCounted, Bool, Contact, EnsembleInformation}
use Rattle.stream_laws.proofs.Words.{Event, Frame, Holds, IsCode, IsFrameOfCount, Known, List, None, PageLaws, Plan}
use Rattle.stream_laws.proofs.Words.{Program, RunsAreCounted, Some, State, after_frame, airs, ap, code_of, cond}
use Rattle.stream_laws.proofs.Words.{count_step, ensemble_of, ensemble_sent, eq-eqb, eqb-true, false, frame_bytes}
use Rattle.stream_laws.proofs.Words.{frame_holds, happens, happens_holds, layout_mode, pageable, played_holds, refl}
use Rattle.stream_laws.proofs.Words.{run_frames, sent_entries, shown, shown_count, subst, sym, true, ℕ}
use Rattle.mux_types.specs.declared.limits.TheConstants.{COUNTS}
use Rattle.plan_runs.specs.SentHeaders.{HasHeaderOf}
use Rattle.stream_laws.proofs.InPlace.{shown_eid}

-- what is sent, if anything is
record IsSent (plan : Plan) (u : State) (e : EnsembleInformation) : Type 0 where
  on : u.count % count_step (layout_mode plan.layout) ≡ 0
  eid : e.eid ≡ u.eid
  count : e.count ≡ u.count

either_eid : (b : Bool) (x y : EnsembleInformation) (n : ℕ) → x.eid ≡ n → y.eid ≡ n → (cond b x y).eid ≡ n
either_eid true x y n here there = here
either_eid false x y n here there = there

either_count : (b : Bool) (x y : EnsembleInformation) (n : ℕ) → x.count ≡ n → y.count ≡ n → (cond b x y).count ≡ n
either_count true x y n here there = here
either_count false x y n here there = there

sent_of : (plan : Plan) (u : State) (e : EnsembleInformation) → ensemble_of plan u ≡ e
    → u.count % count_step (layout_mode plan.layout) ≡ 0 → IsSent plan u e
sent_of plan u e is on = record {
  on = on;
  eid = sym (ap (λ (x : EnsembleInformation). x.eid) is) ∙ either_eid _ _ _ _ refl refl;
  count = sym (ap (λ (x : EnsembleInformation). x.count) is) ∙ either_count _ _ _ _ refl refl;
}

is_sent : (plan : Plan) (u : State) (e : EnsembleInformation) → ensemble_sent plan u ≡ Some e → IsSent plan u e
is_sent plan u e sent = elim (u.count % count_step (layout_mode plan.layout) == 0)
    as (λ t. (u.count % count_step (layout_mode plan.layout) == 0) ≡ t
    → cond t (Some (ensemble_of plan u)) None ≡ Some e → IsSent plan u e) [
      | true ↦ λ on s. sent_of plan u e (inner s) (eqb-true (u.count % count_step (layout_mode plan.layout)) 0 on)
      | false ↦ λ off s. absurd cc
    ] refl sent
  where
    inner : Some (ensemble_of plan u) ≡ Some e → ensemble_of plan u ≡ e
    inner s = cc

counted : PageLaws → (p : Program) (ts : List Known) → IsCode p ts → (s : State) → Holds p ts s
    → IsFrameOfCount (count_step (layout_mode p.plan.layout)) s.eid s.count (frame_bytes p s)
counted laws p ts c s holds =
    let plan : Plan = p.plan in
    let u : State = shown p s in
    let heard : HasHeaderOf plan u (frame_bytes p s) =
    λ next e. laws.ensemble plan.layout (ensemble_sent plan u) u.page_index (sent_entries plan u)
    (pageable laws plan u (airs p ts c s holds)) next e in
    let count : u.count ≡ s.count = shown_count p s in
    record {
      there = λ on.
          let on_now : u.count % count_step (layout_mode plan.layout) ≡ 0 =
          ap (λ n. n % count_step (layout_mode plan.layout)) count ∙ on in (
            ensemble_of plan u,
            (heard false (ensemble_of plan u)).1 (
              refl,
              ap (λ t. cond t (Some (ensemble_of plan u)) None)
                  (eq-eqb (u.count % count_step (layout_mode plan.layout)) 0 on_now),
            ),
          );
      only = λ next e is.
          let both = (heard next e).0 is in
          let sent = is_sent plan u e both.1 in (
            ap (λ n. n % count_step (layout_mode plan.layout)) (sym count) ∙ sent.on,
            both.0,
            sent.eid
                ∙ shown_eid p s,
            sent.count ∙ count,
          );
    }

along : PageLaws → (p : Program) (ts : List Known) (c : IsCode p ts) (s : State) (events : List Event) → Holds p ts s
    → AreCounted (count_step (layout_mode p.plan.layout)) s.eid s.count (run_frames p s events)
along laws p ts c s [] holds = tt
along laws p ts c s (Contact d closed ∷ es) holds =
    along laws p ts c (happens p s (Contact d closed)) es (happens_holds p ts c s (Contact d closed) holds)
along laws p ts c s (Frame ∷ es) holds =
    let rest = along laws p ts c (after_frame p s) es (frame_holds p ts c s holds) in
    let count : (after_frame p s).count ≡ (s.count + 1) % COUNTS = ap (λ n. (n + 1) % COUNTS) (shown_count p s) in (
      counted laws p ts c s holds,
      subst (λ n. AreCounted (count_step (layout_mode p.plan.layout)) s.eid n (run_frames p (after_frame p s) es)) count
          (subst (λ n. AreCounted (count_step (layout_mode p.plan.layout)) n (after_frame p s).count
          (run_frames p (after_frame p s) es)) (shown_eid p s) rest),
    )

pub runs_are_counted : PageLaws → RunsAreCounted
runs_are_counted laws p s events played =
    along laws p played.typed.0 (code_of p s played) s events (played_holds p s played)
