-- A typed code never traps.
use Rattle.plan_runs.proofs.Words.{[], ◌∙◌, ◌∷◌, ◌≡◌, Arrives, CanEnter, Configuration, Contact, Counters, Event}
use Rattle.plan_runs.proofs.Words.{FitsSwap, Frame, Hold, Idle, IsProgram, IsReached, IsStart, IsTyping, Known, Label}
use Rattle.plan_runs.proofs.Words.{List, None, Option, Program, RunIsAllowed, Some, Start, State, Swap}
use Rattle.plan_runs.proofs.Words.{TypedCodeRuns, after_frame, ap, arith, bit_at, bit_at-zero, eqb, happens, inl}
use Rattle.plan_runs.proofs.Words.{label_at, length, refl, replicate, run, slice_get, subst, sym, ℕ}
use Rattle.plan_runs.proofs.Lookups.{found}
use Rattle.plan_runs.proofs.Knowledge.{IsIdleAs, ComesBy, AreSet, IsOnAir, CommittedBy}
use Rattle.plan_runs.proofs.Steps.{Expects, ResumesBy, same_some}
use Rattle.plan_runs.proofs.Between.{Between, frame_goes, frame_between}

-- ---- the start

unset : (counters : Counters) (levels : List ℕ) → counters.0 ≡ 0 → AreSet counters levels
unset counters levels none r low on =
    let off = ap (λ (n : ℕ). eqb (bit_at n r) 1) none ∙ ap (λ (n : ℕ). eqb n 1) (bit_at-zero r) in
    absurd cc

fits_itself : (q : Swap) (t : Known) → q ≡ Idle → FitsSwap q q t t
fits_itself Idle t e = (refl, refl)
fits_itself _ t e = absurd cc

comes_idle : (q : Swap) (a b : Configuration) (left : Option ℕ) (c n : Configuration) → q ≡ Idle → IsIdleAs a b left c n
    → ComesBy 0 q a b left c n
comes_idle Idle a b left c n e h = inl h
comes_idle _ a b left c n e h = absurd cc

resumes_at : (p : Program) (ts : List Known) (s : State) (pc : ℕ) (hold : Hold) (left : Option ℕ) (counters : List ℕ)
    → pc ≡ s.pc → hold ≡ s.hold → left ≡ s.left → counters ≡ s.counters
    → ResumesBy p ts pc hold left s.current s.next counters
    → ResumesBy p ts s.pc s.hold s.left s.current s.next s.counters
resumes_at p ts s pc hold left counters a b c d h = rw (← a) (rw (← b) (rw (← c) (rw (← d) h)))

pub started_between : (p : Program) (ts : List Known) (start : Start) (s : State) → IsTyping p ts → IsStart p start s
    → Between p ts s
started_between p ts start s ty st =
    let o = ty.opening in
    let label : Label = o.label in
    let known : Known = o.known in
    let one : label ≡ st.label = same_some label st.label (label_at p 0) o.first st.first in
    let at = subst (λ (l : Label). slice_get p.configurations l.cur ≡ Some s.current) (sym one) st.current in
    let current = same_some known.current s.current (slice_get p.configurations label.cur) o.declares.current at in
    let next : s.next ≡ known.next = st.next ∙ sym current ∙ o.opening.initial.same in
    let place = ty.labels label (found (λ (l : Label). eqb l.pc 0) p.labels label o.first).inside in
    let comes_to : CanEnter p label known =
    record {
      declared = known;
      declares = o.declares;
      fits = record { swap = fits_itself known.pending known o.opening.initial.idle; counters = λ r on. on };
      affords = omega arith;
    } in
    let expects : Expects p ts 0 (replicate 8 0) (λ t. ComesBy 0 t.pending t.current t.next None s.current s.next) =
    record {
      known = known;
      arrives = subst (λ (x : Option Label). Arrives p ts 0 x known) (sym o.first) comes_to;
      affords = omega (arith, place.within);
      set = unset known.counters (replicate 8 0) o.opening.initial.unset;
      comes = comes_idle known.pending known.current known.next None s.current s.next o.opening.initial.idle
          (record { none = refl; current = sym current; next = next });
    } in
    let on_air : IsOnAir p.plan s.current =
    rw (← current) (record { sound = o.opening.sound; within_period = o.opening.within_period }) in
    record {
      resumes = resumes_at p ts s 0 _ None _ (sym st.pc) (sym st.hold) (sym st.left) (sym st.counters) expects;
      kept = record {
        on_air = on_air;
        committed = subst (λ (l : Option ℕ). CommittedBy p.plan l s.current s.next) (sym st.left) tt;
        eight = ap (λ (xs : List ℕ). length xs) st.counters;
      };
    }

-- ---- runs

happens_between : (p : Program) (ts : List Known) → IsProgram p → IsTyping p ts → (s : State) (e : Event)
    → Between p ts s → Between p ts (happens p s e)
happens_between p ts pr ty s (Contact c closed) h = record { resumes = h.resumes; kept = h.kept }
happens_between p ts pr ty s Frame h = frame_between p ts pr ty s h

pub run_between : (p : Program) (ts : List Known) → IsProgram p → IsTyping p ts → (s : State) (events : List Event)
    → Between p ts s → Between p ts (run p s events)
run_between p ts pr ty s [] h = h
run_between p ts pr ty s (e ∷ es) h = run_between p ts pr ty (happens p s e) es (happens_between p ts pr ty s e h)

run_allowed : (p : Program) (ts : List Known) → IsProgram p → IsTyping p ts → (s : State) (events : List Event)
    → Between p ts s → RunIsAllowed p s events
run_allowed p ts pr ty s [] h = tt
run_allowed p ts pr ty s (Contact c closed ∷ es) h =
    (tt, run_allowed p ts pr ty (happens p s (Contact c closed)) es (happens_between p ts pr ty s (Contact c closed) h))
run_allowed p ts pr ty s (Frame ∷ es) h =
    ((frame_goes p ts pr ty s h).allowed, run_allowed p ts pr ty (after_frame p s) es (frame_between p ts pr ty s h))

pub reached_between : (p : Program) (ts : List Known) → IsProgram p → IsTyping p ts → (s : State) → IsReached p s
    → Between p ts s
reached_between p ts pr ty s r =
    rw (← r.leads) (run_between p ts pr ty r.first r.events (started_between p ts r.start r.first ty r.started))

pub typed_code_runs : TypedCodeRuns
typed_code_runs p s events h =
    let ts : List Known = h.typed.0 in
    let ty : IsTyping p ts = h.typed.1 in
    let here = reached_between p ts h.program ty s h.reached in
    let after = run_between p ts h.program ty s events here in
    record { allowed = run_allowed p ts h.program ty s events here; sound = after.kept.on_air.sound }
