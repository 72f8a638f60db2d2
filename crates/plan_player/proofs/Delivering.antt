-- Playing events, and then one more.
use Rattle.plan_player.proofs.Words.{[], ◌++◌, ◌+◌, ◌<◌, ◌∙◌, ◌∷◌, ◌≡◌, ◌≤◌, Appends, Appends-trans, Contact, Event}
use Rattle.plan_player.proofs.Words.{Frame, List, Option, Playing, Program, State, Stopped, after_frame, ap}
use Rattle.plan_player.proofs.Words.{append_assoc, arith, concat-append, drop, frame_steps, frames_of, happens}
use Rattle.plan_player.proofs.Words.{last_steps, length, length-append, next_frame, played, played_bytes, refl, run}
use Rattle.plan_player.proofs.Words.{subst, sym, take, take-append-drop, ℕ}
use Rattle.plan_runs.proofs.Joined.{state_joins, runs_join}

-- ---- events and then more

steps_join : (p : Program) (s : State) (n : ℕ) (events more : List Event)
    → last_steps p s n (events ++ more) ≡ last_steps p (run p s events) (last_steps p s n events) more
steps_join p s n [] more = refl
steps_join p s n (Contact c closed ∷ es) more = steps_join p (happens p s (Contact c closed)) n es more
steps_join p s n (Frame ∷ es) more = steps_join p (after_frame p s) (frame_steps p s) es more

pub played_join : (p : Playing) (events more : List Event) → played p (events ++ more) ≡ played (played p events) more
played_join p events more =
    ap (λ (s : State). let r : Playing = record {
      code = p.code;
      state = s;
      steps = last_steps p.code p.state p.steps (events ++ more);
    } in r) (state_joins p.code p.state events more)
    ∙ ap (λ (n : ℕ). let r : Playing = record {
      code = p.code;
      state = run p.code (run p.code p.state events) more;
      steps = n;
    } in r) (steps_join p.code p.state p.steps events more)

pub frames_join : (p : Playing) (events more : List Event) → frames_of p (events ++ more) ≡ frames_of p events
    ++ frames_of (played p events) more
frames_join p events more = (runs_join p.code p.state [] events more).frames

pub bytes_join : (p : Playing) (events more : List Event) → played_bytes p (events ++ more) ≡ played_bytes p events
    ++ played_bytes (played p events) more
bytes_join p events more =
    rw (frames_join p events more) (concat-append (frames_of p events) (frames_of (played p events) more))

-- ---- this many events done

pub record Delivered (old new : Playing) (events : List Event) (index : ℕ) (before after : Option (List ℕ))
    (frames : ℕ) : Type 0 where
  pub state : new ≡ played old (take index events)
  pub out : Appends before after (played_bytes old (take index events))
  pub whole : frames ≡ length (frames_of old (take index events))
  pub few : frames ≤ index

pub one_more : (old p q : Playing) (events : List Event) (i : ℕ) (e : Event) (before mid after : Option (List ℕ))
    (frames n : ℕ) → Delivered old p events i before mid frames → take (i + 1) events ≡ take i events ++ e ∷ []
    → q ≡ played p (e ∷ []) → Appends mid after (played_bytes p (e ∷ [])) → n ≡ length (frames_of p (e ∷ [])) → n ≤ 1
    → Delivered old q events (i + 1) before after (frames + n)
one_more old p q events i e before mid after frames n d more state out whole few =
    let es : List Event = take i events in
    let at : Playing = played old es in
    let bytes = ap (λ (x : Playing). played_bytes x (e ∷ [])) d.state in
    let count : length (frames_of old (take (i + 1) events)) ≡ length (frames_of old es)
    + length (frames_of p (e ∷ [])) =
    ap (λ (l : List Event). length (frames_of old l)) more
    ∙ ap (λ (fs : List (List ℕ)). length fs) (frames_join old es (e ∷ []))
    ∙ length-append (frames_of old es) (frames_of at (e ∷ []))
    ∙ ap (λ (x : Playing). length (frames_of old es) + length (frames_of x (e ∷ []))) (sym d.state) in
    record {
      state = state ∙ ap (λ (x : Playing). played x (e ∷ [])) d.state ∙ sym (played_join old es (e ∷ []))
          ∙ ap (λ (l : List Event). played old l) (sym more);
      out = subst (λ (l : List ℕ). Appends before after l) (rw (bytes) (rw (more) (sym (bytes_join old es (e ∷ [])))))
          (Appends-trans before mid after (played_bytes old es) (played_bytes p (e ∷ [])) d.out out);
      whole = omega (arith, count, d.whole, whole);
      few = omega (arith, d.few, few);
    }

-- ---- the sink failed in the next frame

pub stopped_here : (old p q : Playing) (events : List Event) (i : ℕ) (e : Event) (before mid after : Option (List ℕ))
    (frames n : ℕ) → Delivered old p events i before mid frames → take (i + 1) events ≡ take i events ++ e ∷ []
    → e ≡ Frame → q ≡ played p (e ∷ []) → n < length (next_frame p) → Appends mid after (take n (next_frame p))
    → Stopped old q events before after frames n
stopped_here old p q events i e before mid after frames n d more is state part out =
    let es : List Event = take i events in
    let at : Playing = played old es in
    let bytes = ap (λ (x : Playing). played_bytes old es ++ take n (next_frame x)) d.state in
    record {
      done = es;
      rest = drop (i + 1) events;
      cut = sym (take-append-drop (i + 1) events) ∙ ap (λ (l : List Event). l ++ drop (i + 1) events) more
          ∙ append_assoc es (e ∷ []) (drop (i + 1) events) ∙ ap (λ (x : Event). es ++ x ∷ drop (i + 1) events) is;
      whole = d.whole;
      part = subst (λ (x : Playing). n < length (next_frame x)) d.state part;
      state = state ∙ ap (λ (x : Playing). played x (e ∷ [])) d.state ∙ sym (played_join old es (e ∷ []))
          ∙ ap (λ (l : List Event). played old (es ++ l)) (rw (is) refl);
      out = rw (← bytes) (Appends-trans before mid after (played_bytes old es) (take n (next_frame p)) d.out out);
    }
