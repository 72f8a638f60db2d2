-- Playing events, and then more of them.
use Rattle.plan_live.proofs.Words.{[], ◌++◌, ◌+◌, ◌-◌, ◌∙◌, ◌∷◌, ◌≡◌, Contact, Event, Frame, List, Playing, Program}
use Rattle.plan_live.proofs.Words.{State, Step, ap, append_assoc, arith, concat, drop, events_of, events_of_step}
use Rattle.plan_live.proofs.Words.{frames_of, kept_bytes, last_steps, length, length-append, played, refl, suc, sym}
use Rattle.plan_live.proofs.Words.{zero, ℕ}
use Rattle.std.proofs.lemmas.List.Folds.{concat-append}
use Rattle.plan_runs.specs.Frames.{frame_steps, after_frame}
use Rattle.plan_runs.specs.Runs.{happens, run}
use Rattle.plan_runs.proofs.Joined.{state_joins, runs_join}

-- ---- the player and its frames

steps_join : (p : Program) (s : State) (n : ℕ) (events more : List Event)
    → last_steps p s n (events ++ more) ≡ last_steps p (run p s events) (last_steps p s n events) more
steps_join p s n [] more = refl
steps_join p s n (Contact c closed ∷ es) more = steps_join p (happens p s (Contact c closed)) n es more
steps_join p s n (Frame ∷ es) more = steps_join p (after_frame p s) (frame_steps p s) es more

pub played_join : (p : Playing) (events more : List Event) → played p (events ++ more) ≡ played (played p events) more
played_join p events more =
    ap (λ (s : State). let r : Playing = record {
      code = p.code;
      state = s;
      steps = last_steps p.code p.state p.steps (events ++ more);
    } in r) (state_joins p.code p.state events more)
    ∙ ap (λ (n : ℕ). let r : Playing = record {
      code = p.code;
      state = run p.code (run p.code p.state events) more;
      steps = n;
    } in r) (steps_join p.code p.state p.steps events more)

pub frames_join : (p : Playing) (events more : List Event) → frames_of p (events ++ more) ≡ frames_of p events
    ++ frames_of (played p events) more
frames_join p events more = (runs_join p.code p.state [] events more).frames

pub counts_join : (p : Playing) (events more : List Event)
    → length (frames_of p (events ++ more)) ≡ length (frames_of p events) + length (frames_of (played p events) more)
counts_join p events more = ap (λ (fs : List (List ℕ)). length fs) (frames_join p events more)
    ∙ length-append (frames_of p events) (frames_of (played p events) more)

-- ---- the bytes, except those of the first frames

pub drop_none : (n : ℕ) (xs : List (List ℕ)) → xs ≡ [] → drop n xs ≡ []
drop_none zero xs none = none
drop_none (suc n) xs none = ap (λ (l : List (List ℕ)). drop (suc n) l) none

drop_join : (n : ℕ) (xs ys : List (List ℕ)) → drop n (xs ++ ys) ≡ drop n xs ++ drop (n - length xs) ys
drop_join zero xs ys =
    let none : 0 - length xs ≡ 0 = omega arith in
    ap (λ (k : ℕ). xs ++ drop k ys) (sym none)
drop_join (suc n) [] ys =
    let all : suc n - 0 ≡ suc n = omega arith in
    ap (λ (k : ℕ). drop k ys) (sym all)
drop_join (suc n) (x ∷ xs) ys =
    let fewer : suc n - length (x ∷ xs) ≡ n - length xs = omega arith in
    drop_join n xs ys ∙ ap (λ (k : ℕ). drop n xs ++ drop k ys) (sym fewer)

pub kept_join : (skip : ℕ) (p : Playing) (xs ys : List Event) → kept_bytes skip p (xs ++ ys) ≡ kept_bytes skip p xs
    ++ kept_bytes (skip - length (frames_of p xs)) (played p xs) ys
kept_join skip p xs ys =
    ap (λ (fs : List (List ℕ)). concat (drop skip fs)) (frames_join p xs ys)
    ∙ ap (λ (fs : List (List ℕ)). concat fs) (drop_join skip (frames_of p xs) (frames_of (played p xs) ys))
    ∙ concat-append (drop skip (frames_of p xs)) (drop (skip - length (frames_of p xs)) (frames_of (played p xs) ys))

pub kept_none : (skip : ℕ) (p : Playing) → kept_bytes skip p [] ≡ []
kept_none skip p = ap (λ (fs : List (List ℕ)). concat fs) (drop_none skip (frames_of p []) refl)

-- the bytes from a known player and frame count
pub kept_from : (skip : ℕ) (p q : Playing) (n m : ℕ) (xs ys : List Event) → q ≡ played p xs
    → m ≡ n + length (frames_of p xs)
    → kept_bytes (skip - n) p xs ++ kept_bytes (skip - m) q ys ≡ kept_bytes (skip - n) p (xs ++ ys)
kept_from skip p q n m xs ys state count =
    let left : skip - m ≡ (skip - n) - length (frames_of p xs) = omega (arith, count) in
    ap (λ (x : Playing). kept_bytes (skip - n) p xs ++ kept_bytes (skip - m) x ys) state
    ∙ ap (λ (k : ℕ). kept_bytes (skip - n) p xs ++ kept_bytes k (played p xs) ys) left
    ∙ sym (kept_join (skip - n) p xs ys)

-- ---- the events of steps

pub events_join : (xs ys : List Step) → events_of (xs ++ ys) ≡ events_of xs ++ events_of ys
events_join [] ys = refl
events_join (x ∷ xs) ys = ap (λ (l : List Event). events_of_step x ++ l) (events_join xs ys)
    ∙ sym (append_assoc (events_of_step x) (events_of xs) (events_of ys))
