-- Frames one after another, and the events of steps: those of the first, of the next, and of the rest.
use Rattle.plan_live.proofs.Words.{[], ◌++◌, ◌+◌, ◌∙◌, ◌∷◌, ◌≡◌, Event, Frame, List, Step, ap, append-nil, arith}
use Rattle.plan_live.proofs.Words.{events_of, events_of_step, replicate, suc, take, zero, ℕ}
use Rattle.plan_live.proofs.Joining.{events_join}

pub replicate_more : (m n : ℕ) → replicate (m + n) Frame ≡ replicate m Frame ++ replicate n Frame
replicate_more zero n =
    let same : 0 + n ≡ n = omega arith in
    ap (λ (k : ℕ). replicate k Frame) same
replicate_more (suc m) n =
    let next : suc m + n ≡ suc (m + n) = omega arith in
    ap (λ (k : ℕ). replicate k Frame) next ∙ ap (λ (l : List Event). Frame ∷ l) (replicate_more m n)

-- the events of one more step
pub events_more : (steps : List Step) (i : ℕ) (step : Step) → take (i + 1) steps ≡ take i steps ++ step ∷ []
    → events_of (take (i + 1) steps) ≡ events_of (take i steps) ++ events_of_step step
events_more steps i step more =
    ap (λ (l : List Step). events_of l) more ∙ events_join (take i steps) (step ∷ [])
    ∙ ap (λ (l : List Event). events_of (take i steps) ++ l) (append-nil (events_of_step step))
