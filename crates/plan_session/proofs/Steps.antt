-- The events of steps, and of more steps.
use Rattle.plan_session.proofs.Words.{[], ◌++◌, ◌<◌, ◌∙◌, ◌∷◌, ◌≡◌, ◌≤◌, ◌⊎◌, Contact, Frames, IsStep, List}
use Rattle.plan_session.proofs.Words.{Scan, Step, append-nil, append_assoc, arith, bytes_left, events_of}
use Rattle.plan_session.proofs.Words.{events_of_step, inl, inr, length, length_replicate, refl, subst, sym}

pub events_join : (xs ys : List Step) → events_of (xs ++ ys) ≡ events_of xs ++ events_of ys
events_join [] ys = refl
events_join (x ∷ xs) ys = cc (events_join xs ys, append_assoc (events_of_step x) (events_of xs) (events_of ys))

-- the events of one more step
pub events_more : (done : List Step) (step : Step) → events_of done
    ++ events_of_step step ≡ events_of (done ++ step ∷ [])
events_more done step = cc (append-nil (events_of_step step), events_join done (step ∷ []))

-- and of those that follow it
pub events_cut : (done : List Step) (step : Step) (rest : List Step) → (events_of done ++ events_of_step step)
    ++ events_of rest ≡ events_of (done ++ step ∷ rest)
events_cut done step rest = append_assoc (events_of done) (events_of_step step) (events_of rest)
    ∙ sym (events_join done (step ∷ rest))

pub few_events : (step : Step) → IsStep step → length (events_of_step step) ≤ 3600000
few_events (Contact c closed) h = omega arith
few_events (Frames n) h = omega (arith, length_replicate n, h.1)

-- a bound on what is left at first, from one on what is left now, which may be the same
pub first_bound : (now first : Scan) → (now ≡ first) ⊎ (bytes_left first < 18446744073709551616)
    → bytes_left now < 18446744073709551616 → bytes_left first < 18446744073709551616
first_bound now first (inl same) bound = subst (λ (s : Scan). bytes_left s < 18446744073709551616) same bound
first_bound now first (inr known) bound = known
