-- A run over some events and then over more is the run over all of them.
use Rattle.plan_runs.proofs.Words.{[], ◌++◌, ◌↔◌, ◌∷◌, ◌≡◌, Contact, Event, Frame, List, Program, RunIsAllowed, Runs}
use Rattle.plan_runs.proofs.Words.{RunsJoin, State, after_frame, ap, frame_bytes, happens, heard_along, heard_by, refl}
use Rattle.plan_runs.proofs.Words.{run, run_frames, ℕ}

pub state_joins : (p : Program) (s : State) (events more : List Event)
    → run p s (events ++ more) ≡ run p (run p s events) more
state_joins p s [] more = refl
state_joins p s (e ∷ es) more = state_joins p (happens p s e) es more

pub frames_join : (p : Program) (s : State) (events more : List Event)
    → run_frames p s (events ++ more) ≡ run_frames p s events ++ run_frames p (run p s events) more
frames_join p s [] more = refl
frames_join p s (Contact c closed ∷ es) more = frames_join p (happens p s (Contact c closed)) es more
frames_join p s (Frame ∷ es) more = ap (λ fs. frame_bytes p s ∷ fs) (frames_join p (after_frame p s) es more)

hears_join : (p : Program) (s : State) (heard : List (List ℕ)) (events more : List Event)
    → heard_along p s heard (events ++ more) ≡ heard_along p (run p s events) (heard_along p s heard events) more
hears_join p s heard [] more = refl
hears_join p s heard (e ∷ es) more = hears_join p (happens p s e) (heard_by p s heard e) es more

plain_joins : (p : Program) (s : State) (events more : List Event)
    → RunIsAllowed p s (events ++ more) ↔ (RunIsAllowed p s events × RunIsAllowed p (run p s events) more)
plain_joins p s [] more = (λ h. (_, h), λ h. h.1)
plain_joins p s (e ∷ es) more =
    let rest = plain_joins p (happens p s e) es more in
    (λ h. ((h.0, (rest.0 h.1).0), (rest.0 h.1).1), λ h. (h.0.0, rest.1 (h.0.1, h.1)))

announced_joins : (p : Program) (s : State) (heard : List (List ℕ)) (events more : List Event)
    → Runs p s heard (events ++ more)
    ↔ (Runs p s heard events × Runs p (run p s events) (heard_along p s heard events) more)
announced_joins p s heard [] more = (λ h. (_, h), λ h. h.1)
announced_joins p s heard (e ∷ es) more =
    let rest = announced_joins p (happens p s e) (heard_by p s heard e) es more in
    (λ h. ((h.0, (rest.0 h.1).0), (rest.0 h.1).1), λ h. (h.0.0, rest.1 (h.0.1, h.1)))

pub runs_join : RunsJoin
runs_join p s heard events more = record {
  state = state_joins p s events more;
  frames = frames_join p s events more;
  hears = hears_join p s heard events more;
  plain = plain_joins p s events more;
  announced = announced_joins p s heard events more;
}
