-- What the merger has heard of the plan after one more FIB, and what it is then.
use Rattle.fig_merge.proofs.Words.{◌+◌, ◌-◌, ◌∙◌, ◌≡◌, Bool, Fig, Heard, List, Listening, Merging, None, Option, Result}
use Rattle.fig_merge.proofs.Words.{Some, after_fill, agrees_with, ap, carried_in, data_of, fig_agrees, heard_or}
use Rattle.fig_merge.proofs.Words.{hearing, left_waiting, length, limited, room_of, stale_in, ℕ}
use Rattle.fib_reader.specs.Listening.{Pictured}
use Rattle.fib_reader.specs.declared.fault.ListenFault.{ListenFault}

pub heard_is : (o : Option Listening) (old new : Listening) (answer : Result (Unit {0}) ListenFault)
    → Heard o old new answer → new ≡ heard_or old o
heard_is None old new answer h = h.1
heard_is (Some l) old new answer h = h.1

-- the FIGs that agree with the picture that is then current
pub judges : (figs : List Fig) (l new : Listening) (k : Pictured) → new ≡ hearing figs l → k ≡ new.current
    → fig_agrees k ≡ agrees_with figs l
judges figs l new k heard is = ap (λ (p : Pictured). fig_agrees p) (is ∙ ap (λ (h : Listening). h.current) heard)

abbrev made : Merging → List (List ℕ) → (carried stale : ℕ) → Listening → Merging
made m waiting carried stale heard =
    record m { waiting = waiting; carried = carried; stale = stale; heard = heard }

pub fill_is : (figs : List Fig) (m : Merging) (k : List ℕ → Bool) (used : ℕ) (waiting : List (List ℕ))
    (carried stale more gone : ℕ) (heard : Listening)
    → used ≡ length (data_of figs) → k ≡ agrees_with figs m.heard → waiting ≡ left_waiting k (30 - used) m.waiting
    → more ≡ length (carried_in k (30 - used) m.waiting) → gone ≡ length (stale_in k (30 - used) m.waiting)
    → carried ≡ limited (m.carried + more) → stale ≡ limited (m.stale + gone) → heard ≡ hearing figs m.heard
    → made m waiting carried stale heard ≡ after_fill (Some figs) m
fill_is figs m k used waiting carried stale more gone heard size same left one other c s hears =
    let ok = agrees_with figs m.heard in
    let waits_on : waiting ≡ left_waiting ok (room_of figs) m.waiting = rw (← same, ← size) left in
    let sent : carried ≡ limited (m.carried + length (carried_in ok (room_of figs) m.waiting)) =
    cc (c, one, size, same) in
    let left_out : stale ≡ limited (m.stale + length (stale_in ok (room_of figs) m.waiting)) =
    cc (s, other, size, same) in
    cc (waits_on, sent, left_out, hears)
