use Rattle.plan_live.proofs.Words.{Holds, List, subst, sym, ℕ}
use Rattle.plan_live.proofs.line.steps_of_line.Goals as goal

pub returns-in-Err-read_events-clause-none : goal.returns-in-Err-read_events-clause-none
returns-in-Err-read_events-clause-none c = λ other all h.
    c.in-Err-read_events.ensures.only (λ e. other (c.fault_of.ensures e)) all
    (subst (λ (l : List ℕ). Holds l all) (sym c.in-Ok.ensures.cases.0) h.holds)
