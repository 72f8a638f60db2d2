-- A start is reached, and so is every state that follows a reached one.
use Rattle.plan_runs.proofs.Words.{[], ◌++◌, ◌∙◌, ◌∷◌, AllByRecursion, Event, IsEvent, List, ReachedIsKept}
use Rattle.plan_runs.proofs.Words.{StartsAreReached, ap, refl, run}
use Rattle.plan_runs.proofs.Joined.{state_joins}

pub starts_are_reached : StartsAreReached
starts_are_reached p start s in_range started = record {
  start = start;
  first = s;
  events = [];
  in_range = in_range;
  started = started;
  within = tt;
  leads = refl;
}

each_joined : (es fs : List Event) → AllByRecursion IsEvent es → AllByRecursion IsEvent fs
    → AllByRecursion IsEvent (es ++ fs)
each_joined [] fs h g = g
each_joined (e ∷ es) fs h g = (h.0, each_joined es fs h.1 g)

pub reached_is_kept : ReachedIsKept
reached_is_kept p s events h within = record {
  start = h.start;
  first = h.first;
  events = h.events ++ events;
  in_range = h.in_range;
  started = h.started;
  within = each_joined h.events events h.within within;
  leads = state_joins p h.first h.events events ∙ ap (λ t. run p t events) h.leads;
}
