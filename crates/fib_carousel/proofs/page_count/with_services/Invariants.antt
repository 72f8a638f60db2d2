use Rattle.fib_carousel.proofs.Words.{◌*◌, ◌+◌, ◌≡◌, ◌≤◌, Configuration, all_placed, drop, map, marked, service_entry}
use Rattle.fib_carousel.proofs.page_count.with_services.Given as goal

abbrev pub invariant-loop-index : goal.invariant-loop-index
invariant-loop-index g l =
    let c : Configuration = g.S.Store.content l.store in
    record {
      used : l.state.used ≤ 30;
      fib : l.state.fib ≤ l.fn.before.fib + 2 * l.index;
      rest :
          all_placed l.layout (map (λ s. marked l.next (service_entry s)) (drop l.index c.services)) l.state
          ≡ all_placed l.layout (map (λ s. marked l.next (service_entry s)) c.services) l.fn.before;
    }
