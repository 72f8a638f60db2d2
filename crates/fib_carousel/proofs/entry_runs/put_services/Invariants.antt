use Rattle.fib_carousel.proofs.Words.{◌*◌, ◌++◌, ◌+◌, ◌-◌, ◌<◌, ◌≡◌, ◌≤◌, AreAlike, drop, entries_bytes, length, map}
use Rattle.fib_carousel.proofs.Words.{service_entry, take}
use Rattle.fib_carousel.proofs.Sections.{marked_all}
use Rattle.fib_carousel.proofs.entry_runs.put_services.Given as goal

abbrev pub invariant-services : goal.invariant-services
invariant-services g l = record {
  low : l.from < l.place;
  high : l.place ≤ length (g.S.Store.content l.store).services;
  room : (l.place - l.from) * l.shape.size + l.left ≡ l.room;
  alike : AreAlike l.shape (marked_all l.next service_entry
      (take (l.place - l.from) (drop l.from (g.S.Store.content l.store).services)));
  bytes : l.fib ≡ l.fn.fib ++ entries_bytes (map service_entry
      (take (l.place - l.from) (drop l.from (g.S.Store.content l.store).services)));
}

abbrev pub decreases-services : goal.decreases-services
decreases-services g l = length (g.S.Store.content l.store).services - l.place
