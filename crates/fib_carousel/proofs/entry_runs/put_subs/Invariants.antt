use Rattle.fib_carousel.proofs.Words.{◌*◌, ◌++◌, ◌+◌, ◌-◌, ◌≡◌, ◌≤◌, drop, entries_bytes, length, map, sub_entry, take}
use Rattle.fib_carousel.proofs.entry_runs.put_subs.Given as goal

abbrev pub invariant-loop-place : goal.invariant-loop-place
invariant-loop-place g l = record {
  low : l.from ≤ l.place;
  high : l.place ≤ l.end;
  bytes : l.fib ≡ l.fn.fib ++ entries_bytes (map sub_entry
      (take (l.place - l.from) (drop l.from (g.S.Store.content l.store).subs)));
  room : length l.fib + (l.end - l.place) * 4 ≤ 30;
}
