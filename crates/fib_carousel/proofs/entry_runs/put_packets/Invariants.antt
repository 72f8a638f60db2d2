use Rattle.fib_carousel.proofs.Words.{◌*◌, ◌++◌, ◌+◌, ◌-◌, ◌≡◌, ◌≤◌, drop, entries_bytes, length, map, packet_entry}
use Rattle.fib_carousel.proofs.Words.{take}
use Rattle.fib_carousel.proofs.entry_runs.put_packets.Given as goal

abbrev pub invariant-loop-place : goal.invariant-loop-place
invariant-loop-place g l = record {
  low : l.from ≤ l.place;
  high : l.place ≤ l.end;
  bytes : l.fib ≡ l.fn.fib ++ entries_bytes (map packet_entry
      (take (l.place - l.from) (drop l.from (g.S.Store.content l.store).packets)));
  room : length l.fib + (l.end - l.place) * 5 ≤ 30;
}
