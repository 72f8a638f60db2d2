use Rattle.fib_carousel.proofs.Words.{◌*◌, ◌++◌, ◌+◌, ◌-◌, ◌≡◌, ◌≤◌, HasPassed, IsAtFib, fib_bytes, fib_entries}
use Rattle.fib_carousel.proofs.Words.{figs_of, first_fib, flat_map, frame_fibs, length, map, packing, range_with_len}
use Rattle.fib_carousel.proofs.Words.{take, used_fibs, used_figs}
use Rattle.fib_carousel.proofs.page_writer.write_used.Given as goal

abbrev pub invariant-loop-slot : goal.invariant-loop-slot
invariant-loop-slot g l = record {
  some : 1 ≤ l.slot;
  size : length l.frame ≡ 32 * frame_fibs l.fn.layout;
  before : IsAtFib l.fn.layout (g.L.EntryList.entries l.fn.list) (first_fib l.fn.layout l.fn.page + l.slot) l.position;
  passed : HasPassed l.fn.layout (g.L.EntryList.entries l.fn.list) (first_fib l.fn.layout l.fn.page + l.slot - 1)
      l.position;
  bytes :
      take (32 * l.slot) l.frame
      ++ flat_map fib_bytes (map (λ n. figs_of (fib_entries l.fn.layout n (g.L.EntryList.entries l.fn.list)))
      (range_with_len (first_fib l.fn.layout l.fn.page + l.slot) (used_fibs l.fn.layout - l.slot)))
      ≡ flat_map fib_bytes (used_figs l.fn.layout (packing l.fn.layout (g.L.EntryList.entries l.fn.list)) l.fn.ensemble
      l.fn.page (g.L.EntryList.entries l.fn.list));
}
