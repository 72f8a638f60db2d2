use Rattle.fib_carousel.proofs.Words.{[], ◌*◌, ◌++◌, ◌-◌, ◌≡◌, fib_bytes, flat_map, frame_fibs, length, replicate}
use Rattle.fib_carousel.proofs.Words.{reserved_figs, take, used_fibs}
use Rattle.fib_carousel.proofs.page_writer.write_reserved.Given as goal

abbrev pub invariant-loop-slot : goal.invariant-loop-slot
invariant-loop-slot l = record {
  size : length l.frame ≡ 32 * frame_fibs l.fn.layout;
  bytes :
      take (32 * l.slot) l.frame ++ flat_map fib_bytes (replicate (frame_fibs l.fn.layout - l.slot) [])
      ≡ take (32 * used_fibs l.fn.layout) l.fn.frame ++ flat_map fib_bytes (reserved_figs l.fn.layout);
}
