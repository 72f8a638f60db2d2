use Rattle.fib_carousel.proofs.Words.{◌+◌, ◌∙◌, ◌≡◌, ap, arith, entry_bytes, entry_length, length, length-append}
use Rattle.fib_carousel.proofs.Words.{sub_entry}
use Rattle.fib_carousel.proofs.Sections.{one_more}
use Rattle.fib_carousel.proofs.entry_runs.put_subs.Goals as goal

pub loop-place-preserved : goal.loop-place-preserved
loop-place-preserved g c =
    let x = c.sub_at.result in
    let size : length (entry_bytes (sub_entry x)) ≡ 4 = entry_length (sub_entry x) in
    let long : length c.put_sub.new.fib ≡ length c.loop-place.fib + length (entry_bytes (sub_entry x)) =
    ap length c.put_sub.ensures ∙ length-append c.loop-place.fib (entry_bytes (sub_entry x)) in
    record {
      low = omega (arith, c.loop-place.invariant.low);
      high = omega (arith, c.loop-place-test.true);
      bytes = one_more sub_entry _ c.args.from c.loop-place.place x _ _ _ c.loop-place.invariant.low
          c.sub_at.ensures.value c.loop-place.invariant.bytes c.put_sub.ensures;
      room = omega (arith, long, size, c.loop-place.invariant.room, c.loop-place-test.true);
    }
