use Rattle.fib_carousel.proofs.Words.{◌*◌, ◌+◌, ◌∙◌, ◌≡◌, List, ap, arith, checked, filled, frame_fibs, take, ℕ}
use Rattle.fib_carousel.proofs.Rows.{reserved_written}
use Rattle.fib_carousel.proofs.page_writer.write_reserved.Goals as goal

pub loop-slot-preserved : goal.loop-slot-preserved
loop-slot-preserved c =
    let count : 32 * (c.loop-slot.slot + 1) ≡ 32 * c.loop-slot.slot + 32 = omega arith in
    record {
      size = c.finish_fib.ensures.size ∙ c.loop-slot.invariant.size;
      bytes =
          reserved_written c.loop-slot.slot (frame_fibs c.args.layout) _ _ (checked (filled c.new.result)) _
          (omega (arith, c.loop-slot-test.true, c.fibs-slot-end.ensures.value))
          (ap (λ (bytes : List ℕ). checked (filled bytes)) c.new.ensures)
          (ap (λ n. take n c.finish_fib.new.self) count ∙ c.finish_fib.ensures.front)
          c.loop-slot.invariant.bytes;
    }
