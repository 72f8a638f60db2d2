use Rattle.fib_carousel.proofs.Words.{◌*◌, ◌+◌, ◌-◌, ◌∙◌, ◌≡◌, HasPassed, IsAtFib, List, Written, ap, arith, fib_bytes}
use Rattle.fib_carousel.proofs.Words.{fib_entries, figs_of, first_fib, subst, take, used_fibs, ℕ}
use Rattle.fib_carousel.proofs.Walk.{rounds_bound}
use Rattle.fib_carousel.proofs.Widths.{few_fibs}
use Rattle.fib_carousel.proofs.Rows.{fib_written}
use Rattle.fib_carousel.proofs.page_writer.write_used.Goals as goal

pub overflow_mul-first : goal.overflow_mul-first
overflow_mul-first g c =
    omega (
      arith,
      rounds_bound c.args.layout (g.L.EntryList.entries c.args.list.now),
      few_fibs c.args.layout _ c.args.page c.used.ensures.value,
      c.len-len.ensures.count,
      c.requires.page,
    )

pub overflow_add-place : goal.overflow_add-place
overflow_add-place g c =
    omega (
      arith,
      rounds_bound c.args.layout (g.L.EntryList.entries c.args.list.now),
      few_fibs c.args.layout _ c.args.page c.used.ensures.value,
      c.len-len.ensures.count,
      c.requires.page,
    )

pub loop-slot-preserved : goal.loop-slot-preserved
loop-slot-preserved g c =
    let same : c.used.result * c.args.page ≡ first_fib c.args.layout c.args.page =
    ap (λ n. n * c.args.page) c.used.ensures.value in
    let here : c.used.result * c.args.page + c.loop-slot.slot ≡ first_fib c.args.layout c.args.page + c.loop-slot.slot =
    ap (λ n. n + c.loop-slot.slot) same in
    let next : c.used.result * c.args.page + c.loop-slot.slot + 1 ≡ first_fib c.args.layout c.args.page
    + (c.loop-slot.slot + 1) = omega (arith, here) in
    let last : c.used.result * c.args.page + c.loop-slot.slot ≡ first_fib c.args.layout c.args.page
    + (c.loop-slot.slot + 1) - 1 = omega (arith, here) in
    let count : 32 * (c.loop-slot.slot + 1) ≡ 32 * c.loop-slot.slot + 32 = omega arith in
    let figs : ℕ → List Written = λ n. figs_of (fib_entries c.args.layout n (g.L.EntryList.entries c.args.list.now)) in
    record {
      some = omega arith;
      size = c.write_fib-in-loop-slot.ensures.size ∙ c.loop-slot.invariant.size;
      before = subst (λ n. IsAtFib c.args.layout (g.L.EntryList.entries c.args.list.now) n
          c.write_fib-in-loop-slot.new.position) next c.write_fib-in-loop-slot.ensures.next;
      passed = subst (λ n. HasPassed c.args.layout (g.L.EntryList.entries c.args.list.now) n
          c.write_fib-in-loop-slot.new.position) last c.write_fib-in-loop-slot.ensures.passed;
      bytes =
          fib_written (used_fibs c.args.layout) (first_fib c.args.layout c.args.page) c.loop-slot.slot figs _ _
          (fib_bytes (figs (c.used.result * c.args.page + c.loop-slot.slot))) _
          (omega (arith, c.loop-slot-test.true, c.used-slot-end.ensures.value))
          (ap (λ n. fib_bytes (figs n)) here)
          (ap (λ n. take n c.write_fib-in-loop-slot.new.frame) count ∙ c.write_fib-in-loop-slot.ensures.bytes)
          c.loop-slot.invariant.bytes;
    }
