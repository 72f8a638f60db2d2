use Rattle.script_compiler.proofs.Words.{◌+◌, ◌<◌, ◌∙◌, ◌≡◌, List, ap, arith, get_or, instrs_of, length, length_push, ℕ}
use Rattle.script_compiler.proofs.Paths.{each_round, instrs_length, round_each}
use Rattle.script_compiler.proofs.needs.round.Goals as goal

pub returns : goal.returns
returns c =
    let inv = c.loop-pc.invariant in
    let same = instrs_length c.args.lines.now in
    let at_end : c.loop-pc.pc ≡ length c.args.lines.now = omega (arith, c.loop-pc-test.false, c.loop-pc.auto.pc-end) in
    each_round (instrs_of c.args.lines.now) c.args.further.now c.loop-pc.next.items
    (omega (arith, inv.long, at_end, same)) (λ k lt.
    let below : k < c.loop-pc.pc = omega (arith, at_end, lt, same) in inv.each k below)

pub loop-pc-preserved : goal.loop-pc-preserved
loop-pc-preserved c =
    let inv = c.loop-pc.invariant in
    let items = c.in_ok-push.ensures.items in
    let long = ap (λ (xs : List ℕ). length xs) items ∙ length_push c.loop-pc.next.items c.need_of.result
    ∙ ap (λ n. n + 1) inv.long in
    record {
      long = long;
      each = round_each c.args.lines.now (λ to. get_or c.args.further.now to 0) c.loop-pc.next.items
          c.push.new.self.items c.loop-pc.pc c.need_of.result c.index-lines-pc.result c.index-lines-pc.is
          (omega (arith, c.loop-pc-test.true, c.loop-pc.auto.pc-end)) items inv.long c.need_of.ensures inv.each;
    }
