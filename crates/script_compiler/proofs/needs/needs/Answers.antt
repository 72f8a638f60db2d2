use Rattle.script_compiler.proofs.Words.{◌+◌, ◌∙◌, ap, arith, get_or, instrs_of, sym}
use Rattle.script_compiler.proofs.Paths.{next_round, round_last, longest_bound}
use Rattle.script_compiler.proofs.needs.needs.Goals as goal

pub round-requires-clause-bound : goal.round-requires-clause-bound
round-requires-clause-bound c = λ to.
    let e = ap (λ xs. get_or xs to 0) c.deref.ensures.value in
    let i = c.loop-iteration.invariant to in
    let b = longest_bound (instrs_of c.args.lines.now) c.loop-iteration._iteration to in
    omega (arith, e, i, b, c.loop-iteration-test.true, c.from-iteration-end.ensures, c.ranges.budget)

pub loop-iteration-preserved : goal.loop-iteration-preserved
loop-iteration-preserved c =
    next_round (instrs_of c.args.lines.now) c.deref.result.now c.in_ok-next.next.items c.loop-iteration._iteration
    (λ to. ap (λ xs. get_or xs to 0) c.deref.ensures.value ∙ c.loop-iteration.invariant to) c.in_ok-next.ensures

pub returns-then-are_same : goal.returns-then-are_same
returns-then-are_same c =
    let code = instrs_of c.args.lines.now in
    let after = next_round code c.deref.result.now c.in_ok-next.next.items c.loop-iteration._iteration
    (λ to. ap (λ xs. get_or xs to 0) c.deref.ensures.value ∙ c.loop-iteration.invariant to) c.in_ok-next.ensures in
    let same = sym c.deref-in-loop-iteration.ensures.value ∙ c.are_same.ensures c.if-are_same.true
    ∙ c.deref-in-loop-iteration-2.ensures.value in
    round_last code c.loop-iteration.further.items c.in_ok-next.next.items c.loop-iteration._iteration
    (c.args.budget + 1) (omega (arith, c.loop-iteration-test.true, c.from-iteration-end.ensures))
    c.loop-iteration.invariant after same
