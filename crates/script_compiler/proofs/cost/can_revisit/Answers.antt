use Rattle.script_compiler.proofs.Words.{Bool, IsAt, List, arith, instrs_of, subst, sym}
use Rattle.script_compiler.proofs.Cycles.{none_waits, search_complete}
use Rattle.script_compiler.proofs.Paths.{instrs_length}
use Rattle.script_compiler.proofs.cost.can_revisit.Goals as goal

pub loop-step-preserved : goal.loop-step-preserved
loop-step-preserved c = c.in_ok-more.ensures.onward c.if-not-more.false c.args.pc c.loop-step._step
    c.loop-step.invariant

pub returns-then-not-more-clause-found : goal.returns-then-not-more-clause-found
returns-then-not-more-clause-found c = λ back.
    let code = instrs_of c.args.lines.now in
    let r = c.loop-step.reached in
    let e = instrs_length c.args.lines.now in
    let l = c.requires.within in
    let done = c.in_ok-more.ensures.done c.if-not-more.true in
    c.has.ensures.1 (subst (λ (ps : List Bool). IsAt ps c.args.pc) (sym done.1)
    (search_complete code c.args.pc c.loop-step._step r.places.items r.waiting.items (omega (arith, l, e)) done.0
    c.loop-step.invariant back))

pub returns-clause-found : goal.returns-clause-found
returns-clause-found c = λ back.
    let code = instrs_of c.args.lines.now in
    let r = c.loop-step.reached in
    let e = instrs_length c.args.lines.now in
    let l = c.requires.within in
    let none = none_waits code c.args.pc c.loop-step._step r.places.items r.waiting.items
    (omega (arith, e, c.loop-step-test.false)) c.loop-step.invariant in
    c.has-2.ensures.1 (search_complete code c.args.pc c.loop-step._step r.places.items r.waiting.items
    (omega (arith, l, e)) none c.loop-step.invariant back)
