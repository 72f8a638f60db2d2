use Rattle.plan_verifier.proofs.Words.{◌+◌, ◌<◌, ◌∙◌, Bool, ap, arith, continues, drop, known_if_reached, known_of}
use Rattle.plan_verifier.proofs.Words.{length, sym, walk}
use Rattle.plan_verifier.proofs.Stepping.{walk_stop, walk_go}
use Rattle.plan_verifier.proofs.walk.refusal.Goals as goal

pub returns-in-Err-clause-value : goal.returns-in-Err-clause-value
returns-in-Err-clause-value g c =
    let code = c.args.code.now in
    let within : c.loop-pc.pc < length code.lines = omega (arith, c.count-pc-end.ensures.value, c.loop-pc-test.true) in
    sym (walk_stop code _ _ _ within c.loop-pc.invariant.walked c.in-Err.ensures.refused)

pub loop-pc-preserved : goal.loop-pc-preserved
loop-pc-preserved g c =
    let code = c.args.code.now in
    let within : c.loop-pc.pc < length code.lines = omega (arith, c.count-pc-end.ensures.value, c.loop-pc-test.true) in
    let left = known_of g.S.Store.content c.visit.new.state in
    let came = known_if_reached c.loop-pc.comes (known_of g.S.Store.content c.loop-pc.state) in
    record {
      walked = walk_go code c.loop-pc.pc came left within c.loop-pc.invariant.walked c.in-Ok.ensures.passed
          ∙ ap (λ (b : Bool). walk code (drop (c.loop-pc.pc + 1) code.lines) (c.loop-pc.pc + 1)
          (known_if_reached b left)) (sym (c.continues-comes.ensures ∙ ap continues c.instr_at.ensures));
      formed = c.loop-pc.invariant.formed;
      tracked = c.in-Ok.ensures.tracked;
    }
