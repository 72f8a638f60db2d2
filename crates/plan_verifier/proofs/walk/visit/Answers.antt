use Rattle.plan_verifier.proofs.Words.{instr_at, instr_or_end, known_if_reached, known_of}
use Rattle.plan_verifier.proofs.Stepping.{visit_refused, visit_passed, visit_stopped}
use Rattle.plan_verifier.proofs.walk.visit.Goals as goal

pub returns-in-Ok-clause-refused : goal.returns-in-Ok-clause-refused
returns-in-Ok-clause-refused g c =
    visit_refused c.args.code.now c.args.pc (instr_or_end (instr_at c.args.code.now c.args.pc))
    (known_if_reached c.args.comes (known_of g.S.Store.content c.args.state.now)) _ c.judge.result
    c.in-Ok.ensures.known c.judge.ensures.cause

pub returns-in-Ok-clause-passed : goal.returns-in-Ok-clause-passed
returns-in-Ok-clause-passed g c =
    visit_passed _ _ _ _ _ _ _ c.in-Ok.ensures.known c.judge.ensures.cause c.judge.ensures.left

pub returns-in-Err-clause-refused : goal.returns-in-Err-clause-refused
returns-in-Err-clause-refused g c =
    visit_stopped c.args.code.now c.args.pc (instr_or_end (instr_at c.args.code.now c.args.pc))
    (known_if_reached c.args.comes (known_of g.S.Store.content c.args.state.now)) _ c.in-Err.ensures.refused
