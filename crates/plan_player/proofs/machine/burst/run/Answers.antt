-- Answers of `run` in src/burst.rt
use Rattle.plan_player.proofs.Words.{◌∙◌, State, false, is_running, state_of, sym, true}
use Rattle.plan_player.proofs.Remaining.{goes, stops}
use Rattle.plan_player.proofs.machine.burst.run.Goals as goal

-- src/burst.rt:49:9
pub step-requires-clause-allowed : goal.step-requires-clause-allowed
step-requires-clause-allowed g c =
    let now : State = state_of g.S.Store.content c.instructions.machine in
    (goes c.args.code.now (state_of g.S.Store.content c.args.machine.now) c.instructions.steps now
    c.instructions.invariant (sym c.is_running.ensures ∙ c.instructions-test.true)).allowed

-- src/burst.rt:48:5
pub instructions-preserved : goal.instructions-preserved
instructions-preserved g c =
    let now : State = state_of g.S.Store.content c.instructions.machine in
    let next = (goes c.args.code.now (state_of g.S.Store.content c.args.machine.now) c.instructions.steps now
    c.instructions.invariant (sym c.is_running.ensures ∙ c.instructions-test.true)).next in
    rw (c.step.ensures) next

-- src/burst.rt:39:1
pub returns-clause-state : goal.returns-clause-state
returns-clause-state g c =
    let now : State = state_of g.S.Store.content c.instructions.machine in
    (stops c.args.code.now (state_of g.S.Store.content c.args.machine.now) c.instructions.steps now
    c.instructions.invariant (sym c.is_running.ensures ∙ c.instructions-test.false)).state
