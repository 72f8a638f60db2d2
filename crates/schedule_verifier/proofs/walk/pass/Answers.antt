use Rattle.schedule_verifier.proofs.Words.{◌≡◌, Edits, Jump, Some, Test, TestTime, instr_at}
use Rattle.schedule_verifier.proofs.Walking.{edit_passes, jump_passes, test_passes, time_passes}
use Rattle.schedule_verifier.proofs.walk.pass.Goals as goal

pub returns-in-Test : goal.returns-in-Test
returns-in-Test c code at =
    let there : instr_at code c.args.pc ≡ Some (Test c.in-Test.contact c.in-Test.target) = cc (at, c.in-Test.is) in
    rw c.branch-level.ensures (test_passes code c.args.region.now c.args.pc _ _ _ c.level.result there c.level.ensures)

pub returns-in-TestTime : goal.returns-in-TestTime
returns-in-TestTime c code at =
    let there : instr_at code c.args.pc ≡ Some (TestTime c.in-TestTime.from c.in-TestTime.to c.in-TestTime.target) =
    cc (at, c.in-TestTime.is) in
    rw c.branch-window.ensures
    (time_passes code c.args.region.now c.args.pc _ _ _ _ c.window.result there c.window.ensures)

pub returns-in-Jump : goal.returns-in-Jump
returns-in-Jump c code at =
    let there : instr_at code c.args.pc ≡ Some (Jump c.in-Jump.target) = cc (at, c.in-Jump.is) in
    jump_passes code c.args.region.now c.args.pc c.in-Jump.target _ there

pub returns-then-apply : goal.returns-then-apply
returns-then-apply c code at =
    let there : instr_at code c.args.pc ≡ Some (Edits c.in-Edit.edit) = cc (at, c.in-Edit.is) in
    edit_passes code c.args.region.now c.args.pc c.in-Edit.edit _ _ there (c.apply.ensures c.if-apply.true)
