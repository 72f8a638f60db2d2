use Rattle.plan_player.proofs.machine.instruction.carry_out.Goals as goal

pub returns-in-WaitAny : goal.returns-in-WaitAny
returns-in-WaitAny g c = rw c.in-WaitAny.is (c.wait_any.ensures c.args.plan.now)

pub returns-in-Settle : goal.returns-in-Settle
returns-in-Settle g c = rw c.in-Settle.is (c.settle.ensures c.args.plan.now)

pub returns-in-Edit : goal.returns-in-Edit
returns-in-Edit g c = rw c.in-Edit.is (c.edit.ensures c.args.plan.now)

pub returns-in-Test : goal.returns-in-Test
returns-in-Test g c = rw c.in-Test.is (c.test.ensures c.args.plan.now)

pub returns-in-TestTime : goal.returns-in-TestTime
returns-in-TestTime g c = rw c.in-TestTime.is (c.test_time.ensures c.args.plan.now)

pub returns-in-Jump : goal.returns-in-Jump
returns-in-Jump g c = rw c.in-Jump.is (c.jump.ensures c.args.plan.now)

pub returns-in-Set : goal.returns-in-Set
returns-in-Set g c = rw c.in-Set.is (c.set.ensures c.args.plan.now)

pub returns-in-Loop : goal.returns-in-Loop
returns-in-Loop g c = rw c.in-Loop.is (c.repeat.ensures c.args.plan.now)

pub returns-in-End : goal.returns-in-End
returns-in-End g c = rw c.in-End.is (c.end.ensures c.args.plan.now)
