use Rattle.plan_timeline.proofs.Words.{Some, arith, found}
use Rattle.plan_timeline.proofs.Playing.{finds_behind, found_onward, over_behind, plays_none, plays_then}
use Rattle.plan_timeline.proofs.swaps.next_swap.Goals as goal

pub returns-in-Some-clause-finds : goal.returns-in-Some-clause-finds
returns-in-Some-clause-finds g c =
    let player = c.args.player.now in
    let steps = c.args.steps.now in
    plays_then player player c.next_in_step.new.player c.args.at.now c.args.at.now c.next_in_step.new.at steps steps
    (found (Some c.in-Some.swap)) (plays_none player c.args.at.now steps) c.in-Some.ensures.went

pub returns-in-None-clause-finds : goal.returns-in-None-clause-finds
returns-in-None-clause-finds g c =
    finds_behind c.args.player.now c.next_in_step.new.player c.next_in_steps.new.player c.args.at.now
    c.next_in_step.new.at c.next_in_steps.new.at c.args.steps.now c.next_in_steps.new.steps c.next_in_steps.result
    c.in-None.ensures.went c.next_in_steps.ensures.finds

pub returns-in-None-clause-fault : goal.returns-in-None-clause-fault
returns-in-None-clause-fault g c =
    over_behind c.args.player.now c.next_in_step.new.player c.args.at.now c.next_in_step.new.at c.args.steps.now
    c.next_in_steps.result c.in-None.ensures.went c.next_in_steps.ensures.fault

pub returns-in-None-clause-onward : goal.returns-in-None-clause-onward
returns-in-None-clause-onward g c =
    found_onward c.args.at.now.frame c.next_in_step.new.at.frame c.next_in_steps.new.at.frame c.next_in_steps.result
    (omega (arith, c.in-None.ensures.went.frame)) c.next_in_steps.ensures.onward
