use Rattle.plan_timeline.proofs.Words.{arith}
use Rattle.plan_timeline.proofs.Playing.{all_played, begun_over, next_found, onward_from, plays_none}
use Rattle.plan_timeline.proofs.Playing.{step_played}
use Rattle.plan_timeline.proofs.swaps.next_in_steps.Goals as goal

pub loop-swap-init : goal.loop-swap-init
loop-swap-init g c = record {
  room = c.requires.room;
  forward = omega arith;
  onward = tt;
  end = c.requires.none;
  plays = plays_none c.args.player.now c.args.at.now c.args.steps.now;
}

pub returns-in-None-clause-finds : goal.returns-in-None-clause-finds
returns-in-None-clause-finds g c =
    let l = c.loop-swap in
    all_played c.args.player.now l.player c.args.at.now l.at c.args.steps.now l.steps c.next.new.self l.swap
    c.loop-swap-test.ensures l.invariant.plays l.invariant.end c.in-None.ensures

pub loop-swap-preserved : goal.loop-swap-preserved
loop-swap-preserved g c =
    let l = c.loop-swap in
    let went = c.next_in_step-swap.ensures.went in
    record {
      room = omega (arith, c.begin_step.ensures.room, went.left, went.frame);
      forward = omega (arith, l.invariant.forward, c.begin_step.ensures.frame, went.frame);
      onward = onward_from c.args.at.now.frame c.begin_step.new.at.frame c.next_in_step-swap.new.at.frame
          c.next_in_step-swap.result (omega (arith, l.invariant.forward, c.begin_step.ensures.frame))
          c.next_in_step-swap.ensures.onward;
      end = c.next_in_step-swap.ensures.end;
      plays = step_played c.args.player.now l.player c.begin_step.new.player c.next_in_step-swap.new.player
          c.args.at.now l.at c.begin_step.new.at c.next_in_step-swap.new.at c.args.steps.now l.steps
          c.next.new.self l.swap c.next_in_step-swap.result c.in-Some.step c.loop-swap-test.ensures
          l.invariant.plays l.invariant.end c.in-Some.ensures c.in-Ok.ensures.state c.in-Ok.ensures.frame
          c.in-Ok.ensures.left went;
    }

pub returns-clause-finds : goal.returns-clause-finds
returns-clause-finds g c =
    let l = c.loop-swap in
    next_found c.args.player.now l.player c.args.at.now l.at c.args.steps.now l.steps l.swap c.loop-swap-test.ensures
    l.invariant.plays

pub returns-in-Err-clause-fault : goal.returns-in-Err-clause-fault
returns-in-Err-clause-fault g c =
    let l = c.loop-swap in
    begun_over c.args.player.now l.player c.args.at.now l.at c.args.steps.now l.steps c.next.new.self l.swap
    c.in-Some.step c.loop-swap-test.ensures l.invariant.plays c.in-Some.ensures c.in-Err.ensures.fault
