use Rattle.plan_live.proofs.Words.{◌+◌, arith}
use Rattle.plan_live.proofs.Going.{went_skipped}
use Rattle.plan_live.proofs.frames.pass_skipped.Goals as goal

pub returns-clause-went : goal.returns-clause-went
returns-clause-went g c = λ at.
    let passed = c.pass_frames-passed in
    went_skipped c.args.options.skip c.args.player.now passed.new.player c.args.made.now
    (c.args.made.now + c.from-2.result) passed.result at passed.ensures.state (omega (arith, c.from-2.ensures))
    (omega (arith, passed.ensures.bound, c.min-most.ensures, c.min.ensures, c.saturating_sub-skipped.ensures))
