use Rattle.plan_live.proofs.Words.{Streamed, arith, streams_at}
use Rattle.plan_live.proofs.Going.{went_one}
use Rattle.plan_live.proofs.frames.play_some.Goals as goal

pub returns-then-passed-gt0-clause-went : goal.returns-then-passed-gt0-clause-went
returns-then-passed-gt0-clause-went g c =
    c.pass_skipped-passed.ensures.went (streams_at g.E.Ends.left g.E.Ends.written c.args.ends.now)

pub returns-in-Ok-clause-went : goal.returns-in-Ok-clause-went
returns-in-Ok-clause-went g c =
    let at = streams_at g.E.Ends.left g.E.Ends.written in
    let a : Streamed = at c.args.ends.now in
    let d : Streamed = at c.play_frame.new.ends in
    let passed = c.pass_skipped-passed in
    went_one c.args.options.skip c.args.player.now passed.new.player c.play_frame.new.player c.args.made.now
    passed.new.made c.play_frame.new.made passed.result a d (omega (arith, c.if-passed-gt0.false))
    passed.ensures.went c.in-Ok.ensures.went
