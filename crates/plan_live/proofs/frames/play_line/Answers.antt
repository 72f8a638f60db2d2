use Rattle.plan_live.proofs.Words.{Playing, Streamed, Went, events_of, streams_at}
use Rattle.plan_live.proofs.Going.{went_flushed, ok_always}
use Rattle.plan_live.proofs.frames.play_line.Goals as goal

pub returns-clause-went : goal.returns-clause-went
returns-clause-went g c =
    let at = streams_at g.E.Ends.left g.E.Ends.written in
    let p : Playing = c.args.player.now in
    let q : Playing = c.play_steps.new.player in
    let a : Streamed = at c.args.ends.now in
    let d : Streamed = at c.flush_line.new.ends in
    let skip = c.args.options.skip in
    let events = events_of c.args.steps.now in
    ok_always c.flush_line.result (Went skip p c.args.made.now events q c.play_steps.new.made a d)
    (went_flushed skip p q c.args.made.now c.play_steps.new.made events a (at c.play_steps.new.ends) d
    c.in_ok-play_steps.ensures.went c.flush_line.ensures.left c.flush_line.ensures.written)
