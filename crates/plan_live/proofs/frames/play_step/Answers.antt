use Rattle.plan_live.proofs.Words.{Streamed, streams_at}
use Rattle.plan_live.proofs.Going.{went_contact}
use Rattle.plan_live.proofs.frames.play_step.Goals as goal

pub returns-in-Contact-clause-went : goal.returns-in-Contact-clause-went
returns-in-Contact-clause-went g c =
    let a : Streamed = streams_at g.E.Ends.left g.E.Ends.written c.args.ends.now in
    rw (c.in-Contact.is) (went_contact c.args.options.skip c.args.player.now c.contact.new.self c.args.made.now
    c.in-Contact.contact c.in-Contact.closed a c.contact.ensures.state)

pub returns-in-Frames-clause-went : goal.returns-in-Frames-clause-went
returns-in-Frames-clause-went g c = rw (c.in-Frames.is) c.play_frames.ensures.went
