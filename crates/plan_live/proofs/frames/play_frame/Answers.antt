use Rattle.plan_live.proofs.Words.{[], ◌∷◌, Frame, Streamed, Went, streams_at}
use Rattle.plan_live.proofs.Going.{went_none, went_join, ok_then}
use Rattle.plan_live.proofs.frames.play_frame.Goals as goal

pub returns-clause-went : goal.returns-clause-went
returns-clause-went g c =
    let at = streams_at g.E.Ends.left g.E.Ends.written in
    let p = c.args.player.now in
    let n = c.args.made.now in
    let skip = c.args.options.skip in
    let a : Streamed = at c.args.ends.now in
    let b : Streamed = at c.make_room.new.ends in
    let d : Streamed = at c.send_frame.new.ends in
    ok_then c.send_frame.result (Went skip p n (Frame ∷ []) c.send_frame.new.player c.send_frame.new.made b d)
    (Went skip p n (Frame ∷ []) c.send_frame.new.player c.send_frame.new.made a d)
    (λ h. went_join skip p p c.send_frame.new.player n n c.send_frame.new.made [] (Frame ∷ []) a b d
    (went_none skip p n a b c.make_room.ensures.left c.make_room.ensures.written) h) c.send_frame.ensures.went
