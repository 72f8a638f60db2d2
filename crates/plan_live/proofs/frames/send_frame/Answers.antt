use Rattle.plan_live.proofs.Words.{◌∙◌, ◌≡◌, Playing, Streamed, next_frame, streams_at}
use Rattle.plan_live.proofs.Going.{frame_went}
use Rattle.plan_live.proofs.frames.send_frame.Goals as goal

pub returns-clause-went : goal.returns-clause-went
returns-clause-went g c =
    let at = streams_at g.E.Ends.left g.E.Ends.written in
    let p : Playing = c.args.player.now in
    let a : Streamed = at c.args.ends.now in
    let b : Streamed = at c.write_frame.new.ends in
    let d : Streamed = at c.report_notes.new.ends in
    let bytes : c.bytes.result.now ≡ next_frame p = c.bytes.ensures.value ∙ c.make_frame-frame.ensures.bytes in
    frame_went c.args.options.skip p c.make_frame-frame.new.player c.args.made.now c.write_frame.new.made a b d
    c.bytes.result.now bytes c.make_frame-frame.ensures.state c.in_ok-write_frame.ensures.went
    c.report_notes.ensures.left c.report_notes.ensures.written
