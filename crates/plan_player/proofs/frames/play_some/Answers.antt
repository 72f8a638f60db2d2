use Rattle.plan_player.proofs.Words.{arith}
use Rattle.plan_player.proofs.Joining.{stopped_among, one_delivered, one_stopped}
use Rattle.plan_player.proofs.frames.play_some.Goals as goal

pub returns-in-Ok-clause-done : goal.returns-in-Ok-clause-done
returns-in-Ok-clause-done g c =
    let taken = g.K.Sink.taken in
    one_delivered _ _ _ _ c.in-Ok.ensures.state c.in-Ok.ensures.bytes

pub returns-in-Err-clause-stopped : goal.returns-in-Err-clause-stopped
returns-in-Err-clause-stopped g c =
    let h = c.in-Err.ensures in
    let x = g.K.Sink.taken c.args.sink.now in
    let y = g.K.Sink.taken c.put_frame.new.sink in
    stopped_among _ _ _ _ _ _ _ _ c.requires.one (one_stopped _ _ _ _ _ h.state h.bound h.part)

pub returns-in-Err-play_quiet-clause-stopped : goal.returns-in-Err-play_quiet-clause-stopped
returns-in-Err-play_quiet-clause-stopped g c =
    stopped_among _ _ c.quiet_frames-quiet.result c.args.most _ _ _ _
    (omega (arith, c.quiet_frames-quiet.ensures.bound)) c.in-Err-play_quiet.ensures.stopped
