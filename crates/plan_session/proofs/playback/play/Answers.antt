use Rattle.plan_session.proofs.Requests.{same_player, whole, cut_off}
use Rattle.plan_session.proofs.playback.play.Goals as goal

pub returns-in-Err-new-clause-played : goal.returns-in-Err-new-clause-played
returns-in-Err-new-clause-played g c = λ p steps h. absurd (c.in-Err-new.ensures.only steps h.holds)

pub returns-in-Ok-play_list-clause-played : goal.returns-in-Ok-play_list-clause-played
returns-in-Ok-play_list-clause-played g c = λ p steps h.
    let players = same_player _ _ _ _ _ _ h c.in-Ok.ensures.begins in
    let found = c.in-Ok-new.ensures.found in
    let lists = c.one_list.ensures c.args.events.now found.0 steps found.1 h.holds in
    whole p c.in-Ok.player c.play_list.new.player steps found.0 _ _ _ players lists
    (c.in-Ok-play_list.ensures.done found.0 found.2)

pub returns-in-Err-play_list-clause-played : goal.returns-in-Err-play_list-clause-played
returns-in-Err-play_list-clause-played g c = λ p steps h.
    let players = same_player _ _ _ _ _ _ h c.in-Ok.ensures.begins in
    let found = c.in-Ok-new.ensures.found in
    let lists = c.one_list.ensures c.args.events.now found.0 steps found.1 h.holds in (
      c.play_list.new.player,
      cut_off p c.in-Ok.player c.play_list.new.player steps found.0
          (g.K.Sink.taken c.args.out.now) (g.K.Sink.taken c.play_list.new.sink) c.in-Err-play_list.cut.frames
          c.in-Err-play_list.cut.bytes players lists (c.in-Err-play_list.ensures.stopped found.0 found.2),
    )
