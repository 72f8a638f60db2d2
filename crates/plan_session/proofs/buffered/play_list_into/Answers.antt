use Rattle.plan_session.proofs.Words.{events_of, played_bytes}
use Rattle.plan_session.specs.Buffering.{taken_by}
use Rattle.plan_session.proofs.Buffers.{handed_on}
use Rattle.plan_session.proofs.buffered.play_list_into.Goals as goal

pub returns-then-deliver-clause-played : goal.returns-then-deliver-clause-played
returns-then-deliver-clause-played g c = λ all lists.
    let taken = taken_by g.K.Sink.taken in
    let last = c.deliver.new.self in
    let d = c.in-Ok.ensures.done all lists in (
      d.whole,
      rw c.into_inner.ensures (handed_on (g.K.Sink.taken c.args.out) (taken c.new-buffer.result)
          (taken c.play_list.new.sink) (g.K.Sink.taken last.out) last.held
          (played_bytes c.args.player.now (events_of all)) c.new-buffer.ensures.taken d.out c.deliver.ensures.bytes
          (c.deliver.ensures.all c.if-deliver.true)),
    )
