use Rattle.plan_player.proofs.Words.{[], ◌++◌, ◌+◌, ◌∷◌, ◌≡◌, Event, List, take, take_more, ℕ}
use Rattle.plan_player.proofs.Delivering.{one_more, stopped_here}
use Rattle.plan_player.proofs.delivery.play.Goals as goal

pub returns-in-Err-clause-stopped : goal.returns-in-Err-clause-stopped
returns-in-Err-clause-stopped g c =
    let events : List Event = c.args.events.now in
    let i : ℕ = c.loop-event.event-index in
    let e : Event = c.event-item.result in
    let more : take (i + 1) events ≡ take i events ++ e ∷ [] =
    rw (c.event-item.is) (take_more events i e c.loop-event-test.true) in
    let taken = g.K.Sink.taken in
    let h = c.in-Err.ensures in
    stopped_here _ _ _ _ _ _ _ _ _ _ _ c.loop-event.invariant.done more h.frame h.state h.bound h.part

pub loop-event-preserved : goal.loop-event-preserved
loop-event-preserved g c =
    let events : List Event = c.args.events.now in
    let i : ℕ = c.loop-event.event-index in
    let e : Event = c.event-item.result in
    let more : take (i + 1) events ≡ take i events ++ e ∷ [] =
    rw (c.event-item.is) (take_more events i e c.loop-event-test.true) in
    let taken = g.K.Sink.taken in
    let h = c.in-Ok.ensures in
    record {
      done = one_more c.args.player.now c.loop-event.player c.play_event.new.player events i e (taken c.args.sink.now)
          (taken c.loop-event.sink) (taken c.play_event.new.sink) c.loop-event.frames c.in-Ok.made
          c.loop-event.invariant.done more h.state h.bytes h.frames h.one;
      works = h.works;
    }

pub returns-in-Err-clause-headline : goal.returns-in-Err-clause-headline
returns-in-Err-clause-headline g c = c.promise.ensures c.args.events.now

pub returns-clause-headline : goal.returns-clause-headline
returns-clause-headline g c = c.promise.ensures c.args.events.now
