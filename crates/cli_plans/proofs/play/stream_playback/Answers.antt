use Rattle.cli_plans.proofs.Words.{Appends, IfOk-weaker, IsPlayback, List, Playing, Step, asked_from, events_of}
use Rattle.cli_plans.proofs.Words.{played_bytes, sym}
use Rattle.cli_plans.proofs.Playbacks.{begin_is_run, write_ended}
use Rattle.cli_plans.proofs.play.stream_playback.Goals as goal

pub returns : goal.returns
returns g c =
    let contents = g.W.Write.contents in
    let p : Playing = c.play_into-ended.ensures.begun.0 in
    let found = c.in-Ok-new.ensures.found in
    let steps : List Step = found.0 in
    let begins = (c.in-Ok.ensures.found c.args.events.now p).1 c.play_into-ended.ensures.begun.1 in
    let playback : IsPlayback (asked_from c.args.code.now c.args.events.now c.args.start) p steps =
    record { ready = begins.ready; begins = begins.begins; holds = found.1 } in
    record {
      played = IfOk-weaker c.play_into-ended.result.0 _ _
          (λ n h.
          let d = h p steps c.play_into-ended.ensures.begun.1 found.2 in
          let more : Appends (contents c.args.out) (contents c.into_inner.result) (played_bytes p (events_of steps)) =
          rw (c.into_inner.ensures, sym c.new-3.ensures.out) d.1 in
          (p, steps, playback, more))
          c.play_into-ended.ensures.played;
      fault = write_ended _ p steps c.play_into-ended.result.0 playback c.play_into-ended.ensures.only;
    }

pub returns-in-Err-clause-fault : goal.returns-in-Err-clause-fault
returns-in-Err-clause-fault g c =
    begin_is_run (asked_from c.args.code.now c.args.events.now c.args.start) c.in-Err.fault
    (c.in-Err.ensures.fault c.args.events.now)

pub returns-in-Err-new-clause-fault : goal.returns-in-Err-new-clause-fault
returns-in-Err-new-clause-fault g c =
    (c.in-Ok.session.code, c.in-Ok.ensures.ready c.args.events.now, λ named. c.in-Err-new.ensures.only)
