use Rattle.cli_plans.proofs.Words.{Appends, IfOk-weaker, IsPlayback, List, Playing, Step, asked_from, events_of}
use Rattle.cli_plans.proofs.Words.{played_bytes, sym, ℕ}
use Rattle.plan_session.specs.Playback.{Request}
use Rattle.plan_session.specs.declared.run_fault.RunFault.TheVariants.{Events}
use Rattle.cli_plans.proofs.Playbacks.{begin_is_run, file_written, not_played_for, refused_for, write_ended}
use Rattle.cli_plans.proofs.play.write_playback.Goals as goal

pub returns-in-Ok-close : goal.returns-in-Ok-close
returns-in-Ok-close g c =
    let contents = g.F.Out.Write.contents in
    let files = g.F.Files.world in
    let path : List ℕ = c.args.request.now.out.now in
    let p : Playing = c.play_into-ended.ensures.begun.0 in
    let found = c.in-Ok-new.ensures.found in
    let steps : List Step = found.0 in
    let bytes : List ℕ = played_bytes p (events_of steps) in
    let begins = (c.in-Ok.ensures.found c.args.events.now p).1 c.play_into-ended.ensures.begun.1 in
    let playback : IsPlayback (asked_from c.args.code.now c.args.events.now c.args.request.now.start) p steps =
    record { ready = begins.ready; begins = begins.begins; holds = found.1 } in
    record {
      played = IfOk-weaker c.play_into-ended.result.0 _ _
          (λ n h.
          let d = h p steps c.play_into-ended.ensures.begun.1 found.2 in
          let more : Appends (contents c.in-Ok-create.file) (contents c.into_inner.result) bytes =
          rw (c.into_inner.ensures, sym c.new-3.ensures.out) d.1 in (
            p,
            steps,
            playback,
            file_written path bytes (files c.args.files.now) (files c.create.new.self) (files c.close.new.self)
                (contents c.in-Ok-create.file) (contents c.into_inner.result) c.in-Ok-create.ensures.empty
                c.in-Ok-create.ensures.others more c.in-Ok-close.ensures.written,
          ))
          c.play_into-ended.ensures.played;
      fault = write_ended _ p steps c.play_into-ended.result.0 playback c.play_into-ended.ensures.only;
    }

pub returns-in-Err-clause-fault : goal.returns-in-Err-clause-fault
returns-in-Err-clause-fault g c =
    let r : Request = asked_from c.args.code.now c.args.events.now c.args.request.now.start in
    refused_for r c.in-Err.fault c.refuse.result c.refuse.ensures
    (begin_is_run r c.in-Err.fault (c.in-Err.ensures.fault c.args.events.now))

pub returns-in-Err-new-clause-fault : goal.returns-in-Err-new-clause-fault
returns-in-Err-new-clause-fault g c =
    let r : Request = asked_from c.args.code.now c.args.events.now c.args.request.now.start in
    refused_for r (Events c.in-Err-new.fault) c.refuse-in-Err-new.result c.refuse-in-Err-new.ensures
    (c.in-Ok.session.code, c.in-Ok.ensures.ready c.args.events.now, λ named. c.in-Err-new.ensures.only)
