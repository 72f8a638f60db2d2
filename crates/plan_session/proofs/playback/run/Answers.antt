use Rattle.plan_session.proofs.Words.{IfErr-weaker, IfOk-weaker, Request, asked}
use Rattle.plan_session.proofs.Requests.{started, asked_for, fault_of_run}
use Rattle.plan_session.proofs.playback.run.Goals as goal

pub returns-clause-played : goal.returns-clause-played
returns-clause-played g c =
    let r : Request = asked c.args.code.now c.args.events.now c.args.count c.args.day c.args.contacts in
    λ p steps h. c.play.ensures.played p steps
    (started r p steps c.in_ok-verified.verified c.start_with-begin.result h
    (c.in_ok-verified.ensures.only p.code h.ready.file) c.start_with-begin.ensures)

pub returns-clause-only : goal.returns-clause-only
returns-clause-only g c =
    let r : Request = asked c.args.code.now c.args.events.now c.args.count c.args.day c.args.contacts in
    IfOk-weaker c.play.result _ _
    (λ n h. (
      h.0,
      h.1,
      asked_for r h.0 h.1 c.in_ok-verified.verified c.start_with-begin.result
          c.in_ok-verified.ensures.found c.start_with-begin.ensures h.2,
    )) c.play.ensures.only

pub returns-clause-first_fault : goal.returns-clause-first_fault
returns-clause-first_fault g c =
    let r : Request = asked c.args.code.now c.args.events.now c.args.count c.args.day c.args.contacts in
    IfErr-weaker c.play.result _ _
    (λ e h. fault_of_run r c.in_ok-verified.verified c.start_with-begin.result e c.in_ok-verified.ensures.found
    c.start_with-begin.ensures h) c.play.ensures.first_fault
