use Rattle.plan_live.proofs.Words.{[], IsPrompt, Playing, Whole, refl, streams_at, subst}
use Rattle.plan_session.proofs.Requests.{same_start}
use Rattle.plan_live.proofs.Growing.{grows_none}
use Rattle.plan_live.proofs.playback.live.Goals as goal

pub returns-in-Ok-drive-clause-played : goal.returns-in-Ok-drive-clause-played
returns-in-Ok-drive-clause-played g c = λ p h.
    let at = streams_at g.E.Ends.left g.E.Ends.written in
    let session = c.in-Ok.session in
    let same = same_start session.code session.start c.player-player.result p c.player-player.ensures
    ((c.in-Ok.ensures.found [] p).0 h) in
    subst (λ (x : Playing). Whole c.args.options.skip x (at c.args.ends.now) (at c.drive.new.ends)) same
    c.in-Ok-drive.ensures.whole

pub returns-in-Ok-drive-clause-only : goal.returns-in-Ok-drive-clause-only
returns-in-Ok-drive-clause-only g c =
    (c.player-player.result, (c.in-Ok.ensures.found [] c.player-player.result).1 c.player-player.ensures)

pub returns-in-Ok-drive-clause-prompt : goal.returns-in-Ok-drive-clause-prompt
returns-in-Ok-drive-clause-prompt g c = λ p h.
    let at = streams_at g.E.Ends.left g.E.Ends.written in
    let moments = g.E.Ends.moments in
    let session = c.in-Ok.session in
    let same = same_start session.code session.start c.player-player.result p c.player-player.ensures
    ((c.in-Ok.ensures.found [] p).0 h) in
    subst (λ (x : Playing). IsPrompt c.args.options.skip x (at c.args.ends.now) (moments c.args.ends.now)
    (moments c.drive.new.ends)) same c.drive.ensures.prompt

pub returns-clause-prompt : goal.returns-clause-prompt
returns-clause-prompt g c = λ p h.
    let at = streams_at g.E.Ends.left g.E.Ends.written in
    let moments = g.E.Ends.moments in
    let session = c.in-Ok.session in
    let same = same_start session.code session.start c.player-player.result p c.player-player.ensures
    ((c.in-Ok.ensures.found [] p).0 h) in
    subst (λ (x : Playing). IsPrompt c.args.options.skip x (at c.args.ends.now) (moments c.args.ends.now)
    (moments c.drive.new.ends)) same c.drive.ensures.prompt

-- the run began
pub returns-clause-first_fault : goal.returns-clause-first_fault
returns-clause-first_fault g c =
    (c.player-player.result, (c.in-Ok.ensures.found [] c.player-player.result).1 c.player-player.ensures)

-- nothing was read
pub returns-in-Err-clause-played : goal.returns-in-Err-clause-played
returns-in-Err-clause-played g c = λ p h. c.in-Err.ensures.memory [] p.code h.ready

pub returns-in-Err-clause-first_fault : goal.returns-in-Err-clause-first_fault
returns-in-Err-clause-first_fault g c = (c.in-Err.ensures.fault [], refl)

pub returns-in-Err-clause-prompt : goal.returns-in-Err-clause-prompt
returns-in-Err-clause-prompt g c =
    λ p h. record { moments = []; grows = grows_none (g.E.Ends.moments c.args.ends.now); done = tt }
