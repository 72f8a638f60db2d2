use Rattle.plan_player.proofs.Words.{[], state_of, typed_code_runs}
use Rattle.plan_player.proofs.player.Player.current.Goals as goal

pub returns-clause-sound : goal.returns-clause-sound
returns-clause-sound g c =
    let i = c.self.inside in
    let sound = (typed_code_runs i.code.now (state_of g.S.Store.content i.machine) [] c.self.invariant.played).sound in
    rw (← c.self.view_is) sound
