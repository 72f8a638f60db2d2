use Rattle.plan_player.proofs.Words.{State, state_of}
use Rattle.plan_player.proofs.CountedOn.{passed}
use Rattle.plan_player.proofs.machine.counts.pass_many.Goals as goal

pub returns : goal.returns
returns g c = λ plan rounds.
    let s : State = state_of g.S.Store.content c.args.machine.now in
    rw (
      c.left_later-machine.ensures,
      c.hold_later-machine.ensures,
      c.page_later-machine.ensures,
      c.from.ensures,
      c.from-2.ensures,
      c.from-3.ensures,
      c.from-4.ensures,
      c.from-5.ensures,
      c.from-6.ensures,
    )
    (passed plan c.args.frames c.args.pages s c.requires.some c.requires.within rounds)
