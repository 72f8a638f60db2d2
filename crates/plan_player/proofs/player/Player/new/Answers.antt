use Rattle.plan_player.proofs.Words.{refl, state_of}
use Rattle.plan_player.proofs.FrameFacts.{start_goes}
use Rattle.plan_player.proofs.player.Player.new.Goals as goal

pub invariant_of-result : goal.invariant_of-result
invariant_of-result g c =
    let s = state_of g.S.Store.content c.start.result in
    start_goes c.args.code.now c.args.start s c.new.result c.code-typed.ensures.formed c.code-typed.ensures.typed
    (c.in_default.ensures.none refl) c.start.ensures c.new.ensures
