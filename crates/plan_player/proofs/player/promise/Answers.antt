use Rattle.plan_player.proofs.player.promise.Goals as goal

pub returns : goal.returns
returns g c = λ events. c.headline.ensures c.args.player.now.code c.args.player.now.state events
    c.current-current.ensures.played
