use Rattle.plan_player.proofs.Words.{line_at}
use Rattle.plan_player.proofs.Places.{has_line}
use Rattle.plan_player.proofs.player.Player.line.Goals as goal

pub unwrap-requires : goal.unwrap-requires
unwrap-requires g c =
    let i = c.self.inside in
    has_line _ _ _ _ c.self.invariant.played c.code.ensures.value c.line_at.ensures.value
