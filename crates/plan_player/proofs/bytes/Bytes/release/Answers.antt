use Rattle.plan_player.proofs.Words.{arith, sym}
use Rattle.plan_player.proofs.Cycles.{moved}
use Rattle.plan_player.proofs.bytes.Bytes.release.Goals as goal

pub returns : goal.returns
returns g c =
    rw (sym c.self.view_is)
    (moved c.self.inside.bytes c.copy_within.new.self c.self.inside.len c.args.count (rw c.self.view_is c.requires)
    (omega (arith, c.self.invariant)) c.copy_within.ensures.after)
