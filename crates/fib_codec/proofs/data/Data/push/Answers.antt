use Rattle.fib_codec.proofs.Words.{◌≡◌, ap, arith, length, length-take-le, take}
use Rattle.fib_codec.proofs.Begun.{begun_more}
use Rattle.fib_codec.proofs.data.Data.push.Goals as goal

pub invariant_of-self : goal.invariant_of-self
invariant_of-self c =
    let inside = c.self.inside in
    let long = length-take-le inside.len inside.bytes (omega (arith, c.self.invariant.within, c.self.told)) in
    let same : length (take inside.len inside.bytes) ≡ length c.args.self.now = ap length c.self.view_is in
    begun_more inside.len inside.bytes c.args.byte c.self.invariant (omega (arith, long, same, c.requires))
