use Rattle.fib_codec.proofs.Words.{ap, arith, length, length-take-le}
use Rattle.fib_codec.proofs.Begun.{begun_two}
use Rattle.fib_codec.proofs.data.Data.push_two.Goals as goal

pub invariant_of-self : goal.invariant_of-self
invariant_of-self c =
    let inside = c.self.inside in
    let long = length-take-le inside.len inside.bytes (omega (arith, c.self.invariant.within, c.self.told)) in
    begun_two inside.len inside.bytes c.args.first c.args.second c.self.invariant
    (omega (arith, long, ap length c.self.view_is, c.requires))
