use Rattle.std.proofs.Common.{refl}
use Rattle.mux_types.proofs.Powers.{word_below}
use Rattle.mux_types.proofs.numbers.Bits.new.Goals as goal

pub invariant_of-result : goal.invariant_of-result
invariant_of-result g c = word_below c.args.value g.row.WIDTH c.ranges.value.fits c.if-this-ge16.true

pub returns-then-this-ge16-clause-in_range : goal.returns-then-this-ge16-clause-in_range
returns-then-this-ge16-clause-in_range g c =
    (λ _. word_below c.args.value g.row.WIDTH c.ranges.value.fits c.if-this-ge16.true, λ _. refl)
