-- The numbers of statuses, computed by the checker from the definition: examples that hold and that fail.
use Rattle.std.proofs.Common.{◌≡◌, arith, refl}
use Rattle.console.specs.Ending.{exit_number}
use Rattle.console.specs.declared.exit.Status.TheVariants.{Done, Refused, Misused, Faulty}

done_is_zero : exit_number Done ≡ 0
done_is_zero = refl

refused_is_not_zero : exit_number Refused ≡ 0 → ⊥
refused_is_not_zero h = omega (arith, h)

misused_is_no_refusal : exit_number Misused ≡ exit_number Refused → ⊥
misused_is_no_refusal h = omega (arith, h)

faulty_is_three : exit_number Faulty ≡ 3
faulty_is_three = refl
