-- Short texts with changes, and what changes are worth.
use Rattle.std.proofs.Common.{◌≡◌, false, ◌∷◌, [], refl, arith}
use Rattle.plan_verifier.specs.declared.cause.Cause.TheVariants.{Pending, NoChange}
use Rattle.script_compiler.specs.declared.fault.CompileFault.TheVariants.{Refused}
use Rattle.plan_explain.specs.declared.trial.Outcome.TheVariants.{Accepted, NoPlan}
use Rattle.plan_explain.specs.declared.trial.Refusal.TheVariants.{Plan}
use Rattle.plan_explain.specs.declared.trial.Verdict.TheVariants.{Accepted as IsTaken}
use Rattle.plan_explain.specs.TextChanges.{IsSpliced, IsPassed, IsJudged}

-- two bytes, of which another one takes the place of the second
put_there : IsSpliced 1 2 (2 ∷ []) (0 ∷ 1 ∷ []) (0 ∷ 2 ∷ [])
put_there = record { ordered = omega arith; within = omega arith; is = refl }

-- they are not what they were
not_put : IsSpliced 1 2 (2 ∷ []) (0 ∷ 1 ∷ []) (0 ∷ 1 ∷ []) → ⊥
not_put h = let is : (0 ∷ 1 ∷ []) ≡ (0 ∷ 2 ∷ []) = h.is in absurd cc

-- a refusal for another cause is not the same one
is_passed : IsPassed (Plan 9 Pending false) (NoPlan (Refused 9 NoChange))
is_passed e = absurd cc

is_not_passed : IsPassed (Plan 9 Pending false) (NoPlan (Refused 9 Pending)) → ⊥
is_not_passed h = h refl

is_taken : IsJudged IsTaken (Plan 9 Pending false) Accepted
is_taken = refl

is_not_taken : IsJudged IsTaken (Plan 9 Pending false) (NoPlan (Refused 9 NoChange)) → ⊥
is_not_taken e = absurd cc
