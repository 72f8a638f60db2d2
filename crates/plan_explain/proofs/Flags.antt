-- A flag and its negation, and the cause that a test finds.
use Rattle.std.proofs.Common.{◌≡◌, Bool, true, false, not, Option, Some, None, Err, refl}
use Rattle.std.proofs.lemmas.Bool.{false≢true}
use Rattle.plan_verifier.specs.declared.cause.Cause.{Cause}
use Rattle.plan_verifier.specs.Tests.{unless}

pub not_both : (b : Bool) → b ≡ true → not b ≡ true → ⊥
not_both true p q = false≢true q
not_both false p q = false≢true p

pub if_not : (b : Bool) → (b ≡ true → ⊥) → not b ≡ true
if_not true h = absurd (h refl)
if_not false h = refl

pub found : (o : Option Cause) (cause : Cause) → Err cause ≡ unless o → Some cause ≡ o
found None cause e = absurd cc
found (Some other) cause e = cc
