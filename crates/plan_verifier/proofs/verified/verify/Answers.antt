use Rattle.plan_verifier.proofs.Words.{◌∙◌, false≢true, none-some, refl, sym}
use Rattle.plan_verifier.proofs.OneVerdict.{typed_if, typed_passes, refused_if}
use Rattle.plan_verifier.proofs.verified.verify.Goals as goal

pub invariant_of-result : goal.invariant_of-result
invariant_of-result g c = (
  c.refusal.ensures.formed,
  typed_if c.args.code c.refusal.ensures.formed
      (sym c.refusal.ensures.value ∙ c.in-None.is),
)

pub returns-in-Some-clause-typed : goal.returns-in-Some-clause-typed
returns-in-Some-clause-typed g c =
    let found = sym c.refusal.ensures.value ∙ c.in-Some.is in (
      λ ok. absurd (false≢true ok),
      λ typed. absurd (none-some _ (sym (typed_passes c.args.code c.refusal.ensures.formed typed) ∙ found)),
    )

pub returns-in-Some-clause-refused : goal.returns-in-Some-clause-refused
returns-in-Some-clause-refused g c =
    refused_if _ _ _ c.refusal.ensures.formed (sym c.refusal.ensures.value ∙ c.in-Some.is)

pub returns-in-None-clause-typed : goal.returns-in-None-clause-typed
returns-in-None-clause-typed g c =
    (λ ok. typed_if c.args.code c.refusal.ensures.formed (sym c.refusal.ensures.value ∙ c.in-None.is), λ typed. refl)
