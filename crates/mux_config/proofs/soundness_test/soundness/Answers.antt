use Rattle.mux_config.proofs.Words.{◌∙◌, ◌≡◌, None, Some, false≢true, refl, sym}
use Rattle.mux_config.proofs.Sounding.{sound_told, sound_found}
use Rattle.mux_config.proofs.soundness_test.soundness.Goals as goal

some_none : {T : Type 0} (x : T) → Some x ≡ None → ⊥
some_none x e = absurd (cc)

pub returns-in-Some-clause-sound : goal.returns-in-Some-clause-sound
returns-in-Some-clause-sound g c =
    let k = g.S.Store.content c.args.store.now in
    let is = sym c.in-Some.is ∙ c.first_fault.ensures.value in (
      λ e. absurd (false≢true e),
      λ sound. absurd (some_none c.in-Some.fault (is ∙ sound_found k c.first_fault.ensures.configuration sound)),
    )

pub returns-in-None-clause-sound : goal.returns-in-None-clause-sound
returns-in-None-clause-sound g c =
    let k = g.S.Store.content c.args.store.now in
    (λ _. sound_told k (sym c.first_fault.ensures.value ∙ c.in-None.is), λ _. refl)
