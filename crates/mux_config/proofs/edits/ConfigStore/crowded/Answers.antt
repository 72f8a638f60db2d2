use Rattle.mux_config.proofs.Words.{◌∙◌, ◌≡◌, ap, first_overlap, is_crowded, is_some, sym}
use Rattle.mux_config.proofs.Sounding.{crowded_told, crowded_found, first_any}
use Rattle.mux_config.proofs.edits.ConfigStore.crowded.Goals as goal

pub returns-clause-value : goal.returns-clause-value
returns-clause-value c =
    let k = c.args.self.now in
    let is : c.is_crowded.result ≡ is_some (first_overlap k.subs) =
    c.is_crowded.ensures ∙ ap is_crowded c.subs.ensures.value ∙ sym (first_any k.subs) in
    (λ e. crowded_told k c.subs.ensures.configuration (sym is ∙ e), λ h. is ∙ crowded_found k h)
