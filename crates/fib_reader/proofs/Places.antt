-- The FIGs of a FIB, one after another.
use Rattle.fib_reader.proofs.Words.{[], ◌++◌, ◌∙◌, ◌∷◌, ◌≡◌, AreFigs, Fig, List, ap, append_assoc, fig_spelled}
use Rattle.fib_reader.proofs.Words.{flat_map, refl, sym, ℕ}
use Rattle.fib_reader.proofs.FigLists.{spelled_fig}

pub front_of_figs : (bytes : List ℕ) (fs : List Fig) → AreFigs bytes fs → (rest : List ℕ)
    × (bytes ≡ flat_map fig_spelled fs ++ rest)
front_of_figs bytes [] h = (bytes, refl)
front_of_figs bytes (f ∷ fs) h =
    let more = front_of_figs h.1 fs h.4 in (
      more.0,
      h.2 ∙ ap (λ x. x ++ h.1) (spelled_fig h.0 f h.3) ∙ ap (λ x. fig_spelled f ++ x) more.1
          ∙ sym (append_assoc (fig_spelled f) (flat_map fig_spelled fs) more.0),
    )
