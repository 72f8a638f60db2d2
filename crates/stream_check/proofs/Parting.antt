-- Hearing one entry or one other FIG: the contradictions that were reported since the last swap.
use Rattle.stream_check.proofs.Words.{[], ◌&&◌, ◌+◌, ◌==◌, ◌||◌, ◌∙◌, ◌∷◌, ◌≡◌, ◌≢◌, Bool, CheckerState}
use Rattle.stream_check.proofs.Words.{EnsembleInformation, EntrySent, FrameAt, Hears, HearsItems, Item, KnownBefore}
use Rattle.stream_check.proofs.Words.{Knows, List, Moment, Raw, Reported, ap, at_most, cond, ensemble_in, entries_sent}
use Rattle.stream_check.proofs.Words.{false, has_flags, is_made, items_of, known_in, listener_after, makes_swap, ne_eqb}
use Rattle.stream_check.proofs.Words.{not, noted_at, refl, sym, true, with_ensemble, with_flags, with_swap}
use Rattle.stream_check.proofs.Steps.{known_same}

-- ---- an entry

sends_one : (at : FrameAt) (i : Item) (old new : CheckerState) (before after : Reported) (full : Bool)
    → HearsItems at (i ∷ []) old before new after full
    → ((past : List Moment) → Knows old.step old.period past old → new.noted ≡ noted_at past i old.noted)
    → Hears at (EntrySent i ∷ []) old before new after full
sends_one at i old new before after full h noted past k =
    let one = h past k in
    record { findings = one.findings; room = one.room; knows = one.knows; noted = λ e. noted past k }

-- a FIG 0/0: they are forgotten where it makes a swap
flags_noted : (e : EnsembleInformation) (m : CheckerState) → (with_flags e m).noted ≡ m.noted
flags_noted e m = elim (has_flags e)
    as (λ t. (cond t (record m {
      is_cut_off = m.is_cut_off || not m.tuned;
      awaited = e.occurrence;
      flags = e.change;
      times = at_most 3 (m.times + 1);
      has_begun = true;
    }) m).noted ≡ m.noted) [
      | true ↦ refl
      | false ↦ refl
    ]

ensemble_noted : (first : Bool) (e : EnsembleInformation) (m : CheckerState) (b : Bool)
    → (with_ensemble first e (cond b (with_swap m) m)).noted ≡ cond b [] m.noted
ensemble_noted first e m true = flags_noted e (with_swap m)
ensemble_noted first e m false = flags_noted e m

pub sends_ensemble : (at : FrameAt) (first next : Bool) (raw : Raw) (old new : CheckerState) (before after : Reported)
    → raw.ext ≡ 0
    → new ≡ with_ensemble first (ensemble_in raw)
    (cond (makes_swap (known_in old) (ensemble_in raw)) (with_swap old) old)
    → HearsItems at (items_of first next (raw ∷ [])) old before new after false
    → Hears at (entries_sent first next (raw ∷ [])) old before new after false
sends_ensemble at first next raw old new before after zero is h =
    let e : (raw.ext == 0) ≡ true = rw (zero) refl in
    sends_one at (record { first = first; next = next; raw = raw }) old new before after false h
    (λ past k. ap (λ (m : CheckerState). m.noted) is ∙ ensemble_noted first (ensemble_in raw) old
    (makes_swap (known_in old) (ensemble_in raw))
    ∙ ap (λ (n : KnownBefore). cond (makes_swap n (ensemble_in raw)) [] old.noted)
    (known_same old.step old.period past old k)
    ∙ sym (ap (λ b. cond (b && is_made (listener_after past).awaited (ensemble_in raw)) [] old.noted) e))

-- another entry
pub sends_member : (at : FrameAt) (first next : Bool) (raw : Raw) (old new : CheckerState) (before after : Reported)
    (full : Bool) → raw.ext ≢ 0 → new.noted ≡ old.noted
    → HearsItems at (items_of first next (raw ∷ [])) old before new after full
    → Hears at (entries_sent first next (raw ∷ [])) old before new after full
sends_member at first next raw old new before after full other same h =
    sends_one at (record { first = first; next = next; raw = raw }) old new before after full h
    (λ past k. same ∙ sym (ap (λ b. cond (b && is_made (listener_after past).awaited (ensemble_in raw)) [] old.noted)
    (ne_eqb raw.ext 0 other)))
