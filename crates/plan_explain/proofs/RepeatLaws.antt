-- Warnings that are kept once.
use Rattle.std.proofs.Common.{◌≡◌, inl, inr, List, [], ◌∷◌, ◌++◌, Contains, sym, subst}
use Rattle.std.proofs.lemmas.List.Elements.{Contains-append_left, Contains-append_right, Contains-append_cases}
use Rattle.mux_types.proofs.Elements.{contains_first, contains_later, contains_none}
use Rattle.plan_explain.specs.declared.warning.Warning.{Warning}
use Rattle.plan_explain.specs.Repeats.{AreApart, AreEachOnce, Joins}
use Rattle.plan_explain.proofs.Lists.{from_one}

-- one more, which is not among them
apart_more : (ws : List Warning) (w : Warning) → AreApart ws → (Contains ws w → ⊥) → AreApart (ws ++ w ∷ [])
apart_more [] w h new = (contains_none w, tt)
apart_more (v ∷ ws) w h new =
    let first : Contains (ws ++ w ∷ []) v → ⊥ = λ there. elim (Contains-append_cases ws (w ∷ []) v there) [
      | inl old ↦ h.0 old
      | inr last ↦ (
          let same : w ≡ v = from_one w v last in
          new (subst (λ (x : Warning). Contains (v ∷ ws) x) (sym same) (contains_first v ws)))
    ] in
    (first, apart_more ws w h.1 (λ there. new (contains_later v ws w there)))

-- one more of a list, which joins those kept
pub kept_more : (found kept after : List Warning) (w : Warning) → AreEachOnce found kept → Joins kept w after
    → AreEachOnce (found ++ w ∷ []) after
kept_more found kept after w h (inl old) =
    subst (λ (ws : List Warning). AreEachOnce (found ++ w ∷ []) ws) (sym old.1) (record {
      same = λ v. (
        λ there. Contains-append_left found (w ∷ []) v ((h.same v).0 there),
        λ there. elim (Contains-append_cases found (w ∷ []) v there) [
          | inl before ↦ (h.same v).1 before
          | inr last ↦ subst (λ (x : Warning). Contains kept x) (from_one w v last) old.0
        ],
      );
      apart = h.apart;
    })
kept_more found kept after w h (inr new) =
    subst (λ (ws : List Warning). AreEachOnce (found ++ w ∷ []) ws) (sym new.1) (record {
      same = λ v. (
        λ there. elim (Contains-append_cases kept (w ∷ []) v there) [
          | inl before ↦ Contains-append_left found (w ∷ []) v ((h.same v).0 before)
          | inr last ↦ Contains-append_right found (w ∷ []) v last
        ],
        λ there. elim (Contains-append_cases found (w ∷ []) v there) [
          | inl before ↦ Contains-append_left kept (w ∷ []) v ((h.same v).1 before)
          | inr last ↦ Contains-append_right kept (w ∷ []) v last
        ],
      );
      apart = apart_more kept w h.apart new.0;
    })
