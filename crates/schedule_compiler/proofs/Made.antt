-- What edits and overlays make, step by step.
use Rattle.std.proofs.Common.{◌%◌, ◌*◌, ◌+◌, ◌/◌, ◌<◌, ◌∙◌, ◌∷◌, ◌≡◌, ◌≤◌, [], Bool, List, None, Option, Some}
use Rattle.std.proofs.Common.{add-one, ap, arith, cond, drop-cons, eqb, false, length, map, refl, sym, true, ℕ}
use Rattle.std.proofs.lemmas.List.{drop_all}
use Rattle.std.specs.Prelude.{drop, get_or, Result, Ok, Err}
use Rattle.mux_types.specs.Configuration.{Configuration}
use Rattle.mux_config.specs.Edits.{edit_fault, changed}
use Rattle.mux_config.specs.declared.fault.EditFault.{EditFault}
use Rattle.plan_code.specs.declared.flags.Contacts.{Contacts}
use Rattle.schedule_front.specs.declared.tree.OverlayEdit.{OverlayEdit}
use Rattle.schedule_front.specs.declared.tree.Overlay.{Overlay as OverlayCode}
use Rattle.schedule_front.specs.Tree.{Overlay, overlay_of}
use Rattle.schedule_runs.specs.Due.{condition_holds, edits_of, with_overlays}
use Rattle.schedule_verifier.specs.Combinations.{held_of, with_first}
use Rattle.script_config.specs.declared.items.ItemFault.{ItemFault}
use Rattle.script_config.specs.Items.{unless_fault}
use Rattle.script_config.specs.Sequences.{after}
use Rattle.schedule_compiler.specs.Refusals.{Makes, edited, has_first, overlaid, then_made, last_line}

-- ---- edits

made_by_one : (e : OverlayEdit) (es : List OverlayEdit) (c d : Configuration) (o : Option EditFault)
    → unless_fault o e.line (edited es (changed e.edit c)) ≡ Ok d → edited es (changed e.edit c) ≡ Ok d
made_by_one e es c d None is = is
made_by_one e es c d (Some fault) is = absurd cc

pub edits_make : (es : List OverlayEdit) (c d : Configuration) → edited es c ≡ Ok d
    → after (map (λ e. e.edit) es) c ≡ d
edits_make [] c d is = let same : c ≡ d = cc in same
edits_make (e ∷ es) c d is = edits_make es (changed e.edit c) d (made_by_one e es c d (edit_fault e.edit c) is)

pub next_edit : (es : List OverlayEdit) (i : ℕ) (e x : OverlayEdit) (c d : Configuration) → i < length es
    → e ≡ get_or es i x → edit_fault e.edit c ≡ None → d ≡ changed e.edit c
    → edited (drop i es) c ≡ edited (drop (i + 1) es) d
next_edit es i e x c d lt is fine new =
    let cut : drop i es ≡ e ∷ drop (i + 1) es = rw (add-one, is, drop-cons es i x lt) refl in
    ap (λ (xs : List OverlayEdit). edited xs c) cut
    ∙ ap (λ (o : Option EditFault). unless_fault o e.line (edited (drop (i + 1) es) (changed e.edit c))) fine
    ∙ ap (edited (drop (i + 1) es)) (sym new)

pub bad_edit : (es : List OverlayEdit) (i : ℕ) (e x : OverlayEdit) (c : Configuration) (f : ItemFault) → i < length es
    → e ≡ get_or es i x → f.line ≡ e.line → edit_fault e.edit c ≡ Some f.fault
    → edited (drop i es) c ≡ Err f
bad_edit es i e x c f lt is line bad =
    let cut : drop i es ≡ e ∷ drop (i + 1) es = rw (add-one, is, drop-cons es i x lt) refl in
    ap (λ (xs : List OverlayEdit). edited xs c) cut
    ∙ ap (λ (o : Option EditFault). unless_fault o e.line (edited (drop (i + 1) es) (changed e.edit c))) bad
    ∙ ap (λ (n : ℕ). Err (let g : ItemFault = record { line = n; fault = f.fault } in g)) (sym line)

pub no_edit : (es : List OverlayEdit) (i : ℕ) (c : Configuration) → length es ≤ i → edited (drop i es) c ≡ Ok c
no_edit es i c past = ap (λ (xs : List OverlayEdit). edited xs c) (drop_all i es past)

-- ---- overlays

pub first_of : (b : Bool) (others : ℕ) → has_first (with_first b others) ≡ b
first_of true others = let odd : (1 + 2 * others) % 2 ≡ 1 = omega arith in ap (λ (n : ℕ). eqb n 1) odd
first_of false others = let even : (0 + 2 * others) % 2 ≡ 0 = omega arith in ap (λ (n : ℕ). eqb n 1) even

pub others_of : (b : Bool) (others : ℕ) → with_first b others / 2 ≡ others
others_of true others = omega arith
others_of false others = omega arith

overlay_makes : (b : Bool) (o : Overlay) (c : Configuration) (next : Configuration → Result Configuration ItemFault)
    (d : Configuration) → then_made (cond b (edited o.edits c) (Ok c)) next ≡ Ok d
    → (e : Configuration) × (cond b (after (edits_of o) c) c ≡ e) × (next e ≡ Ok d)
overlay_makes false o c next d is = (c, refl, is)
overlay_makes true o c next d is = by (edited o.edits c) refl is
  where
    by : (r : Result Configuration ItemFault) → edited o.edits c ≡ r → then_made r next ≡ Ok d
        → (e : Configuration) × (after (edits_of o) c ≡ e) × (next e ≡ Ok d)
    by (Ok e) same is = (e, edits_make o.edits c e same, is)
    by (Err fault) same is = absurd cc

pub overlays_make : (contacts : Contacts) (day : ℕ) (os : List Overlay) (c d : Configuration)
    → overlaid (held_of contacts day os) os c ≡ Ok d → with_overlays contacts day os c ≡ d
overlays_make contacts day [] c d is = let same : c ≡ d = cc in same
overlays_make contacts day (o ∷ os) c d is =
    let b = condition_holds contacts day o.condition in
    let rest = held_of contacts day os in
    let here : then_made (cond b (edited o.edits c) (Ok c)) (overlaid rest os) ≡ Ok d =
    sym (ap (λ (x : Bool). then_made (cond x (edited o.edits c) (Ok c)) (overlaid (with_first b rest / 2) os))
    (first_of b rest)
    ∙ ap (λ (n : ℕ). then_made (cond b (edited o.edits c) (Ok c)) (overlaid n os)) (others_of b rest))
    ∙ is in
    let step = overlay_makes b o c (overlaid rest os) d here in
    ap (with_overlays contacts day os) step.1 ∙ overlays_make contacts day os step.0 d step.2

-- ---- the overlays of a set, in a loop

pub next_overlay : (os : List OverlayCode) (i set : ℕ) (o x : OverlayCode) (c d : Configuration) → i < length os
    → o ≡ get_or os i x → then_made (cond (has_first set) (edited (overlay_of o).edits c) (Ok c)) (λ e. Ok e) ≡ Ok d
    → overlaid set (map overlay_of (drop i os)) c ≡ overlaid (set / 2) (map overlay_of (drop (i + 1) os)) d
next_overlay os i set o x c d lt is new =
    let cut : drop i os ≡ o ∷ drop (i + 1) os = rw (add-one, is, drop-cons os i x lt) refl in
    let all = map overlay_of (drop (i + 1) os) in
    ap (λ (xs : List OverlayCode). overlaid set (map overlay_of xs) c) cut
    ∙ by (cond (has_first set) (edited (overlay_of o).edits c) (Ok c)) all new
  where
    by : (r : Result Configuration ItemFault) (all : List Overlay) → then_made r (λ e. Ok e) ≡ Ok d
        → then_made r (overlaid (set / 2) all) ≡ overlaid (set / 2) all d
    by (Ok e) all same = let equal : e ≡ d = cc in ap (overlaid (set / 2) all) equal
    by (Err fault) all same = absurd cc

pub last_overlay : (os : List OverlayCode) (i line set next : ℕ) (o x : OverlayCode) → i < length os
    → o ≡ get_or os i x → next ≡ cond (has_first set) o.line line
    → last_line line set (map overlay_of (drop i os)) ≡ last_line next (set / 2) (map overlay_of (drop (i + 1) os))
last_overlay os i line set next o x lt is new =
    let cut : drop i os ≡ o ∷ drop (i + 1) os = rw (add-one, is, drop-cons os i x lt) refl in
    ap (λ (xs : List OverlayCode). last_line line set (map overlay_of xs)) cut
    ∙ ap (λ (n : ℕ). last_line n (set / 2) (map overlay_of (drop (i + 1) os))) (sym new)

-- ---- what was made

pub made_ok : (r : Result Configuration ItemFault) (c : Configuration) → r ≡ Ok c → Makes r c (Ok tt)
made_ok (Ok d) c e = let same : d ≡ c = cc in (refl, sym same)
made_ok (Err fault) c e = absurd cc

pub made_err : (r : Result Configuration ItemFault) (c : Configuration) (fault : ItemFault) → r ≡ Err fault
    → Makes r c (Err fault)
made_err (Ok d) c fault e = absurd cc
made_err (Err other) c fault e = let same : other ≡ fault = cc in ap (λ (f : ItemFault). Err f) (sym same)
