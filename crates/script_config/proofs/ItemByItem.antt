-- Items applied in order: the loop's invariant and result.
use Rattle.script_config.proofs.Words.{[], ◌∙◌, ◌∷◌, ◌≡◌, ◌≤◌, Configuration, Err, Item, List, None, Ok}
use Rattle.script_config.proofs.Words.{Option, Result, Some, Transform, added_by, ap, changed, drop, drop_all}
use Rattle.script_config.proofs.Words.{edit_fault, length, made_by, refl, sym, unless_fault, ℕ}
use Rattle.mux_config.specs.declared.fault.EditFault.{EditFault}
use Rattle.script_config.specs.declared.items.ItemFault.{ItemFault}

ok_is_err : {P : Type 0} (c : Configuration) (f : ItemFault) → Err f ≡ Ok c → P
ok_is_err c f e = absurd (cc)

-- ---- the configuration after items

leads_by : (item : Item) (items : List Item) (c d : Configuration) (o : Option EditFault) → edit_fault item.edit c ≡ o
    → unless_fault o item.line (made_by items (changed item.edit c)) ≡ Ok d
    → (made_by items (changed item.edit c) ≡ Ok d → Transform (added_by items) (changed item.edit c) d)
    → Transform (added_by (item ∷ items)) c d
leads_by item items c d None is e rest = let more = rest e in record { fine = (is, more.fine); arrive = more.arrive }
leads_by item items c d (Some fault) is e rest = ok_is_err d (record { line = item.line; fault = fault }) e

pub made_leads : (items : List Item) (c d : Configuration) → made_by items c ≡ Ok d → Transform (added_by items) c d
made_leads [] c d e = let same : c ≡ d = cc in record { fine = tt; arrive = same }
made_leads (item ∷ items) c d e =
    leads_by item items c d (edit_fault item.edit c) refl e (made_leads items (changed item.edit c) d)

-- ---- the loop

pub all_made : (items : List Item) (i : ℕ) (c : Configuration) (r : Result Configuration ItemFault) → length items ≤ i
    → made_by (drop i items) c ≡ r → Ok c ≡ r
all_made items i c r past so_far = sym (ap (λ (is : List Item). made_by is c) (drop_all i items past)) ∙ so_far
