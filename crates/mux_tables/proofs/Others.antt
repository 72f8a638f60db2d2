-- Edits of services and packet components are those of a configuration without sub-channels.
use Rattle.mux_tables.proofs.Words.{[], ◌∙◌, ◌≡◌, AddComponent, AddPacket, AddService, AddSub, Configuration}
use Rattle.mux_tables.proofs.Words.{DropComponent, DropPacket, DropService, DropSub, IsConfiguration, IsInRange, List}
use Rattle.mux_tables.proofs.Words.{MoveSub, None, RateSub, Sub, ap, changed, edit_fault, edits_keep}
use Rattle.mux_tables.proofs.Words.{refl, subst, sym, with_sub_channels}
use Rattle.mux_config.specs.declared.edit.Edit.{Edit}

abbrev pub IsOfOthers : Edit → Type 0
IsOfOthers (AddSub s) = ⊥
IsOfOthers (DropSub id) = ⊥
IsOfOthers (MoveSub id start) = ⊥
IsOfOthers (RateSub id kbits) = ⊥
IsOfOthers e = Unit {0}

pub same_fault : (e : Edit) → IsOfOthers e → (xs : List Sub) (d : Configuration)
    → edit_fault e (with_sub_channels xs d) ≡ edit_fault e d
same_fault (AddSub s) of xs d = absurd of
same_fault (DropSub id) of xs d = absurd of
same_fault (MoveSub id start) of xs d = absurd of
same_fault (RateSub id kbits) of xs d = absurd of
same_fault (AddService sid) of xs d = refl
same_fault (DropService sid) of xs d = refl
same_fault (AddComponent sid m) of xs d = refl
same_fault (DropComponent sid carrier) of xs d = refl
same_fault (AddPacket p) of xs d = refl
same_fault (DropPacket scid) of xs d = refl

pub same_change : (e : Edit) → IsOfOthers e → (xs : List Sub) (d : Configuration)
    → changed e (with_sub_channels xs d) ≡ with_sub_channels xs (changed e d)
same_change (AddSub s) of xs d = absurd of
same_change (DropSub id) of xs d = absurd of
same_change (MoveSub id start) of xs d = absurd of
same_change (RateSub id kbits) of xs d = absurd of
same_change (AddService sid) of xs d = refl
same_change (DropService sid) of xs d = refl
same_change (AddComponent sid m) of xs d = refl
same_change (DropComponent sid carrier) of xs d = refl
same_change (AddPacket p) of xs d = refl
same_change (DropPacket scid) of xs d = refl

same_subs : (e : Edit) → IsOfOthers e → (d : Configuration) → (changed e d).subs ≡ d.subs
same_subs (AddSub s) of d = absurd of
same_subs (DropSub id) of d = absurd of
same_subs (MoveSub id start) of d = absurd of
same_subs (RateSub id kbits) of d = absurd of
same_subs (AddService sid) of d = refl
same_subs (DropService sid) of d = refl
same_subs (AddComponent sid m) of d = refl
same_subs (DropComponent sid carrier) of d = refl
same_subs (AddPacket p) of d = refl
same_subs (DropPacket scid) of d = refl

-- if there is no fault
pub known : (e : Edit) → IsOfOthers e → (xs : List Sub) (old new : Configuration) → new ≡ changed e old
    → with_sub_channels xs new ≡ changed e (with_sub_channels xs old)
known e of xs old new is = ap (with_sub_channels xs) is ∙ sym (same_change e of xs old)

pub known_keeps : (e : Edit) → IsOfOthers e → IsInRange e → (xs : List Sub) (old new : Configuration) → old.subs ≡ []
    → IsConfiguration (with_sub_channels xs old) → edit_fault e old ≡ None → new ≡ changed e old
    → (new.subs ≡ []) × IsConfiguration (with_sub_channels xs new)
known_keeps e of within xs old new none c fault is = (
  ap (λ (d : Configuration). d.subs) is ∙ same_subs e of old ∙ none,
  subst IsConfiguration (sym (known e of xs old new is))
      (edits_keep e (with_sub_channels xs old) within c (same_fault e of xs old ∙ fault)),
)
