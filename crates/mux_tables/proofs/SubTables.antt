-- A table of sub-channels and the list of their identifiers stay consistent.
use Rattle.mux_tables.proofs.Words.{[], ◌<◌, ◌∙◌, ◌∷◌, ◌≡◌, InPlace, List, None, Option, Some, Sub, ap, arith, entry_at}
use Rattle.mux_tables.proofs.Words.{get_or, length, length-map, map, members, refl, set, slice_get, sub_key, suc, sym}
use Rattle.mux_tables.proofs.Words.{with_entry, with_entry_changed, without_entry, zero, ℕ}
use Rattle.mux_tables.specs.declared.sub_table.ListedId.{ListedId}
use Rattle.mux_tables.specs.Listed.{listed}
use Rattle.mux_tables.proofs.Members.{is_found, is_added, is_removed, is_changed, stays_in_place, in_place_none, room}
use Rattle.mux_tables.proofs.Members.{stands, found_mapped, with_mapped, without_mapped, changed_mapped}

abbrev pub listed_key : ListedId → ℕ
listed_key l = l.id

abbrev pub ids_of : List (Option Sub) → List ListedId
ids_of places = map listed (members places)

pub with_default : (xs : List (Option Sub)) (i : ℕ) (d : Option Sub) → i < length xs → get_or xs i d ≡ get_or xs i None
with_default [] i d lt = absurd (omega arith)
with_default (x ∷ xs) zero d lt = refl
with_default (x ∷ xs) (suc i) d lt = with_default xs i d (omega arith)

pub found_at : (places : List (Option Sub)) (id p : ℕ) (d : Option Sub) → length places ≡ 64 → id < 64
    → InPlace sub_key 0 places → p ≡ id → get_or places p d ≡ entry_at sub_key id (members places)
found_at places id p d long lt h e = with_default places p d (omega (arith, long, lt, e))
    ∙ rw (e) (is_found sub_key places id h)

pub id_absent : (places : List (Option Sub)) (ids : List ListedId) (id : ℕ) → ids ≡ ids_of places
    → entry_at sub_key id (members places) ≡ None → entry_at listed_key id ids ≡ None
id_absent places ids id same absent = rw (same) (found_mapped _ _ listed (λ x. refl) id (members places) absent)

pub id_room : (places : List (Option Sub)) (ids : List ListedId) (id : ℕ) → length places ≡ 64 → id < 64
    → InPlace sub_key 0 places → ids ≡ ids_of places → entry_at sub_key id (members places) ≡ None → length ids < 64
id_room places ids id long lt h same absent =
    let len : length ids ≡ length (members places) = ap length same ∙ simp length-map in
    omega (arith, room sub_key places id (omega (arith, long, lt)) (is_found sub_key places id h ∙ absent), len, long)

pub added : (places : List (Option Sub)) (y : Sub) (p : ℕ) → length places ≡ 64 → y.id < 64 → InPlace sub_key 0 places
    → p ≡ y.id → entry_at sub_key y.id (members places) ≡ None
    → members (set places p (Some y)) ≡ with_entry sub_key y (members places)
added places y p long lt h e absent = rw (e) (is_added sub_key places y h (omega (arith, long, lt)) absent)

pub added_in_place : (places : List (Option Sub)) (y : Sub) (p : ℕ) → InPlace sub_key 0 places → p ≡ y.id
    → InPlace sub_key 0 (set places p (Some y))
added_in_place places y p h e = rw (e) (stays_in_place sub_key places y h)

pub ids_added : (places : List (Option Sub)) (ids : List ListedId) (y : Sub) (p : ℕ) → length places ≡ 64 → y.id < 64
    → InPlace sub_key 0 places → ids ≡ ids_of places → p ≡ y.id → entry_at sub_key y.id (members places) ≡ None
    → with_entry listed_key (listed y) ids ≡ ids_of (set places p (Some y))
ids_added places ids y p long lt h same e absent =
    cc (same, with_mapped sub_key listed_key listed (λ x. refl) y (members places), added places y p long lt h e absent)

pub removed : (places : List (Option Sub)) (id p : ℕ) → InPlace sub_key 0 places → p ≡ id
    → members (set places p None) ≡ without_entry sub_key id (members places)
removed places id p h e = rw (e) (is_removed sub_key places id h)

pub removed_in_place : (places : List (Option Sub)) (p : ℕ) → InPlace sub_key 0 places
    → InPlace sub_key 0 (set places p None)
removed_in_place places p h = in_place_none sub_key 0 places p h

pub ids_removed : (places : List (Option Sub)) (ids : List ListedId) (id k p : ℕ) → InPlace sub_key 0 places
    → ids ≡ ids_of places → p ≡ id → k ≡ id
    → without_entry listed_key k ids ≡ ids_of (set places p None)
ids_removed places ids id k p h same e f =
    cc (same, f, without_mapped sub_key listed_key listed (λ x. refl) id (members places), removed places id p h e)

same_listed : (x y : Sub) → sub_key x ≡ sub_key y → listed x ≡ listed y
same_listed x y e = ap (λ (n : ℕ). let l : ListedId = record { id = n } in l) e

pub changed : (places : List (Option Sub)) (x y : Sub) (p : ℕ) → InPlace sub_key 0 places → p ≡ y.id
    → entry_at sub_key y.id (members places) ≡ Some x → members (set places p (Some y))
    ≡ with_entry_changed sub_key y (members places)
changed places x y p h e there =
    rw (e) (is_changed sub_key places x y h (is_found sub_key places y.id h ∙ there))

pub ids_changed : (places : List (Option Sub)) (ids : List ListedId) (x y : Sub) (p : ℕ) → InPlace sub_key 0 places
    → ids ≡ ids_of places → p ≡ y.id → entry_at sub_key y.id (members places) ≡ Some x
    → ids ≡ ids_of (set places p (Some y))
ids_changed places ids x y p h same e there =
    same ∙ sym (changed_mapped sub_key listed_key listed (λ x. refl) y (λ x f. same_listed x y f) (members places))
    ∙ ap (λ (xs : List Sub). map listed xs) (sym (changed places x y p h e there))

-- the identifier at an index of the list is that of the sub-channel at the index
listed_at : (xs : List Sub) (i : ℕ) (l : ListedId) → slice_get (map listed xs) i ≡ Some l → (s : Sub)
    × (slice_get xs i ≡ Some s) × (s.id ≡ l.id)
listed_at [] i l e = absurd (cc)
listed_at (x ∷ xs) zero l e = let is : listed x ≡ l = cc in (x, refl, ap (λ (k : ListedId). k.id) is)
listed_at (x ∷ xs) (suc i) l e = listed_at xs i l e

pub item_at : (places : List (Option Sub)) (ids : List ListedId) (i : ℕ) (l : ListedId) → InPlace sub_key 0 places
    → ids ≡ ids_of places → Some l ≡ slice_get ids i → slice_get (members places) i
    ≡ entry_at sub_key l.id (members places)
item_at places ids i l h same e =
    let found = listed_at (members places) i l (sym (e ∙ ap (λ (ls : List ListedId). slice_get ls i) same)) in
    cc (found.1, stands sub_key places i found.0 h found.1, is_found sub_key places found.0.id h, found.2)

pub item_there : {T : Type 0} (xs : List T) (i : ℕ) → i < length xs → slice_get xs i ≡ None → ⊥
item_there [] i lt e = omega arith
item_there (x ∷ xs) zero lt e = absurd (cc)
item_there (x ∷ xs) (suc i) lt e = item_there xs i (omega arith) e

-- equal tables
pub same_place : (xs ys : List (Option Sub)) (i : ℕ) → InPlace sub_key 0 xs → InPlace sub_key 0 ys
    → members xs ≡ members ys → get_or xs i None ≡ get_or ys i None
same_place xs ys i h k e = cc (is_found sub_key xs i h, e, is_found sub_key ys i k)

pub all_same : (xs ys : List (Option Sub)) → length xs ≡ length ys
    → ((i : ℕ) → i < length xs → get_or xs i None ≡ get_or ys i None) → xs ≡ ys
all_same [] [] long h = refl
all_same (x ∷ xs) (y ∷ ys) long h =
    let rest = all_same xs ys (omega (arith, long)) (λ i lt. h (suc i) (omega (arith, lt))) in
    ap (λ (z : Option Sub). z ∷ xs) (h 0 (omega arith)) ∙ ap (λ (zs : List (Option Sub)). y ∷ zs) rest
all_same _ _ long h = absurd (omega (arith, long))
