-- The searches of sub-channels for the first overlap, and of packet components for an address used twice.
use Rattle.mux_config.proofs.Words.{[], ◌+◌, ◌<◌, ◌==◌, ◌||◌, ◌∙◌, ◌∷◌, ◌≡◌, Bool, ConfigFault, List, None, Option}
use Rattle.mux_config.proofs.Words.{Overlap, Packet, Some, Sub, ap, arith, cond, cut, drop, false, false≢true}
use Rattle.mux_config.proofs.Words.{first_of_two, first_overlap, get_or-replicate, get_or-set_other, has_address_twice}
use Rattle.mux_config.proofs.Words.{has_same_address, inl, inr, is_some, length, list_any, overlap_with, overlaps, refl}
use Rattle.mux_config.proofs.Words.{replicate, slice_get, slice_index_or, slice_set, suc, sym, true, zero, ℕ}
use Rattle.std.proofs.lemmas.Bool.Decides.{eqb_tells}
use Rattle.std.proofs.lemmas.Grind.{get_or-set_at}
use Rattle.std.proofs.lemmas.Bool.{or_parts, or_right, and_left}

-- ---- the search for the first overlap

with_step : (a : Sub) (xs : List Sub) (i : ℕ) (b : Sub) → slice_get xs i ≡ Some b
    → overlap_with a (drop i xs) ≡ first_of_two (cond (overlaps a b) (Some (Overlap a.id b.id)) None)
    (overlap_with a (drop (i + 1) xs))
with_step a xs i b e = rw (cut xs i b e)
    (elim (overlaps a b) as (λ t. cond t (Some (Overlap a.id b.id)) (overlap_with a (drop (i + 1) xs))
    ≡ first_of_two (cond t (Some (Overlap a.id b.id)) None) (overlap_with a (drop (i + 1) xs)))
    [ true ↦ refl | false ↦ refl ])

first_step : (xs : List Sub) (i : ℕ) (a : Sub) → slice_get xs i ≡ Some a
    → first_overlap (drop i xs) ≡ first_of_two (overlap_with a (drop (i + 1) xs)) (first_overlap (drop (i + 1) xs))
first_step xs i a e = rw (cut xs i a e) refl

found : (one other all : Option ConfigFault) → first_of_two one other ≡ all → is_some one ≡ true → one ≡ all
found None other all e some = absurd (false≢true some)
found (Some fault) other all e some = e

kept : (one other all : Option ConfigFault) → first_of_two one other ≡ all → is_some one ≡ false → other ≡ all
kept None other all e none = e
kept (Some fault) other all e none = absurd (false≢true (sym none))

pub with_found : (a : Sub) (xs : List Sub) (i : ℕ) (b : Sub) (all : Option ConfigFault)
    → overlap_with a (drop i xs) ≡ all → slice_get xs i ≡ Some b → overlaps a b ≡ true → Some (Overlap a.id b.id) ≡ all
with_found a xs i b all left e is =
    ap (λ (t : Bool). first_of_two (cond t (Some (Overlap a.id b.id)) None) (overlap_with a (drop (i + 1) xs))) (sym is)
    ∙ sym (with_step a xs i b e) ∙ left

pub with_more : (a : Sub) (xs : List Sub) (i : ℕ) (b : Sub) (all : Option ConfigFault)
    → overlap_with a (drop i xs) ≡ all → slice_get xs i ≡ Some b → overlaps a b ≡ false
    → overlap_with a (drop (i + 1) xs) ≡ all
with_more a xs i b all left e is =
    ap (λ (t : Bool). first_of_two (cond t (Some (Overlap a.id b.id)) None) (overlap_with a (drop (i + 1) xs))) (sym is)
    ∙ sym (with_step a xs i b e) ∙ left

pub first_found : (xs : List Sub) (i : ℕ) (a : Sub) (fault all : Option ConfigFault) → first_overlap (drop i xs) ≡ all
    → slice_get xs i ≡ Some a → fault ≡ overlap_with a (drop (i + 1) xs) → is_some fault ≡ true → fault ≡ all
first_found xs i a fault all left e is some =
    is ∙ found (overlap_with a (drop (i + 1) xs)) (first_overlap (drop (i + 1) xs)) all
    (sym (first_step xs i a e) ∙ left) (ap is_some (sym is) ∙ some)

pub first_more : (xs : List Sub) (i : ℕ) (a : Sub) (fault all : Option ConfigFault) → first_overlap (drop i xs) ≡ all
    → slice_get xs i ≡ Some a → fault ≡ overlap_with a (drop (i + 1) xs) → is_some fault ≡ false
    → first_overlap (drop (i + 1) xs) ≡ all
first_more xs i a fault all left e is none =
    kept (overlap_with a (drop (i + 1) xs)) (first_overlap (drop (i + 1) xs)) all (sym (first_step xs i a e) ∙ left)
    (ap is_some (sym is) ∙ none)

-- ---- the search for an address used twice

-- a packet component with this sub-channel is among these
abbrev pub is_named : ℕ → List Packet → Bool
is_named s ps = list_any (λ (q : Packet). s == q.sub) ps

none_alike : (p : Packet) (ps : List Packet) → is_named p.sub ps ≡ false → list_any (has_same_address p) ps ≡ false
none_alike p [] e = refl
none_alike p (q ∷ qs) e =
    let two = or_parts (p.sub == q.sub) (is_named p.sub qs) e in
    let first : has_same_address p q ≡ false = and_left (p.sub == q.sub) (p.address == q.address) two.0 in
    ap (λ (t : Bool). t || list_any (has_same_address p) qs) first ∙ none_alike p qs two.1

twice_later : (xs : List Packet) (i : ℕ) → has_address_twice (drop i xs) ≡ true → has_address_twice xs ≡ true
twice_later xs zero e = e
twice_later [] (suc i) e = e
twice_later (x ∷ xs) (suc i) e =
    or_right (list_any (has_same_address x) xs) (has_address_twice xs) (twice_later xs i e)

twice_step : (xs : List Packet) (i : ℕ) (p : Packet) → slice_get xs i ≡ Some p
    → has_address_twice (drop i xs)
    ≡ (list_any (has_same_address p) (drop (i + 1) xs) || has_address_twice (drop (i + 1) xs))
twice_step xs i p e = rw (cut xs i p e) refl

pub twice_found : (xs : List Packet) (i : ℕ) (p : Packet) → slice_get xs i ≡ Some p
    → list_any (has_same_address p) (drop (i + 1) xs) ≡ true → true ≡ has_address_twice xs
twice_found xs i p e here =
    sym (twice_later xs i (twice_step xs i p e ∙ ap (λ (t : Bool). t || has_address_twice (drop (i + 1) xs)) here))

pub twice_not : (xs : List Packet) (i : ℕ) (p : Packet) → slice_get xs i ≡ Some p
    → list_any (has_same_address p) (drop (i + 1) xs) ≡ false → has_address_twice (drop (i + 1) xs) ≡ false
    → has_address_twice (drop i xs) ≡ false
twice_not xs i p e here later = twice_step xs i p e ∙ ap (λ (t : Bool). t || has_address_twice (drop (i + 1) xs)) here
    ∙ later

pub twice_unnamed : (xs : List Packet) (i : ℕ) (p : Packet) → slice_get xs i ≡ Some p
    → is_named p.sub (drop (i + 1) xs) ≡ false → has_address_twice (drop (i + 1) xs) ≡ false
    → has_address_twice (drop i xs) ≡ false
twice_unnamed xs i p e unnamed later = twice_not xs i p e (none_alike p (drop (i + 1) xs) unnamed) later

-- which sub-channels have a packet component, each at its number
abbrev pub Marks : List Bool → List Packet → Type 0
Marks named ps = (s : ℕ) → s < 64 → slice_index_or named s false ≡ is_named s ps

pub marks_none : (named : List Bool) (ps : List Packet) → named ≡ replicate 64 false → ps ≡ [] → Marks named ps
marks_none named ps e f s lt = rw (e, f) (get_or-replicate 64 s false false lt)

pub marks_one : (named : List Bool) (xs : List Packet) (i : ℕ) (p : Packet) → slice_get xs i ≡ Some p
    → length named ≡ 64 → p.sub < 64 → Marks named (drop (i + 1) xs)
    → Marks (slice_set named p.sub true) (drop i xs)
marks_one named xs i p e len lt marks s within = rw (cut xs i p e) (
    elim (eqb_tells s p.sub) [
      | inl same ↦ get_or-set_at named p.sub s true false same.1 (omega (arith, len, lt))
          ∙ ap (λ (t : Bool). t || is_named s (drop (i + 1) xs)) (sym same.0)
      | inr other ↦ get_or-set_other named p.sub s true false other.1 ∙ marks s within
          ∙ ap (λ (t : Bool). t || is_named s (drop (i + 1) xs)) (sym other.0)
    ])
