-- Entries that agree are equal.
use Rattle.stream_check.proofs.Words.{◌&&◌, ◌==◌, ◌↔◌, ◌∙◌, ◌≡◌, Bool, IsTrue, Raw, agree, ap, bool_eq, bytes_eq}
use Rattle.stream_check.proofs.Words.{eq-eqb, eqb-true, false, false≢true, refl, sym, true}
use Rattle.std.proofs.lemmas.Slice.Eq.{bytes_eq-Decides}

both : (a b : Bool) → (a && b) ≡ true → (a ≡ true) × (b ≡ true)
both true b h = (refl, h)
both false b h = absurd cc

and_true : (a b : Bool) → a ≡ true → b ≡ true → (a && b) ≡ true
and_true true b h k = k
and_true false b h k = absurd cc

bools : (a b : Bool) → bool_eq a b ≡ true → a ≡ b
bools true true h = refl
bools true false h = absurd cc
bools false true h = absurd cc
bools false false h = refl

same_bool : (a : Bool) → bool_eq a a ≡ true
same_bool true = refl
same_bool false = refl

pub agree_self : (a : Raw) → agree a a ≡ true
agree_self a =
    and_true (a.ext == a.ext) (bool_eq a.long a.long && bytes_eq a.bytes a.bytes) (eq-eqb a.ext a.ext refl)
    (and_true (bool_eq a.long a.long) (bytes_eq a.bytes a.bytes) (same_bool a.long)
    ((bytes_eq-Decides a.bytes a.bytes).1 refl))

pub agree_same : (a b : Raw) → agree a b ≡ true → a ≡ b
agree_same a b h =
    let one = both (a.ext == b.ext) (bool_eq a.long b.long && bytes_eq a.bytes b.bytes) h in
    let two = both (bool_eq a.long b.long) (bytes_eq a.bytes b.bytes) one.1 in
    rw ((eqb-true a.ext b.ext one.0), (bools a.long b.long two.0), ((bytes_eq-Decides a.bytes b.bytes).0 two.1)) refl

-- a test of equality decides whether entries agree
pub agree_where : (b : Bool) (x y : Raw) → (IsTrue b ↔ (x ≡ y)) → b ≡ agree x y
agree_where true x y h = sym (ap (λ z. agree x z) (sym (h.0 refl)) ∙ agree_self x)
agree_where false x y h = elim (agree x y) as (λ t. agree x y ≡ t → false ≡ t) [
  | true ↦ λ e. absurd (false≢true (h.1 (agree_same x y e)))
  | false ↦ λ e. refl
] refl
