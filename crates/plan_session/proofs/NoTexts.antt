-- Bytes that no text begins with: whole characters, and behind them four bytes with which none begins.
use Rattle.plan_session.proofs.Words.{[], ◌++◌, ◌+◌, ◌-◌, ◌<◌, ◌∙◌, ◌∷◌, ◌≡◌, ◌≤◌, Consumes, IfSome, IsUtf8}
use Rattle.plan_session.proofs.Words.{IsValidUpTo, List, None, Option, Some, all_scalars, and_parts, ap, append_assoc}
use Rattle.plan_session.proofs.Words.{arith, drop, drop-append_seam, encode_utf8_all, length, length-append, refl}
use Rattle.plan_session.proofs.Words.{subst, sym, take, take-add, take-append_seam, true, ℕ}
use Rattle.std.proofs.lemmas.List.{take-append-le, take-append-drop, length-drop}
use Rattle.std.proofs.lemmas.Str.{IsUtf8-append, IsUtf8-drop, IsUtf8-encode, IsCharBoundary-from_take, length-encode}
use Rattle.std.proofs.lemmas.Str.{len_utf8_bounds}
use Rattle.std.specs.Char.{encode_utf8}
use lib.Utf8.{scalar}

-- no prefix of these bytes is UTF-8, other than the empty one
abbrev HaveNoCharacter : List ℕ → Type 0
HaveNoCharacter begun = (n : ℕ) → 0 < n → n ≤ length begun → IsUtf8 (take n begun) → ⊥

-- a text without a text at its front is a text
behind_text : (xs ys : List ℕ) → IsUtf8 (xs ++ ys) → IsUtf8 xs → IsUtf8 ys
behind_text xs ys u v =
    let front : IsUtf8 (take (length xs) (xs ++ ys)) = subst IsUtf8 (sym (take-append_seam xs ys)) v in
    let seam = IsCharBoundary-from_take (xs ++ ys) (length xs) u (omega (arith, length-append xs ys)) front in
    subst IsUtf8 (drop-append_seam xs ys) (IsUtf8-drop (xs ++ ys) (length xs) u seam)

first_char : (begun rest : List ℕ) (c : ℕ) (cs : List ℕ) → HaveNoCharacter begun → 4 ≤ length begun → scalar c ≡ true
    → encode_utf8 c ++ encode_utf8_all cs ≡ begun ++ rest → ⊥
first_char begun rest c cs none long s e =
    let n : ℕ = length (encode_utf8 c) in
    let bounds = len_utf8_bounds c in
    let within : n ≤ length begun = omega (arith, length-encode c, bounds.1, long) in
    let same : encode_utf8 c ≡ take n begun =
    cc (take-append_seam (encode_utf8 c) (encode_utf8_all cs), e, take-append-le n begun rest within) in
    none n (omega (arith, length-encode c, bounds.0)) within (subst IsUtf8 same (IsUtf8-encode c s))

no_text_of : (begun rest cs : List ℕ) → HaveNoCharacter begun → 4 ≤ length begun → all_scalars cs ≡ true
    → encode_utf8_all cs ≡ begun ++ rest → ⊥
no_text_of begun rest [] none long s e =
    omega (arith, length-append begun rest, ap (λ (l : List ℕ). length l) e, long)
no_text_of begun rest (c ∷ cs) none long s e =
    first_char begun rest c cs none long (and_parts (scalar c) (all_scalars cs) s).0 e

-- no text begins with four bytes of which no prefix is a character
no_text : (begun rest : List ℕ) → HaveNoCharacter begun → 4 ≤ length begun → IsUtf8 (begun ++ rest) → ⊥
no_text begun rest none long u = no_text_of begun rest u.0 none long u.1.0 u.1.1

-- the longest front of these bytes that is a text leaves four bytes or more
pub no_text_begins : (bytes : List ℕ) (n : ℕ) → IsValidUpTo bytes n → 4 ≤ length bytes - n → (rest : List ℕ)
    → IsUtf8 (bytes ++ rest) → ⊥
no_text_begins bytes n h long rest u =
    let front : List ℕ = take n bytes in
    let begun : List ℕ = drop n bytes in
    let whole : front ++ begun ≡ bytes = take-append-drop n bytes in
    let none : HaveNoCharacter begun = λ k some most v.
    h.longest (n + k) (omega (arith, some))
    (subst IsUtf8 (sym (take-add n k bytes)) (IsUtf8-append front (take k begun) h.front v)) in
    let all = subst IsUtf8 (sym (ap (λ (l : List ℕ). l ++ rest) whole) ∙ append_assoc front begun rest) u in
    no_text begun rest none (omega (arith, long, length-drop n bytes)) (behind_text front (begun ++ rest) all h.front)

pub nothing : (l : List ℕ) → length l ≡ 0 → l ≡ []
nothing [] e = refl
nothing (b ∷ bs) e = absurd (omega (arith, e))

-- no text continues with this piece
pub no_text_so : (before mid after : Option (List ℕ)) (seen piece : List ℕ) → Consumes before mid seen
    → Consumes mid after piece → ((rest : List ℕ) → IsUtf8 (seen ++ (piece ++ rest)) → ⊥)
    → IfSome before (λ whole. IsUtf8 whole → ⊥)
no_text_so None mid after seen piece p q none = tt
no_text_so (Some x) None after seen piece p q none = absurd p
no_text_so (Some x) (Some y) None seen piece p q none = absurd q
no_text_so (Some x) (Some y) (Some z) seen piece p q none =
    λ u. none z (subst IsUtf8 (p ∙ ap (λ (l : List ℕ). seen ++ l) q) u)
