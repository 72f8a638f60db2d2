-- A buffer filled from the front: bytes read into its rest follow those before them.
use Rattle.std.proofs.Common.{◌≡◌, ℕ, ◌+◌, ◌-◌, ◌≤◌, List, ◌++◌, Option, None, Some, arith, length, take, drop}
use Rattle.std.proofs.Common.{slice_range, refl, sym, ap, ◌∙◌, subst, le_refl, drop_at, length-take-le, append_assoc}
use Rattle.std.proofs.lemmas.Slice.{take-put_mid_below}
use Rattle.std.specs.Io.KnownBytes.{Consumes, Keeps, IsAtEnd, prepend_known}
use Rattle.std.proofs.KnownBytes.{Consumes-trans}
use borrow.Rule.Slice.PartMut.{put_mid, post_of}
use lib.Seq.{take-add, take-append-le, take-append_seam}

take_split : (a b : ℕ) (old new : List ℕ) → a ≤ b → take a new ≡ take a old → take a old
    ++ slice_range new a b ≡ take b new
take_split a b old new h front =
    let same : a + (b - a) ≡ b = omega arith in
    ap (λ l. l ++ slice_range new a b) (sym front) ∙ sym (take-add a (b - a) new) ∙ ap (λ n. take n new) same

slice_range-put_mid : (a k n : ℕ) (xs ys : List ℕ) → a ≤ length xs → n ≤ length ys
    → slice_range (put_mid a k xs ys) a (a + n) ≡ take n ys
slice_range-put_mid a k n xs ys within fits =
    let same : (a + n) - a ≡ n = omega arith in
    let after = post_of a k xs in
    ap (take ((a + n) - a)) (drop_at (take a xs) (ys ++ after) a (length-take-le a xs within))
    ∙ ap (λ m. take m (ys ++ after)) same ∙ take-append-le n ys after fits

-- some more bytes
pub filled_more : (a b c : Option (List ℕ)) (at room n : ℕ) (buffer part : List ℕ) → at ≤ length buffer
    → n ≤ length part → Consumes a b (take at buffer) → Consumes b c (take n part)
    → Consumes a c (take (at + n) (put_mid at room buffer part))
filled_more a b c at room n buffer part within fits before read =
    let some = slice_range-put_mid at room n buffer part within fits in
    let joined = take_split at (at + n) buffer (put_mid at room buffer part) (omega arith)
    (take-put_mid_below _ _ _ _ _ (le_refl _) within) in
    subst (Consumes a c) (ap (λ l. take at buffer ++ l) (sym some) ∙ joined) (Consumes-trans a b c _ _ before read)

-- before the first piece nothing is kept
pub none_kept : (left : Option (List ℕ)) (buffer : List ℕ) → Keeps left (prepend_known (slice_range buffer 0 0) left)
none_kept None buffer = tt
none_kept (Some xs) buffer = refl

-- a piece, and the bytes that are kept behind it
pub handed : (before left : Option (List ℕ)) (buffer : List ℕ) (len filled : ℕ) → len ≤ filled
    → Consumes before left (take filled buffer) → Consumes before (prepend_known (slice_range buffer len filled) left)
    (take len buffer)
handed None left buffer len filled le h = tt
handed (Some xs) None buffer len filled le h = absurd h
handed (Some xs) (Some ys) buffer len filled le h =
    let same : len + (filled - len) ≡ filled = omega (arith, le) in
    let cut : take filled buffer ≡ take len buffer ++ slice_range buffer len filled =
    ap (λ n. take n buffer) (sym same) ∙ take-add len (filled - len) buffer in
    h ∙ ap (λ l. l ++ ys) cut ∙ append_assoc (take len buffer) (slice_range buffer len filled) ys

-- nothing is kept at the end
pub none_behind : (left : Option (List ℕ)) (buffer : List ℕ) (n : ℕ) → IsAtEnd left
    → IsAtEnd (prepend_known (slice_range buffer n n) left)
none_behind None buffer n h = tt
none_behind (Some xs) buffer n h =
    let none : n - n ≡ 0 = omega arith in
    ap (λ k. take k (drop n buffer) ++ xs) none ∙ h

-- a buffer that was written as a whole
pub whole_again : (n : ℕ) (new old : List ℕ) → length new ≡ n → take n (new ++ drop (length new) old) ≡ new
whole_again n new old e = ap (λ k. take k (new ++ drop (length new) old)) (sym e)
    ∙ take-append_seam new (drop (length new) old)
