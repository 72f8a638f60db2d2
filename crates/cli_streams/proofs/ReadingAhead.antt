-- Bytes that are buffered ahead of a source.
use Rattle.cli_streams.proofs.Words.{◌++◌, ◌+◌, ◌-◌, ◌∙◌, ◌≡◌, ◌≤◌, Buffered, Consumes, Keeps, Keeps-refl, List}
use Rattle.cli_streams.proofs.Words.{None, Option, Some, ap, append_assoc, arith, drop, drop-take, left_of, length}
use Rattle.cli_streams.proofs.Words.{length-take, prepend_known, slice_range, subst, sym, take, take-append-drop, ℕ}
use lib.Seq.{drop-drop}

-- the buffered bytes behind the first ones
pub later : (a k b : ℕ) (xs : List ℕ) → k ≤ length (slice_range xs a b)
    → slice_range xs (a + k) b ≡ drop k (slice_range xs a b)
later a k b xs within =
    let most = length-take (b - a) (drop a xs) in
    let rest : b - a ≡ k + (b - (a + k)) = omega (arith, within, most) in
    ap (take (b - (a + k))) (sym (drop-drop k a xs))
    ∙ sym (drop-take k (b - (a + k)) (drop a xs))
    ∙ sym (ap (λ n. drop k (take n (drop a xs))) rest)

-- the first of them are passed over
pub passed : (before behind : Option (List ℕ)) (ahead : List ℕ) (n : ℕ) → Keeps before (prepend_known ahead behind)
    → Consumes before (prepend_known (drop n ahead) behind) (take n ahead)
passed None behind ahead n kept = tt
passed (Some x) None ahead n kept = absurd kept
passed (Some x) (Some y) ahead n kept =
    sym kept ∙ ap (λ l. l ++ y) (sym (take-append-drop n ahead)) ∙ append_assoc (take n ahead) (drop n ahead) y

-- what is passed over of what is buffered
pub passed_over : (old new : Buffered) (n : ℕ) → new.ahead ≡ drop n old.ahead → new.behind ≡ old.behind
    → (part : List ℕ) × Consumes (left_of old) (left_of new) part
passed_over old new n ahead behind =
    let left : left_of new ≡ prepend_known (drop n old.ahead) old.behind =
    ap (λ l. prepend_known l new.behind) ahead ∙ ap (prepend_known (drop n old.ahead)) behind in (
      take n old.ahead,
      subst (λ (x : Option (List ℕ)). Consumes (left_of old) x (take n old.ahead)) (sym left)
          (passed (left_of old) old.behind old.ahead n (Keeps-refl (left_of old))),
    )
