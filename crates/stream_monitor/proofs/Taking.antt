-- What is taken of the bytes that are buffered.
use Rattle.stream_monitor.proofs.Words.{[], ◌++◌, ◌+◌, ◌-◌, ◌<◌, ◌∙◌, ◌∷◌, ◌≡◌, ◌≤◌, BeginsWith, Consumes, End, Gives}
use Rattle.stream_monitor.proofs.Words.{IsAtEnd, List, Next, None, Option, Part, Some, ap, append-nil, append_assoc}
use Rattle.stream_monitor.proofs.Words.{arith, cases_lt, drop, drop-drop, drop_all, inl, inr, length, length-drop}
use Rattle.stream_monitor.proofs.Words.{length-take-le, min, prepend_known, refl, subst, sym, take, take-append-drop}
use Rattle.stream_monitor.proofs.Words.{take_all, ℕ}
use Rattle.stream_monitor.specs.declared.fibs.Next.TheVariants.{Fib}

-- the front of what is buffered
pub front_consumed : (front rest : List ℕ) (behind : Option (List ℕ))
    → Consumes (prepend_known (front ++ rest) behind) (prepend_known rest behind) front
front_consumed front rest None = tt
front_consumed front rest (Some x) = append_assoc front rest x

none_left : (behind : Option (List ℕ)) → IsAtEnd behind → IsAtEnd (prepend_known [] behind)
none_left None e = tt
none_left (Some x) e = e

nothing_there : (xs : List ℕ) → length xs ≡ 0 → xs ≡ []
nothing_there [] e = refl
nothing_there (x ∷ xs) e = absurd (omega (arith, e))

-- these bytes begin so, and 32 of them are passed over, or all
pub taken : (bytes : List ℕ) (behind : Option (List ℕ)) (next : Next) → (length bytes < 32 → IsAtEnd behind)
    → BeginsWith bytes next
    → Gives (prepend_known bytes behind) (prepend_known (drop 32 bytes) behind) next
taken bytes behind (Fib fib) end h = (
  ap length h.1 ∙ length-take-le 32 bytes h.0,
  subst (λ (l : List ℕ). Consumes (prepend_known l behind) (prepend_known (drop 32 bytes) behind) fib)
      (ap (λ l. l ++ drop 32 bytes) h.1 ∙ take-append-drop 32 bytes) (front_consumed fib (drop 32 bytes) behind),
)
taken bytes behind Part end h =
    let none : drop 32 bytes ≡ [] = nothing_there (drop 32 bytes) (length-drop 32 bytes ∙ omega (arith, h.1)) in (
      bytes,
      h.0,
      h.1,
      subst (λ (l : List ℕ). Consumes (prepend_known l behind) (prepend_known (drop 32 bytes) behind) bytes)
          (ap (λ l. bytes ++ l) none ∙ append-nil bytes) (front_consumed bytes (drop 32 bytes) behind),
      subst (λ (l : List ℕ). IsAtEnd (prepend_known l behind)) (sym none) (none_left behind (end h.1)),
    )
taken bytes behind End end h =
    let none : drop 32 bytes ≡ [] = ap (drop 32) h in
    let few : length bytes < 32 = omega (arith, ap length h) in (
      subst (λ (l : List ℕ). Consumes (prepend_known l behind) (prepend_known (drop 32 bytes) behind) []) (none ∙ sym h)
          (front_consumed [] (drop 32 bytes) behind),
      subst (λ (l : List ℕ). IsAtEnd (prepend_known l behind)) (sym none) (none_left behind (end few)),
    )

-- the offset in a piece, up to its end
pub further : (at to : ℕ) (piece : List ℕ) → to ≡ min (length piece) (at + 32) → drop to piece ≡ drop 32 (drop at piece)
further at to piece is = elim (cases_lt (at + 32) (length piece)) [
  | inl lt ↦ let same : to ≡ at + 32 = omega (arith, is, lt) in
      ap (λ n. drop n piece) same ∙ sym (drop-drop 32 at piece)
  | inr ge ↦ let last : length piece ≤ to = omega (arith, is, ge) in
      drop_all to piece last ∙ sym (drop_all (at + 32) piece ge) ∙ sym (drop-drop 32 at piece)
]

-- the rest of a piece
pub rest_is : (at : ℕ) (piece shown : List ℕ) → shown ≡ piece → take (length shown - at) (drop at shown) ≡ drop at piece
rest_is at piece shown is = cc (take_all (length shown - at) (drop at shown) (omega (arith, length-drop at shown)), is)

pub takes : (at to : ℕ) (piece rest : List ℕ) (behind : Option (List ℕ)) (next : Next)
    → (length (drop at piece) < 32 → IsAtEnd behind) → rest ≡ drop at piece
    → to ≡ min (length piece) (at + 32) → BeginsWith rest next
    → Gives (prepend_known (drop at piece) behind) (prepend_known (drop to piece) behind) next
takes at to piece rest behind next end same is h =
    rw (further at to piece is) (taken (drop at piece) behind next end (rw (← same) h))
