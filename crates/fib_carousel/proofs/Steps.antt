-- A division read entry by entry.
use Rattle.fib_carousel.proofs.Words.{[], ◌+◌, ◌<◌, ◌∙◌, ◌∷◌, ◌≡◌, ◌≤◌, ◌⊎◌, FrameLayout, IsDivision, List, Marked}
use Rattle.fib_carousel.proofs.Words.{NeverFalls, None, Option, PackState, Some, ap, arith, cases_lt, cost}
use Rattle.fib_carousel.proofs.Words.{entries_in_fib, eq-eqb, extended, figs_size, head_of, inl, inr, length, ne_eqb}
use Rattle.fib_carousel.proofs.Words.{opened, refl, room, size_of, start, subst, sym, ℕ}

-- from state p on, each entry continues in its FIB or opens a later one
abbrev pub Goes : (layout : FrameLayout) → PackState → List Marked → List ℕ → Type 0
Goes layout p [] [] = Unit {0}
Goes layout p [] (m ∷ ms) = ⊥
Goes layout p (e ∷ es) [] = ⊥
Goes layout p (e ∷ es) (m ∷ ms) =
    ((m ≡ p.fib) × (p.used + cost p.head e ≤ room layout m) × Goes layout (extended e p) es ms)
    ⊎ ((p.fib < m) × (2 + size_of e ≤ room layout m) × Goes layout (opened e m) es ms)

-- what a division says from a state on
pub record Divides (layout : FrameLayout) (p : PackState) (es : List Marked) (ms : List ℕ) : Type 0 where
  pub each : length ms ≡ length es
  pub rising : NeverFalls p.fib ms
  pub here : p.used + figs_size p.head (entries_in_fib p.fib es ms) ≤ room layout p.fib
  pub later : (n : ℕ) → p.fib < n → figs_size None (entries_in_fib n es ms) ≤ room layout n

-- the first entry is in FIB n, or in another
pub in_fib_same : (n m : ℕ) (e : Marked) (es : List Marked) (ms : List ℕ) → m ≡ n
    → entries_in_fib n (e ∷ es) (m ∷ ms) ≡ e ∷ entries_in_fib n es ms
in_fib_same n m e es ms h = rw (eq-eqb m n h) refl

pub in_fib_other : (n m : ℕ) (e : Marked) (es : List Marked) (ms : List ℕ) → (m ≡ n → ⊥)
    → entries_in_fib n (e ∷ es) (m ∷ ms) ≡ entries_in_fib n es ms
in_fib_other n m e es ms h = rw (ne_eqb m n h) refl

-- if the numbers are past n, no entry is in FIB n
pub in_fib_past : (n k : ℕ) (es : List Marked) (ms : List ℕ) → n < k → NeverFalls k ms → entries_in_fib n es ms ≡ []
in_fib_past n k [] ms h r = refl
in_fib_past n k (e ∷ es) [] h r = refl
in_fib_past n k (e ∷ es) (m ∷ ms) h r = in_fib_other n m e es ms (λ q. omega (arith, h, q, r.0))
    ∙ in_fib_past n m es ms (omega (arith, h, r.0)) r.1

-- after a head, the FIGs of no entries take 0 bytes
pub figs_size_past : (h : Option _) (n k : ℕ) (es : List Marked) (ms : List ℕ) → n < k → NeverFalls k ms
    → figs_size h (entries_in_fib n es ms) ≡ 0
figs_size_past h n k es ms lt r = ap (λ xs. figs_size h xs) (in_fib_past n k es ms lt r)

pub goes_from : (layout : FrameLayout) (p : PackState) (es : List Marked) (ms : List ℕ) → Divides layout p es ms
    → Goes layout p es ms
goes_from layout p [] [] d = tt
goes_from layout p [] (m ∷ ms) d = absurd (omega (arith, d.each))
goes_from layout p (e ∷ es) [] d = absurd (omega (arith, d.each))
goes_from layout p (e ∷ es) (m ∷ ms) d =
    elim (cases_lt p.fib m) [
      | inl lt ↦
          let first : 2 + size_of e + figs_size (Some (head_of e)) (entries_in_fib m es ms) ≤ room layout m =
          subst (λ xs. figs_size None xs ≤ room layout m) (in_fib_same m m e es ms refl) (d.later m lt) in
          let more : Divides layout (opened e m) es ms = record {
            each = omega (arith, d.each);
            rising = d.rising.1;
            here = first;
            later = λ n h. subst (λ xs. figs_size None xs ≤ room layout n)
                (in_fib_other n m e es ms (λ q. omega (arith, h, q))) (d.later n (omega (arith, lt, h)));
          } in
          inr (lt, omega (arith, first), goes_from layout (opened e m) es ms more)
      | inr ge ↦
          let eq : m ≡ p.fib = omega (arith, ge, d.rising.0) in
          let first : p.used + (cost p.head e + figs_size (Some (head_of e)) (entries_in_fib p.fib es ms))
          ≤ room layout p.fib =
          subst (λ xs. p.used + figs_size p.head xs ≤ room layout p.fib) (in_fib_same p.fib m e es ms eq) d.here in
          let more : Divides layout (extended e p) es ms = record {
            each = omega (arith, d.each);
            rising = subst (λ k. NeverFalls k ms) eq d.rising.1;
            here = omega (arith, first);
            later = λ n h. subst (λ xs. figs_size None xs ≤ room layout n)
                (in_fib_other n m e es ms (λ q. omega (arith, h, q, eq))) (d.later n h);
          } in
          let fits : p.used + cost p.head e ≤ room layout p.fib = omega (arith, first) in
          inl (
            eq,
            subst (λ k. p.used + cost p.head e ≤ room layout k) (sym eq) fits,
            goes_from layout (extended e p) es ms more,
          )
    ]

pub divides_from : (layout : FrameLayout) (p : PackState) (es : List Marked) (ms : List ℕ) → p.used ≤ room layout p.fib
    → Goes layout p es ms → Divides layout p es ms
divides_from layout p [] [] u g =
    record { each = refl; rising = tt; here = omega (arith, u); later = λ n h. omega arith }
divides_from layout p [] (m ∷ ms) u g = absurd g
divides_from layout p (e ∷ es) [] u g = absurd g
divides_from layout p (e ∷ es) (m ∷ ms) u g =
    elim g [
      | inl s ↦
          let fits = subst (λ k. p.used + cost p.head e ≤ room layout k) s.0 s.1 in
          let d : Divides layout (extended e p) es ms = divides_from layout (extended e p) es ms fits s.2 in
          let tail = d.here in
          record {
            each = omega (arith, d.each);
            rising = (omega (arith, s.0), subst (λ k. NeverFalls k ms) (sym s.0) d.rising);
            here = rw (in_fib_same p.fib m e es ms s.0) (omega (arith, tail));
            later = λ n h. rw (in_fib_other n m e es ms (λ q. omega (arith, h, q, s.0))) (d.later n h);
          }
      | inr s ↦
          let d : Divides layout (opened e m) es ms = divides_from layout (opened e m) es ms s.1 s.2 in
          let tail : 2 + size_of e + figs_size (Some (head_of e)) (entries_in_fib m es ms) ≤ room layout m = d.here in
          let none = figs_size_past p.head p.fib m es ms s.0 d.rising in
          let none_first : figs_size p.head (entries_in_fib p.fib (e ∷ es) (m ∷ ms)) ≡ 0 =
          ap (λ xs. figs_size p.head xs) (in_fib_other p.fib m e es ms (λ q. omega (arith, q, s.0))) ∙ none in
          record {
            each = omega (arith, d.each);
            rising = (omega (arith, s.0), d.rising);
            here = omega (arith, none_first, u);
            later = λ n h.
                elim (cases_lt m n) [
                  | inl lt ↦ subst (λ xs. figs_size None xs ≤ room layout n)
                      (sym (in_fib_other n m e es ms (λ q. omega (arith, lt, q)))) (d.later n lt)
                  | inr ge ↦
                      elim (cases_lt n m) [
                        | inl below ↦
                            let empty : figs_size None (entries_in_fib n (e ∷ es) (m ∷ ms)) ≡ 0 =
                            ap (λ xs. figs_size None xs) (in_fib_other n m e es ms (λ q. omega (arith, q, below)))
                            ∙ figs_size_past None n m es ms below d.rising in
                            omega (arith, empty)
                        | inr above ↦
                            let same : m ≡ n = omega (arith, ge, above) in
                            subst (λ k. figs_size None (entries_in_fib k (e ∷ es) (m ∷ ms)) ≤ room layout k) same
                            (subst (λ xs. figs_size None xs ≤ room layout m) (sym (in_fib_same m m e es ms refl)) tail)
                      ]
                ];
          }
    ]

-- a whole division is one from the start, with the first FIB opened by its first entry
pub goes_all : (layout : FrameLayout) (es : List Marked) (ms : List ℕ) → IsDivision layout es ms
    → Goes layout start es ms
goes_all layout es ms d = goes_from layout start es ms (record {
  each = d.each;
  rising = d.rising;
  here = let first : figs_size None (entries_in_fib 0 es ms) ≤ room layout 0 = d.fits 0 in omega (arith, first);
  later = λ n h. d.fits n;
})

pub division_from : (layout : FrameLayout) (es : List Marked) (ms : List ℕ) → Goes layout start es ms
    → IsDivision layout es ms
division_from layout es ms g =
    let d : Divides layout start es ms = divides_from layout start es ms (omega arith) g in
    record {
      each = d.each;
      rising = d.rising;
      fits = λ n.
          elim (cases_lt 0 n) [
            | inl lt ↦ d.later n lt
            | inr ge ↦
                let first_fits : figs_size None (entries_in_fib 0 es ms) ≤ room layout 0 = omega (arith, d.here) in
                subst (λ k. figs_size None (entries_in_fib k es ms) ≤ room layout k) (omega (arith, ge)) first_fits
          ];
    }
