-- Atoms that are not names, profiles, times or decimals in range.
use Rattle.script_tokens.proofs.Words.{[], ◌%◌, ◌*◌, ◌+◌, ◌/◌, ◌<◌, ◌∙◌, ◌∷◌, ◌≡◌, ◌≢◌, ◌≤◌, ◌⊎◌, A, B, BeginsWith}
use Rattle.script_tokens.proofs.Words.{EepSet, Err, IsName, List, Ok, OnErr, Profile, Result, Spelled, ap, arith}
use Rattle.script_tokens.proofs.Words.{decimal, decimal_injective, false, false≢true, get_or, inl, inr, is_ascii_digit}
use Rattle.script_tokens.proofs.Words.{length, nat_tests, profile_text, refl, set_letter, subst, sym, time_text, true}
use Rattle.script_tokens.proofs.Words.{two_digits, ℕ}

-- ---- the first of two lists

first_is : (v w : List ℕ) (vs ws : Spelled) → v ∷ vs ≡ w ∷ ws → v ≡ w
first_is v w vs ws e = cc

pub no_name : (lexemes : Spelled) (w : List ℕ) → BeginsWith lexemes w → (IsName w → ⊥)
    → (name : List ℕ) (rest : Spelled) → IsName name → lexemes ≢ name ∷ rest
no_name lexemes w h none name rest is e = none (subst IsName (first_is _ _ _ _ (sym e ∙ h.begins)) is)

pub same_decimal : (lexemes : Spelled) (m n : ℕ) (xs ys : Spelled) → m < 1000000000 → n < 1000000000
    → lexemes ≡ decimal m ∷ xs → lexemes ≡ decimal n ∷ ys → m ≡ n
same_decimal lexemes m n xs ys a b e f =
    decimal_injective m n (omega arith) (omega arith) (first_is (decimal m) (decimal n) xs ys (sym e ∙ f))

-- ---- profiles

pub profile_length : (atom : List ℕ) (p : Profile) → atom ≡ profile_text p → length atom ≡ 3
profile_length atom p e = ap length e

pub profile_level : (atom : List ℕ) (p : Profile) → atom ≡ profile_text p → get_or atom 0 0 ≡ 48 + p.level
profile_level atom p e = ap (λ (xs : List ℕ). get_or xs 0 0) e

pub profile_dash : (atom : List ℕ) (p : Profile) → atom ≡ profile_text p → get_or atom 1 0 ≡ 45
profile_dash atom p e = ap (λ (xs : List ℕ). get_or xs 1 0) e

set_is : (s : EepSet) → (set_letter s ≡ 65) ⊎ (set_letter s ≡ 66)
set_is A = inl refl
set_is B = inr refl

pub profile_set : (atom : List ℕ) (p : Profile) → atom ≡ profile_text p → (get_or atom 2 0 ≡ 65)
    ⊎ (get_or atom 2 0 ≡ 66)
profile_set atom p e = let f : get_or atom 2 0 ≡ set_letter p.set = ap (λ (xs : List ℕ). get_or xs 2 0) e in
    elim (set_is p.set) [ inl g ↦ inl (f ∙ g) | inr g ↦ inr (f ∙ g) ]

-- ---- times

ascii_digit : (b : ℕ) → 48 ≤ b → b ≤ 57 → is_ascii_digit b ≡ true
ascii_digit b low high = grind (arith, nat_tests)

pub no_tens : (tens ones n : ℕ) → is_ascii_digit tens ≡ false → n < 100 → tens ∷ ones ∷ [] ≡ two_digits n → ⊥
no_tens tens ones n bad small e =
    let is : tens ≡ 48 + n / 10 = ap (λ (xs : List ℕ). get_or xs 0 0) e in
    false≢true (sym bad ∙ ascii_digit tens (omega (arith, is)) (omega (arith, is)))

pub no_ones : (tens ones n : ℕ) → is_ascii_digit ones ≡ false → n < 100 → tens ∷ ones ∷ [] ≡ two_digits n → ⊥
no_ones tens ones n bad small e =
    let is : ones ≡ 48 + n % 10 = ap (λ (xs : List ℕ). get_or xs 1 0) e in
    false≢true (sym bad ∙ ascii_digit ones (omega (arith, is)) (omega (arith, is)))

two_injective : (a b m n : ℕ) → m < 100 → n < 100 → a ∷ b ∷ [] ≡ two_digits m → a ∷ b ∷ [] ≡ two_digits n → m ≡ n
two_injective a b m n s t e f =
    omega (arith, ap (λ (xs : List ℕ). get_or xs 0 0) (sym e ∙ f), ap (λ (xs : List ℕ). get_or xs 1 0) (sym e ∙ f))

-- the digits of a time
pub record HasTime (a b c d e f t : ℕ) : Type 0 where
  pub hours : a ∷ b ∷ [] ≡ two_digits (t / 3600)
  pub minutes : c ∷ d ∷ [] ≡ two_digits (t / 60 % 60)
  pub seconds : e ∷ f ∷ [] ≡ two_digits (t % 60)

pub time_parts : (atom : List ℕ) (t : ℕ) → atom ≡ time_text t
    → HasTime (get_or atom 0 0) (get_or atom 1 0) (get_or atom 3 0) (get_or atom 4 0) (get_or atom 6 0)
    (get_or atom 7 0) t
time_parts atom t is = record {
  hours = ap (λ (xs : List ℕ). get_or xs 0 0 ∷ get_or xs 1 0 ∷ []) is;
  minutes = ap (λ (xs : List ℕ). get_or xs 3 0 ∷ get_or xs 4 0 ∷ []) is;
  seconds = ap (λ (xs : List ℕ). get_or xs 6 0 ∷ get_or xs 7 0 ∷ []) is;
}

pub time_length : (atom : List ℕ) (t : ℕ) → atom ≡ time_text t → length atom ≡ 8
time_length atom t e = ap length e

pub first_colon : (atom : List ℕ) (t : ℕ) → atom ≡ time_text t → get_or atom 2 0 ≡ 58
first_colon atom t e = ap (λ (xs : List ℕ). get_or xs 2 0) e

pub second_colon : (atom : List ℕ) (t : ℕ) → atom ≡ time_text t → get_or atom 5 0 ≡ 58
second_colon atom t e = ap (λ (xs : List ℕ). get_or xs 5 0) e

pub no_hours : (atom : List ℕ) (t : ℕ) → t < 86400
    → ((n : ℕ) → n < 100 → get_or atom 0 0 ∷ get_or atom 1 0 ∷ [] ≢ two_digits n) → atom ≢ time_text t
no_hours atom t small none e = none (t / 3600) (omega arith) (time_parts atom t e).hours

pub no_minutes : (atom : List ℕ) (t : ℕ) → t < 86400
    → ((n : ℕ) → n < 100 → get_or atom 3 0 ∷ get_or atom 4 0 ∷ [] ≢ two_digits n) → atom ≢ time_text t
no_minutes atom t small none e = none (t / 60 % 60) (omega arith) (time_parts atom t e).minutes

pub no_seconds : (atom : List ℕ) (t : ℕ) → t < 86400
    → ((n : ℕ) → n < 100 → get_or atom 6 0 ∷ get_or atom 7 0 ∷ [] ≢ two_digits n) → atom ≢ time_text t
no_seconds atom t small none e = none (t % 60) (omega arith) (time_parts atom t e).seconds

pub more_minutes : (atom : List ℕ) (t n : ℕ) → n < 100 → 59 < n → get_or atom 3 0 ∷ get_or atom 4 0 ∷ [] ≡ two_digits n
    → t < 86400 → atom ≢ time_text t
more_minutes atom t n small more is low e = let same =
    two_injective _ _ n (t / 60 % 60) small (omega arith) is (time_parts atom t e).minutes in omega (arith, same, more)

pub more_seconds : (atom : List ℕ) (t n : ℕ) → n < 100 → 59 < n → get_or atom 6 0 ∷ get_or atom 7 0 ∷ [] ≡ two_digits n
    → t < 86400 → atom ≢ time_text t
more_seconds atom t n small more is low e = let same =
    two_injective _ _ n (t % 60) small (omega arith) is (time_parts atom t e).seconds in omega (arith, same, more)

pub more_hours : (atom : List ℕ) (t h m s : ℕ) → h < 100 → m < 60 → s < 60 → 86400 ≤ h * 3600 + m * 60 + s
    → get_or atom 0 0 ∷ get_or atom 1 0 ∷ [] ≡ two_digits h → t < 86400 → atom ≢ time_text t
more_hours atom t h m s a b c more is low e = let same =
    two_injective _ _ h (t / 3600) a (omega arith) is (time_parts atom t e).hours in omega (arith, same, more)

-- ---- decimals

pub decimal_below : (lexemes : Spelled) (m n low : ℕ) (xs ys : Spelled) → m < 1000000000 → n < 1000000000 → m < low
    → low ≤ n → lexemes ≡ decimal m ∷ xs → lexemes ≡ decimal n ∷ ys → ⊥
decimal_below lexemes m n low xs ys a b less from e f = let same = same_decimal lexemes m n xs ys a b e f in
    omega (arith, same, less, from)

pub decimal_above : (lexemes : Spelled) (m n high : ℕ) (xs ys : Spelled) → m < 1000000000 → n < 1000000000 → high < m
    → n ≤ high → lexemes ≡ decimal m ∷ xs → lexemes ≡ decimal n ∷ ys → ⊥
decimal_above lexemes m n high xs ys a b more to e f = let same = same_decimal lexemes m n xs ys a b e f in
    omega (arith, same, more, to)

-- what holds whatever the result is
pub told : {X E T : Type 0} (r : Result X E) → T → OnErr r T
told (Ok x) t = tt
told (Err e) t = t
