-- Hexadecimal digits and times, and their values.
use Rattle.script_tokens.proofs.Words.{[], ◌%◌, ◌*◌, ◌++◌, ◌+◌, ◌-◌, ◌/◌, ◌<◌, ◌∙◌, ◌∷◌, ◌≡◌, ◌≤◌, ◌⊎◌, List, ap, arith}
use Rattle.script_tokens.proofs.Words.{cases_lt, drop, drop_at, get_or, hex_byte, hex_digit, hex_long, hex_text, inl}
use Rattle.script_tokens.proofs.Words.{inr, le-ltb, length, lt-ltb, refl, sym, take, take_at, time_text, two_digits, ℕ}

pub low_digit : (b : ℕ) → 48 ≤ b → b ≤ 57 → b ≡ hex_digit (b - 48)
low_digit b from to = let lt : b - 48 < 10 = omega arith in rw (lt-ltb (b - 48) 10 lt) (omega arith)

pub high_digit : (b : ℕ) → 65 ≤ b → b ≤ 70 → b ≡ hex_digit (b - 65 + 10)
high_digit b from to = let ge : 10 ≤ b - 65 + 10 = omega arith in rw (le-ltb (b - 65 + 10) 10 ge) (omega arith)

pub two_hex : (high low d e : ℕ) → high ≡ hex_digit d → low ≡ hex_digit e → e < 16
    → high ∷ low ∷ [] ≡ hex_byte (d * 16 + e)
two_hex high low d e h l small =
    let f : (d * 16 + e) / 16 ≡ d = omega arith in
    let g : (d * 16 + e) % 16 ≡ e = omega arith in
    rw (f, g, h, l) refl

pub four_hex : (a b c d high low : ℕ) → a ∷ b ∷ [] ≡ hex_byte high → c ∷ d ∷ [] ≡ hex_byte low → low < 256
    → a ∷ b ∷ c ∷ d ∷ [] ≡ hex_text (high * 256 + low)
four_hex a b c d high low h l small =
    let f : (high * 256 + low) / 256 ≡ high = omega arith in
    let g : (high * 256 + low) % 256 ≡ low = omega arith in
    rw (f, g) (ap (λ (xs : List ℕ). xs ++ (c ∷ d ∷ [])) h ∙ ap (λ (xs : List ℕ). hex_byte high ++ xs) l)

pub eight_hex : (front back : List ℕ) (high low : ℕ) → front ≡ hex_text high → back ≡ hex_text low → low < 65536 → front
    ++ back ≡ hex_long (high * 65536 + low)
eight_hex front back high low x y small =
    let i : (high * 65536 + low) / 65536 ≡ high = omega arith in
    let j : (high * 65536 + low) % 65536 ≡ low = omega arith in
    rw (i, j) (ap (λ (xs : List ℕ). xs ++ back) x ∙ ap (λ (xs : List ℕ). hex_text high ++ xs) y)

pub two_decimal : (tens ones : ℕ) → 48 ≤ tens → tens ≤ 57 → 48 ≤ ones → ones ≤ 57
    → tens ∷ ones ∷ [] ≡ two_digits ((tens - 48) * 10 + (ones - 48))
two_decimal tens ones a b c d =
    let f : 48 + ((tens - 48) * 10 + (ones - 48)) / 10 ≡ tens = omega arith in
    let g : 48 + ((tens - 48) * 10 + (ones - 48)) % 10 ≡ ones = omega arith in
    rw (f, g) refl

pub a_time : (a b c d e f hours minutes seconds : ℕ) → a ∷ b ∷ [] ≡ two_digits hours → c ∷ d ∷ [] ≡ two_digits minutes
    → e ∷ f ∷ [] ≡ two_digits seconds → minutes < 60 → seconds < 60
    → a ∷ b ∷ 58 ∷ c ∷ d ∷ 58 ∷ e ∷ f ∷ [] ≡ time_text (hours * 3600 + minutes * 60 + seconds)
a_time a b c d e f hours minutes seconds h m s small less =
    let x : (hours * 3600 + minutes * 60 + seconds) / 3600 ≡ hours = omega arith in
    let y : (hours * 3600 + minutes * 60 + seconds) / 60 % 60 ≡ minutes = omega arith in
    let z : (hours * 3600 + minutes * 60 + seconds) % 60 ≡ seconds = omega arith in
    rw (x, y, z) (ap (λ (xs : List ℕ). xs ++ 58 ∷ c ∷ d ∷ 58 ∷ e ∷ f ∷ []) h
    ∙ ap (λ (xs : List ℕ). two_digits hours ++ 58 ∷ (xs ++ 58 ∷ e ∷ f ∷ [])) m
    ∙ ap (λ (xs : List ℕ). two_digits hours ++ 58 ∷ (two_digits minutes ++ 58 ∷ xs)) s)

-- a list of eight, element by element
pub eight_bytes : (xs : List ℕ) → 8 ≤ length xs → length xs < 9
    → xs ≡ get_or xs 0 0 ∷ get_or xs 1 0 ∷ get_or xs 2 0 ∷ get_or xs 3 0 ∷ get_or xs 4 0 ∷ get_or xs 5 0 ∷ get_or xs 6 0
    ∷ get_or xs 7 0 ∷ []
eight_bytes (a ∷ b ∷ c ∷ d ∷ e ∷ f ∷ g ∷ h ∷ []) low high = refl
eight_bytes _ low high = absurd (omega arith)

-- ---- atoms that are not such numbers

pub hex_range : (d : ℕ) → d < 16 → ((48 ≤ hex_digit d) × (hex_digit d ≤ 57)) ⊎ ((65 ≤ hex_digit d) × (hex_digit d ≤ 70))
hex_range d small = elim (cases_lt d 10) [
  | inl lt ↦ rw (lt-ltb d 10 lt) (inl (omega arith, omega arith))
  | inr ge ↦ rw (le-ltb d 10 ge) (inr (omega arith, omega arith))
]

pub no_digit : (b d : ℕ) → d < 16 → ((48 ≤ b) × (b ≤ 57) → ⊥) → ((65 ≤ b) × (b ≤ 70) → ⊥) → b ≡ hex_digit d → ⊥
no_digit b d small low high e = elim (hex_range d small) [
  | inl r ↦ low (omega (arith, e, r.0), omega (arith, e, r.1))
  | inr r ↦ high (omega (arith, e, r.0), omega (arith, e, r.1))
]

pub no_high : (high low n : ℕ) → ((d : ℕ) → d < 16 → high ≡ hex_digit d → ⊥) → n < 256 → high ∷ low ∷ [] ≡ hex_byte n
    → ⊥
no_high high low n none small e = none (n / 16) (omega arith) (ap (λ (xs : List ℕ). get_or xs 0 0) e)

pub no_low : (high low n : ℕ) → ((d : ℕ) → d < 16 → low ≡ hex_digit d → ⊥) → n < 256 → high ∷ low ∷ [] ≡ hex_byte n → ⊥
no_low high low n none small e = none (n % 16) (omega arith) (ap (λ (xs : List ℕ). get_or xs 1 0) e)

two_front : List ℕ → List ℕ
two_front xs = get_or xs 0 0 ∷ get_or xs 1 0 ∷ []

two_back : List ℕ → List ℕ
two_back xs = get_or xs 2 0 ∷ get_or xs 3 0 ∷ []

pub no_front : (a b c d n : ℕ) → ((m : ℕ) → m < 256 → a ∷ b ∷ [] ≡ hex_byte m → ⊥) → n < 65536
    → a ∷ b ∷ c ∷ d ∷ [] ≡ hex_text n → ⊥
unfolding two_front
no_front a b c d n none small e = none (n / 256) (omega arith) (ap two_front e)

pub no_back : (a b c d n : ℕ) → ((m : ℕ) → m < 256 → c ∷ d ∷ [] ≡ hex_byte m → ⊥) → n < 65536
    → a ∷ b ∷ c ∷ d ∷ [] ≡ hex_text n → ⊥
unfolding two_back
no_back a b c d n none small e = none (n % 256) (omega arith) (ap two_back e)

pub not_four : (atom : List ℕ) (n : ℕ) → atom ≡ hex_text n → length atom ≡ 4
not_four atom n e = ap length e

pub no_long_front : (front back : List ℕ) (n : ℕ) → length front ≡ 4 → ((m : ℕ) → m < 65536 → front ≡ hex_text m → ⊥)
    → n < 4294967296 → front ++ back ≡ hex_long n → ⊥
no_long_front front back n len none small e =
    none (n / 65536) (omega arith) (sym (take_at front back 4 len) ∙ ap (take 4) e)

pub no_long_back : (front back : List ℕ) (n : ℕ) → length front ≡ 4 → ((m : ℕ) → m < 65536 → back ≡ hex_text m → ⊥)
    → n < 4294967296 → front ++ back ≡ hex_long n → ⊥
no_long_back front back n len none small e =
    none (n % 65536) (omega arith) (sym (drop_at front back 4 len) ∙ ap (drop 4) e)
