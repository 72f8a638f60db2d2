-- The bytes of a decimal, and its value.
use Rattle.script_tokens.proofs.Words.{[], ◌*◌, ◌+◌, ◌-◌, ◌<◌, ◌==◌, ◌^◌, ◌∙◌, ◌∷◌, ◌≡◌, ◌≤◌, List, add-one}
use Rattle.script_tokens.proofs.Words.{all_ascii_digits, ap, arith, decimal, decimal-digits_value, decimal_nonempty}
use Rattle.script_tokens.proofs.Words.{digits_decimal, drop, drop-cons, drop_all, false, false≢true, first_decimal}
use Rattle.script_tokens.proofs.Words.{get_or, is_ascii_digit, length, length-decimal-le, nat_tests, pow-le-pow_right}
use Rattle.script_tokens.proofs.Words.{pow-succ', refl, rules, subst, suc, sym, true, zero, ℕ}
use Rattle.std.proofs.lemmas.Str.Parse.{IsNumeralModel, numerals_by_fold, digits_value_short}

abbrev pub read_on : ℕ → List ℕ → ℕ
read_on n [] = n
read_on n (c ∷ cs) = read_on (n * 10 + (c - 48)) cs

pub own : IsNumeralModel (λ ds. all_ascii_digits ds ≡ true) (read_on 0)
own = numerals_by_fold _ (search rules) read_on (search rules)

cut : (bs : List ℕ) (i : ℕ) → i < length bs → drop i bs ≡ get_or bs i 0 ∷ drop (i + 1) bs
cut bs i lt = rw (add-one, drop-cons bs i 0 lt) refl

-- the loop's state: the value so far, and whether the remaining bytes are digits
pub record Reading (bs : List ℕ) (i v : ℕ) : Type 0 where
  pub value : read_on v (drop i bs) ≡ read_on 0 bs
  pub digits : all_ascii_digits (drop i bs) ≡ all_ascii_digits bs
  pub small : v < 10 ^ i

pub no_digit : (bs : List ℕ) (i v : ℕ) → i < length bs → is_ascii_digit (get_or bs i 0) ≡ false → Reading bs i v
    → (n : ℕ) → n < 1000000000 → bs ≡ decimal n → ⊥
no_digit bs i v lt bad h n small e =
    let all = subst (λ (ds : List ℕ). all_ascii_digits ds ≡ true) (sym e) (digits_decimal own n (omega arith)) in
    false≢true (sym (sym h.digits ∙ rw (cut bs i lt, bad) refl) ∙ all)

pub reads_on : (bs : List ℕ) (i v b : ℕ) → i < length bs → b ≡ get_or bs i 0 → is_ascii_digit b ≡ true → 48 ≤ b → b ≤ 57
    → Reading bs i v → Reading bs (i + 1) (v * 10 + (b - 48))
reads_on bs i v b lt is good low high h = record {
  value = (let e = cut bs i lt in rw (is) (ap (read_on v) (sym e) ∙ h.value));
  digits = (let e = cut bs i lt in let more : all_ascii_digits (drop i bs)
      ≡ all_ascii_digits (drop (i + 1) bs) = rw (e, ← is, good) refl in sym more ∙ h.digits);
  small = (let e : 10 ^ (i + 1) ≡ 10 * 10 ^ i = rw (add-one, pow-succ' 10 i) refl in let less = h.small in
      omega (arith, e, less));
}

pub read_all : (bs : List ℕ) (i v : ℕ) → length bs ≤ i → 0 < length bs → length bs ≤ 9
    → (get_or bs 0 0 ≡ 48 → length bs ≡ 1) → Reading bs i v → bs ≡ decimal v
read_all bs i v long some short first h =
    let end : drop i bs ≡ [] = drop_all i bs long in
    let is : v ≡ read_on 0 bs = ap (read_on v) (sym end) ∙ h.value in
    let all : all_ascii_digits bs ≡ true = sym h.digits ∙ ap all_ascii_digits end in
    let small : read_on 0 bs < 10 ^ 9 = digits_value_short own bs 9 all short in
    sym (decimal-digits_value own bs all some first (omega (arith, small))) ∙ ap decimal (sym is)

pub value_small : (bs : List ℕ) (i v : ℕ) → i < length bs → length bs ≤ 9 → Reading bs i v → v < 100000000
value_small bs i v lt short h =
    omega (arith, pow-le-pow_right {n = 10} (omega arith) {i = i} {j = 8} (omega arith))

value_end : (bs : List ℕ) (i v : ℕ) → length bs ≤ i → length bs ≤ 9 → Reading bs i v → v < 1000000000
value_end bs i v long short h =
    let end : drop i bs ≡ [] = drop_all i bs long in
    let all : all_ascii_digits bs ≡ true = sym h.digits ∙ ap all_ascii_digits end in
    omega (arith, digits_value_short own bs 9 all short, ap (read_on v) (sym end) ∙ h.value)

pub too_long : (bs : List ℕ) → 9 < length bs → (n : ℕ) → n < 1000000000 → bs ≡ decimal n → ⊥
too_long bs long n small e = let le = length-decimal-le 9 n (omega arith) (omega arith) (omega arith) in let f =
    ap length e in omega (arith, le, f)

pub empty : (bs : List ℕ) → length bs ≡ 0 → (n : ℕ) → n < 1000000000 → bs ≡ decimal n → ⊥
empty bs none n small e = let some = decimal_nonempty n (omega arith) in let f = ap length e in
    omega (arith, some, f, none)

pub zero_first : (bs : List ℕ) → get_or bs 0 0 ≡ 48 → 1 < length bs → (n : ℕ) → n < 1000000000 → bs ≡ decimal n → ⊥
zero_first bs first more zero small e = let f = ap length e in let le =
    length-decimal-le 1 0 (omega arith) (omega arith) (omega arith) in omega (arith, f, le, more)
zero_first bs first more (suc n) small e =
    let is : get_or (decimal (suc n)) 0 0 ≡ 48 = ap (λ (xs : List ℕ). get_or xs 0 0) (sym e) ∙ first in
    omega (arith, first_decimal (suc n) (omega arith) (omega arith), is)

pub digit_range : (b : ℕ) → is_ascii_digit b ≡ true → (48 ≤ b) × (b ≤ 57)
digit_range b e = (grind (arith, nat_tests, e), grind (arith, nat_tests, e))

pub found_all : (bs : List ℕ) (i v : ℕ) → length bs ≤ i → 0 < length bs → length bs ≤ 9
    → (get_or bs 0 0 ≡ 48 → length bs ≡ 1) → Reading bs i v → (bs ≡ decimal v) × (v < 1000000000)
found_all bs i v long some short first h = (read_all bs i v long some short first h, value_end bs i v long short h)

pub nonzero : (n : ℕ) → (n == 0) ≡ false → 0 < n
nonzero zero e = absurd (false≢true (sym e))
nonzero (suc n) e = omega arith
