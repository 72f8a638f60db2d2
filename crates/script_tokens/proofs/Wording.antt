-- Which lists of bytes are tokens, each a brace or an atom; the letters of values and names.
use Rattle.script_tokens.proofs.Words.{[], ◌%◌, ◌&&◌, ◌++◌, ◌+◌, ◌/◌, ◌<◌, ◌==◌, ◌||◌, ◌∙◌, ◌∷◌, ◌≡◌, ◌≤◌, ◌⊎◌, A}
use Rattle.script_tokens.proofs.Words.{AreLetters, B, Bool, Brace, EepSet, IsName, IsSid, IsUtf8}
use Rattle.script_tokens.proofs.Words.{Keyword, Kind, Letter, Lexeme, List, Long, Profile, Short, Sid, Spelled}
use Rattle.script_tokens.proofs.Words.{all_ascii_digits, ap, arith, bytes_eq, bytes_eq-Decides, cases_lt, decimal}
use Rattle.script_tokens.proofs.Words.{decimal_nonempty, digits_decimal, eqb-true, false, false≢true, hex_digit}
use Rattle.script_tokens.proofs.Words.{hex_text, if◌then◌else◌, inl, inr, is_ascii_digit, is_lower, is_name_byte}
use Rattle.script_tokens.proofs.Words.{keywords, kind_of, le-ltb, length, lexeme_among, lt-ltb, nat_le, nat_tests}
use Rattle.script_tokens.proofs.Words.{profile_text, refl, set_letter, sid_text, slice_index_or, subst, suc, sym, the}
use Rattle.script_tokens.proofs.Words.{time_text, true, two_digits, zero, ℕ}
use Rattle.std.specs.List.{list_all}
use Rattle.std.proofs.lemmas.Str.{IsUtf8-from_ascii}
use Rattle.std.proofs.lemmas.Str.Ascii.{IsAscii-from_all}
use Rattle.script_tokens.specs.Keywords.{letters, word_of}
use Rattle.script_tokens.proofs.Digits.{own, digit_range}
use Rattle.script_tokens.proofs.Keys.{word_the}

-- ---- tokens

pub record IsAtom (w : List ℕ) : Type 0 where
  pub some : 1 ≤ length w
  pub are : AreLetters w

pub record IsBrace (w : List ℕ) : Type 0 where
  pub byte : ℕ
  pub is : w ≡ byte ∷ []
  pub kind : kind_of byte ≡ Brace

abbrev pub IsWord : List ℕ → Type 0
IsWord w = IsAtom w ⊎ IsBrace w

abbrev pub AreWords : Spelled → Type 0
AreWords [] = Unit {0}
AreWords (w ∷ ws) = IsWord w × AreWords ws

-- ---- which lists of bytes are tokens

and_left : (a b : Bool) → (a && b) ≡ true → a ≡ true
and_left true b e = refl
and_left false b e = absurd (false≢true e)

and_right : (a b : Bool) → (a && b) ≡ true → b ≡ true
and_right true b e = e
and_right false b e = absurd (false≢true e)

or_cases : {T : Type 0} (a b : Bool) → (a || b) ≡ true → (a ≡ true → T) → (b ≡ true → T) → T
or_cases true b e f g = f refl
or_cases false b e f g = g e

is_letter : Kind → Bool
is_letter Letter = true
is_letter k = false

letter_is : (k : Kind) → is_letter k ≡ true → k ≡ Letter
unfolding is_letter
letter_is Letter e = refl
letter_is _ e = absurd (false≢true e)

-- the `n` bytes from this one on are letters
letters_from : (first n : ℕ) → Bool
letters_from first zero = true
letters_from first (suc n) = is_letter (kind_of first) && letters_from (first + 1) n

letter_from : (n first b : ℕ) → letters_from first n ≡ true → first ≤ b → b < first + n → kind_of b ≡ Letter
unfolding letters_from
letter_from zero first b e low high = absurd (omega (arith, low, high))
letter_from (suc n) first b e low high = elim (cases_lt first b) [
  | inl lt ↦ letter_from n (first + 1) b (and_right (is_letter (kind_of first)) (letters_from (first + 1) n) e)
      (omega (arith, lt)) (omega (arith, high))
  | inr ge ↦ (
      let same : first ≡ b = omega (arith, low, ge) in
      subst (λ (m : ℕ). kind_of m ≡ Letter) same
      (letter_is (kind_of first) (and_left (is_letter (kind_of first)) (letters_from (first + 1) n) e))
      )
]

letter_digit : (b : ℕ) → 48 ≤ b → b ≤ 57 → kind_of b ≡ Letter
unfolding letters_from is_letter
letter_digit b low high = letter_from 10 48 b refl low (omega (arith, high))

letter_capital : (b : ℕ) → 65 ≤ b → b ≤ 70 → kind_of b ≡ Letter
unfolding letters_from is_letter
letter_capital b low high = letter_from 6 65 b refl low (omega (arith, high))

letter_lower : (b : ℕ) → 97 ≤ b → b ≤ 122 → kind_of b ≡ Letter
unfolding letters_from is_letter
letter_lower b low high = letter_from 26 97 b refl low (omega (arith, high))

digit_letter : (d : ℕ) → d < 10 → kind_of (48 + d) ≡ Letter
digit_letter d lt = letter_digit (48 + d) (omega arith) (omega (arith, lt))

digits_letters : (bs : List ℕ) → all_ascii_digits bs ≡ true → AreLetters bs
digits_letters [] e = tt
digits_letters (b ∷ bs) e =
    let r = digit_range b (and_left (is_ascii_digit b) (all_ascii_digits bs) e) in
    (letter_digit b r.0 r.1, digits_letters bs (and_right (is_ascii_digit b) (all_ascii_digits bs) e))

hex_letter : (d : ℕ) → d < 16 → kind_of (hex_digit d) ≡ Letter
hex_letter d lt = elim (cases_lt d 10) [
  | inl less ↦ rw (lt-ltb d 10 less) (digit_letter d less)
  | inr ge ↦ rw (le-ltb d 10 ge) (letter_capital (55 + d) (omega (arith, ge)) (omega (arith, lt)))
]

letters_both : (xs ys : List ℕ) → AreLetters xs → AreLetters ys → AreLetters (xs ++ ys)
letters_both [] ys h k = k
letters_both (x ∷ xs) ys h k = (h.0, letters_both xs ys h.1 k)

pub hex_letters : (n : ℕ) → n < 65536 → AreLetters (hex_text n)
hex_letters n small = (
  hex_letter (n / 256 / 16) (omega arith),
  (
    hex_letter (n / 256 % 16) (omega arith),
    (hex_letter (n % 256 / 16) (omega arith), (hex_letter (n % 256 % 16) (omega arith), tt)),
  ),
)

pub sid_letters : (s : Sid) → IsSid s → AreLetters (sid_text s)
sid_letters (Short n) h = hex_letters n h
sid_letters (Long n) h = letters_both (hex_text (n / 65536)) (hex_text (n % 65536))
    (hex_letters (n / 65536) (omega (arith, h))) (hex_letters (n % 65536) (omega arith))

set_kind : (s : EepSet) → kind_of (set_letter s) ≡ Letter
set_kind A = refl
set_kind B = refl

pub profile_letters : (p : Profile) → p.level ≤ 4 → AreLetters (profile_text p)
profile_letters p h = (digit_letter p.level (omega (arith, h)), (refl, (set_kind p.set, tt)))

two_letters : (n : ℕ) → n < 100 → AreLetters (two_digits n)
two_letters n small = (digit_letter (n / 10) (omega arith), (digit_letter (n % 10) (omega arith), tt))

pub time_letters : (s : ℕ) → s < 86400 → AreLetters (time_text s)
time_letters s small =
    let a = two_letters (s / 3600) (omega arith) in
    let b = two_letters (s / 60 % 60) (omega arith) in
    let c = two_letters (s % 60) (omega arith) in
    (a.0, (a.1.0, (refl, (b.0, (b.1.0, (refl, (c.0, (c.1.0, tt))))))))

pub decimal_letters : (n : ℕ) → n < 1000000000 → AreLetters (decimal n)
decimal_letters n small = digits_letters (decimal n) (digits_decimal own n (omega arith))

-- values are spelled by one atom
pub decimal_word : (n : ℕ) → n < 1000000 → IsWord (decimal n)
decimal_word n small =
    inl (record { some = decimal_nonempty n (omega arith); are = decimal_letters _ (omega (arith, small)) })

pub hex_word_word : (n : ℕ) → n < 65536 → IsWord (hex_text n)
hex_word_word n small = inl (record { some = omega arith; are = hex_letters n small })

pub sid_word_word : (s : Sid) → IsSid s → IsWord (sid_text s)
sid_word_word (Short n) h = inl (record { some = omega arith; are = sid_letters (Short n) h })
sid_word_word (Long n) h = inl (record { some = omega arith; are = sid_letters (Long n) h })

pub profile_word_word : (p : Profile) → p.level ≤ 4 → IsWord (profile_text p)
profile_word_word p h = inl (record { some = omega arith; are = profile_letters p h })

pub time_word_word : (s : ℕ) → s < 86400 → IsWord (time_text s)
time_word_word s small = inl (record { some = omega arith; are = time_letters s small })

-- ---- keywords and names

all_letters : List ℕ → Bool
all_letters [] = true
all_letters (b ∷ bs) = is_letter (kind_of b) && all_letters bs

are_letters : (bs : List ℕ) → all_letters bs ≡ true → AreLetters bs
unfolding all_letters is_letter
are_letters [] e = tt
are_letters (b ∷ bs) e = (
  letter_is (kind_of b) (and_left (is_letter (kind_of b)) (all_letters bs) e),
  are_letters bs (and_right (is_letter (kind_of b)) (all_letters bs) e),
)

-- a brace, or letters
is_word : List ℕ → Bool
is_word [] = false
is_word (b ∷ bs) = if is_letter (kind_of b) then all_letters bs else ((b == 123) || (b == 125)) && (length bs == 0)

brace_is : (b : ℕ) (bs : List ℕ) → ((b == 123) || (b == 125)) ≡ true → (length bs == 0) ≡ true → IsBrace (b ∷ bs)
brace_is b [] e f = record {
  byte = b;
  is = refl;
  kind = or_cases (b == 123) (b == 125) e (λ g. rw (eqb-true b 123 g) refl) (λ g. rw (eqb-true b 125 g) refl);
}
brace_is b (x ∷ bs) e f = let none = eqb-true (length (x ∷ bs)) 0 f in absurd (omega (arith, none))

word_is : (w : List ℕ) → is_word w ≡ true → IsWord w
unfolding is_word
word_is [] e = absurd (false≢true e)
word_is (b ∷ bs) e = chosen (is_letter (kind_of b)) refl e
  where
    chosen : (c : Bool) → is_letter (kind_of b) ≡ c → if◌then◌else◌ {A = Bool} c (all_letters bs)
        (((b == 123) || (b == 125)) && (length bs == 0)) ≡ true → IsWord (b ∷ bs)
    chosen true is f = inl (record { some = omega arith; are = (letter_is (kind_of b) is, are_letters bs f) })
    chosen false is f = inr (brace_is b bs (and_left ((b == 123) || (b == 125)) (length bs == 0) f)
        (and_right ((b == 123) || (b == 125)) (length bs == 0) f))

all_words : list_all (λ k. is_word (letters k)) keywords ≡ true
unfolding letters is_word all_letters is_letter
all_words = refl

-- a keyword is among those of the grammar
listed : (ks : List Keyword) (w : List ℕ) (k : Keyword) → lexeme_among ks w ≡ the k
    → list_all (λ j. is_word (letters j)) ks ≡ true → is_word w ≡ true
listed [] w k e all = absurd cc
listed (j ∷ js) w k e all = chosen (bytes_eq w (letters j)) refl (listed js w k) e
  where
    chosen : (c : Bool) → bytes_eq w (letters j) ≡ c
        → (lexeme_among js w ≡ the k → list_all (λ i. is_word (letters i)) js ≡ true → is_word w ≡ true)
        → if◌then◌else◌ {A = Lexeme} c (the j) (lexeme_among js w) ≡ the k → is_word w ≡ true
    chosen true is later f = ap is_word ((bytes_eq-Decides w (letters j)).0 is)
        ∙ and_left (is_word (letters j)) (list_all (λ i. is_word (letters i)) js) all
    chosen false is later f = later f (and_right (is_word (letters j)) (list_all (λ i. is_word (letters i)) js) all)

pub keyword_text : (k : Keyword) → IsWord (letters k)
unfolding word_of
keyword_text k = word_is (letters k) (listed keywords (letters k) k (word_the k) all_words)

lower_range : (b : ℕ) → is_lower b ≡ true → (97 ≤ b) × (b ≤ 122)
lower_range b e = (grind (arith, nat_tests, e), grind (arith, nat_tests, e))

name_range : (b : ℕ) → is_name_byte b ≡ true → ((97 ≤ b) × (b ≤ 122)) ⊎ (((48 ≤ b) × (b ≤ 57)) ⊎ (b ≡ 95))
name_range b e = or_cases (is_lower b || (nat_le 48 b && nat_le b 57)) (b == 95) e
    (λ f. or_cases (is_lower b) (nat_le 48 b && nat_le b 57) f (λ g. inl (lower_range b g))
    (λ g. inr (inl (grind (arith, nat_tests, g), grind (arith, nat_tests, g)))))
    (λ g. inr (inr (eqb-true b 95 g)))

name_letter : (b : ℕ) → is_name_byte b ≡ true → kind_of b ≡ Letter
name_letter b e = elim (name_range b e) [
  | inl r ↦ letter_lower b r.0 r.1
  | inr s ↦ elim s [ inl r ↦ letter_digit b r.0 r.1 | inr is ↦ subst (λ (n : ℕ). kind_of n ≡ Letter) (sym is) refl ]
]

name_letters : (bs : List ℕ) → list_all is_name_byte bs ≡ true → AreLetters bs
name_letters [] e = tt
name_letters (b ∷ bs) e = (
  name_letter b (and_left (is_name_byte b) (list_all is_name_byte bs) e),
  name_letters bs (and_right (is_name_byte b) (list_all is_name_byte bs) e),
)

pub name_letters_of : (bs : List ℕ) → IsName bs → AreLetters bs
name_letters_of [] h = tt
name_letters_of (b ∷ bs) h =
    let first = lower_range b (and_left (is_lower b) (list_all is_name_byte bs) h.formed) in
    (letter_lower b first.0 first.1, name_letters bs (and_right (is_lower b) (list_all is_name_byte bs) h.formed))

pub name_word : (bs : List ℕ) → IsName bs → IsWord bs
name_word [] h = absurd (false≢true h.formed)
name_word (b ∷ bs) h = inl (record { some = omega arith; are = name_letters_of (b ∷ bs) h })

small_byte : (b : ℕ) → is_name_byte b ≡ true → b < 128
small_byte b e = elim (name_range b e) [
  | inl r ↦ omega (arith, r.1)
  | inr s ↦ elim s [ inl r ↦ omega (arith, r.1) | inr is ↦ omega (arith, is) ]
]

small_bytes : (bs : List ℕ) → list_all is_name_byte bs ≡ true → (k d : ℕ) → k < length bs → slice_index_or bs k d < 128
small_bytes [] e k d lt = absurd (omega (arith, lt))
small_bytes (b ∷ bs) e zero d lt = small_byte b (and_left (is_name_byte b) (list_all is_name_byte bs) e)
small_bytes (b ∷ bs) e (suc k) d lt = small_bytes bs (and_right _ _ e) k d (omega (arith, lt))

small_name : (bs : List ℕ) → IsName bs → (k d : ℕ) → k < length bs → slice_index_or bs k d < 128
small_name [] h k d lt = absurd (omega (arith, lt))
small_name (b ∷ bs) h zero d lt = let r = lower_range b (and_left (is_lower b) (list_all is_name_byte bs) h.formed) in
    omega (arith, r.1)
small_name (b ∷ bs) h (suc k) d lt = small_bytes bs (and_right _ _ h.formed) k d (omega (arith, lt))

-- names are UTF-8
pub name_utf8 : (bs : List ℕ) → IsName bs → IsUtf8 bs
name_utf8 bs h = IsUtf8-from_ascii bs (IsAscii-from_all bs (small_name bs h))
