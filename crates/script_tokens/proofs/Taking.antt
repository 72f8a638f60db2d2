-- What is read as a value is spelled so, and what is spelled so is read as it.
use Rattle.script_tokens.proofs.Words.{[], ◌%◌, ◌&&◌, ◌+◌, ◌-◌, ◌/◌, ◌<◌, ◌>>=◌, ◌∙◌, ◌∷◌, ◌≡◌, ◌≢◌, ◌≤◌, A}
use Rattle.script_tokens.proofs.Words.{AreLetters, B, BeginsWith, Bool, EepSet, IsName, IsNoKeyword, IsSid, Keyword}
use Rattle.script_tokens.proofs.Words.{List, Long, None, Option, Profile, Reads, ReadsAsSpelled, Short, Sid, Some}
use Rattle.script_tokens.proofs.Words.{Spelled, ap, arith, bytes_eq, bytes_eq-Decides, cases_lt, decimal, digit_of}
use Rattle.script_tokens.proofs.Words.{digits_value-decimal, drop, false, false≢true, four_of, has_name_letters}
use Rattle.script_tokens.proofs.Words.{hex_digit, hex_text, if◌then◌else◌, inl, inr, is_bare, is_eid, is_name}
use Rattle.script_tokens.proofs.Words.{is_number, is_profile, is_sid, is_time, le-leb, le-ltb, length, letters, lt-ltb}
use Rattle.script_tokens.proofs.Words.{nat_le, nat_tests, number_of, profile_of, profile_text, refl, set_letter, set_of}
use Rattle.script_tokens.proofs.Words.{sid_of, sid_text, subst, sym, time_of, time_text, true, two_digits, two_of}
use Rattle.script_tokens.proofs.Words.{word_of, ℕ}
use Rattle.script_tokens.specs.Reading.{is_next, after}
use Rattle.script_tokens.specs.Taking.{value_at, number_at, eid_at, sid_at, profile_at, time_at, name_next}
use Rattle.script_tokens.proofs.Digits.{own}
use Rattle.script_tokens.proofs.Keys.{word_the, word_text, first_is}
use Rattle.script_tokens.proofs.Wording.{decimal_letters, hex_letters, sid_letters, profile_letters, time_letters}

-- ---- keywords

-- where one reading follows another, both have read something
pub record Both {A B : Type 0} (one : Option A) (other : A → Option B) (y : B) : Type 0 where
  pub x : A
  pub first : one ≡ Some x
  pub second : other x ≡ Some y

pub bind_some : {A B : Type 0} (one : Option A) (other : A → Option B) (y : B) → (one >>= other) ≡ Some y
    → Both one other y
bind_some (Some x) other y e = record { x = x; first = refl; second = e }
bind_some None other y e = absurd cc

-- what is read is one thing
pub read_once : {A : Type 0} (p q : A × Spelled) → Some p ≡ Some q → (p.0 ≡ q.0) × (p.1 ≡ q.1)
read_once p q e = let same : p ≡ q = cc in (ap (λ r. r.0) same, ap (λ r. r.1) same)

-- a value was read, and the tokens after it are these
pub onward : {T : Type 0} (r : Reads T) (v : T) (ws vs : Spelled) → r ≡ Some (v, drop 1 ws) → vs ≡ drop 1 ws
    → r ≡ Some (v, vs)
onward r v ws vs e f = rw (f) e

pub next_itself : (k : Keyword) (ws : Spelled) → is_next k (letters k ∷ ws) ≡ true
unfolding is_next
next_itself k ws = (bytes_eq-Decides (letters k) (letters k)).1 refl

pub after_itself : (k : Keyword) (ws : Spelled) → after k (letters k ∷ ws) ≡ Some ws
unfolding after
after_itself k ws = rw (next_itself k ws) refl

pub next_begins : (k : Keyword) (ws : Spelled) → is_next k ws ≡ true → ws ≡ letters k ∷ drop 1 ws
unfolding is_next
next_begins k [] e = absurd cc
next_begins k (w ∷ ws) e = ap (λ (v : List ℕ). v ∷ ws) ((bytes_eq-Decides w (letters k)).0 e)

pub after_begins : (k : Keyword) (ws rest : Spelled) → after k ws ≡ Some rest → ws ≡ letters k ∷ rest
unfolding after
after_begins k ws rest e = chosen (is_next k ws) refl e
  where
    chosen : (b : Bool) → is_next k ws ≡ b → (if b then Some (drop 1 ws) else None) ≡ Some rest → ws ≡ letters k ∷ rest
    chosen true is f = let same : drop 1 ws ≡ rest = cc in
        next_begins k ws is ∙ ap (λ (vs : Spelled). letters k ∷ vs) same
    chosen false is f = absurd cc

pub not_next : (k : Keyword) (w : List ℕ) (ws : Spelled) → w ≢ letters k → is_next k (w ∷ ws) ≡ false
unfolding is_next
not_next k w ws other = false_if (bytes_eq w (letters k)) (λ e. other ((bytes_eq-Decides w (letters k)).0 e))
  where
    false_if : (b : Bool) → (b ≡ true → ⊥) → b ≡ false
    false_if true h = absurd (h refl)
    false_if false h = refl

no_next : (k : Keyword) (ws : Spelled) → ((rest : Spelled) → ws ≢ letters k ∷ rest) → is_next k ws ≡ false
unfolding is_next
no_next k [] other = refl
no_next k (w ∷ ws) other = not_next k w ws (λ e. other ws (ap (λ (v : List ℕ). v ∷ ws) e))

pub next_is : (b : Bool) (k : Keyword) (ws : Spelled) → (b ≡ true → BeginsWith ws (letters k))
    → (b ≡ false → (rest : Spelled) → ws ≢ letters k ∷ rest) → b ≡ is_next k ws
next_is true k ws begins none = rw ((begins refl).begins) (sym (next_itself k (begins refl).rest))
next_is false k ws begins none = sym (no_next k ws (none refl))

-- ---- values

value_found : {A : Type 0} (value : List ℕ → A) (text : A → List ℕ) (fits : A → Bool) (a : A) (ws : Spelled)
    → value (text a) ≡ a → fits a ≡ true
    → value_at value text fits (text a ∷ ws) ≡ Some (a, ws)
unfolding value_at
value_found value text fits a ws is fit = let same = (bytes_eq-Decides (text a) (text a)).1 refl in
    rw (is, fit, same) refl

record IsValue {A : Type 0} (text : A → List ℕ) (fits : A → Bool) (ws : Spelled) (a : A) (rest : Spelled) : Type 0 where
  pub fit : fits a ≡ true
  pub spelled : ws ≡ text a ∷ rest

given_if : {A : Type 0} (text : A → List ℕ) (fits : A → Bool) (w : List ℕ) (ws : Spelled) (x a : A) (rest : Spelled)
    (f b : Bool) → fits x ≡ f → bytes_eq w (text x) ≡ b
    → if◌then◌else◌ {A = Option (A × Spelled)} (f && b) (Some (x, ws)) None ≡ Some (a, rest)
    → IsValue text fits (w ∷ ws) a rest
given_if text fits w ws x a rest true true f b e =
    let same = read_once (x, ws) (a, rest) e in
    record {
      fit = ap fits (sym same.0) ∙ f;
      spelled = ap (λ (v : List ℕ). v ∷ ws) ((bytes_eq-Decides w (text x)).0 b) ∙ ap (λ y. text y ∷ ws) same.0
          ∙ ap (λ (vs : Spelled). text a ∷ vs) same.1;
    }
given_if text fits w ws x a rest _ _ f b e = absurd cc

value_given : {A : Type 0} (value : List ℕ → A) (text : A → List ℕ) (fits : A → Bool) (ws : Spelled) (a : A)
    (rest : Spelled) → value_at value text fits ws ≡ Some (a, rest) → IsValue text fits ws a rest
unfolding value_at
value_given value text fits [] a rest e = absurd cc
value_given value text fits (w ∷ ws) a rest e = given_if _ _ _ _ _ _ _ _ _ refl refl e

pub none_read : {A : Type 0} (r : Reads A) → ((a : A) (rest : Spelled) → r ≡ Some (a, rest) → ⊥) → r ≡ None
none_read None h = refl
none_read (Some x) h = absurd (h x.0 x.1 refl)

-- no atom is next
abbrev NoAtom : Spelled → Type 0
NoAtom ws = (w : List ℕ) (rest : Spelled) → AreLetters w → ws ≢ w ∷ rest

-- a kind of value: what is spelled is the value again, the test says what is in range, and spellings are atoms
record IsKind {A : Type 0} (value : List ℕ → A) (text : A → List ℕ) (fits : A → Bool) (In : A → Type 0) : Type 0 where
  again : (a : A) → In a → value (text a) ≡ a
  into : (a : A) → fits a ≡ true → In a
  from : (a : A) → In a → fits a ≡ true
  letters_are : (a : A) → In a → AreLetters (text a)

module _ {A : Type 0} (value : List ℕ → A) (text : A → List ℕ) (fits : A → Bool) (In : A → Type 0)
    (kind : IsKind value text fits In) where
  kind_law : ReadsAsSpelled (value_at value text fits) In (λ a. text a ∷ [])
  kind_law = record {
    given = λ ws x e. (let g = value_given value text fits ws x.0 x.1 e in (kind.into x.0 g.fit, g.spelled));
    found = λ a rest is. value_found value text fits a rest (kind.again a is) (kind.from a is);
  }

  -- the next token is read, or it is no such value, or no atom is next
  kind_next : (a : A) (w : List ℕ) (ws : Spelled) → BeginsWith ws w → w ≡ text a → In a
      → value_at value text fits ws ≡ Some (a, drop 1 ws)
  kind_next a w ws b e is = rw (b.begins, e) (kind_law.found a b.rest is)

  kind_other : (w : List ℕ) (ws : Spelled) → BeginsWith ws w → ((a : A) → In a → w ≢ text a)
      → value_at value text fits ws ≡ None
  kind_other w ws b none = none_read (value_at value text fits ws) (λ a rest e. (
      let g = kind_law.given ws (a, rest) e in none a g.0 (first_is w (text a) b.rest rest (sym b.begins ∙ g.1))
      ))

  kind_no_atom : (ws : Spelled) → NoAtom ws → value_at value text fits ws ≡ None
  kind_no_atom ws none = none_read (value_at value text fits ws) (λ a rest e. (
      let g = kind_law.given ws (a, rest) e in none (text a) rest (kind.letters_are a g.0) g.1
      ))

-- ---- decimals

pub number_decimal : (n : ℕ) → n < 1000000000 → number_of (decimal n) ≡ n
number_decimal n small = digits_value-decimal own n (omega arith)

abbrev IsNumber : (low high : ℕ) → ℕ → Type 0
IsNumber low high n = (low ≤ n) × (n ≤ high) × (n < 1000000000)

number_kind : (low high : ℕ) → IsKind number_of decimal (is_number low high) (IsNumber low high)
number_kind low high = record {
  again = λ n is. number_decimal n is.2;
  into = λ n e. (grind (arith, nat_tests, e), grind (arith, nat_tests, e), grind (arith, nat_tests, e));
  from = λ n is. (let a = is.0 in let b = is.1 in let c = is.2 in grind (arith, nat_tests, a, b, c));
  letters_are = λ n is. decimal_letters n is.2;
}

pub number_law : (low high : ℕ) → high < 1000000000 → ReadsAsSpelled (number_at low high) (λ n. (low ≤ n) × (n ≤ high))
    (λ n. decimal n ∷ [])
unfolding number_at
number_law low high small =
    let law = kind_law number_of decimal (is_number low high) (IsNumber low high) (number_kind low high) in
    record {
      given = λ ws x e. (let g = law.given ws x e in ((g.0.0, g.0.1), g.1));
      found = λ n rest is. law.found n rest (is.0, is.1, (let to = is.1 in omega (arith, to, small)));
    }

pub number_next : (low high n : ℕ) (w : List ℕ) (ws : Spelled) → BeginsWith ws w → w ≡ decimal n → n < 1000000000
    → low ≤ n → n ≤ high → number_at low high ws ≡ Some (n, drop 1 ws)
unfolding number_at
number_next low high n w ws b e small from to =
    kind_next _ _ _ (IsNumber low high) (number_kind _ _) n w ws b e (from, to, small)

pub number_other : (low high : ℕ) (w : List ℕ) (ws : Spelled) → BeginsWith ws w
    → ((n : ℕ) → n < 1000000000 → w ≢ decimal n) → number_at low high ws ≡ None
unfolding number_at
number_other low high w ws b none =
    kind_other _ _ (is_number low high) (IsNumber low high) (number_kind _ _) w ws b (λ n is. none n is.2)

pub number_out : (low high n : ℕ) (w : List ℕ) (ws : Spelled) → BeginsWith ws w → w ≡ decimal n → n < 1000000000
    → (low ≤ n → high < n) → number_at low high ws ≡ None
unfolding number_at
number_out low high n w ws b e small out =
    kind_other number_of decimal (is_number low high) (IsNumber low high) (number_kind low high) w ws b (λ m f is. (
    let same : n ≡ m = sym (number_decimal n small) ∙ ap number_of (sym e ∙ is) ∙ number_decimal m f.2 in
    let from : low ≤ n = (let g = f.0 in omega (arith, same, g)) in
    omega (arith, same)
    ))

pub number_no_atom : (low high : ℕ) (ws : Spelled) → NoAtom ws → number_at low high ws ≡ None
unfolding number_at
number_no_atom low high ws none =
    kind_no_atom number_of decimal (is_number low high) (IsNumber low high) (number_kind low high) ws none

-- ---- EIds and SIds

digit_again : (d : ℕ) → d < 16 → digit_of (hex_digit d) ≡ d
digit_again d small = elim (cases_lt d 10) [
  | inl lt ↦ rw (lt-ltb d 10 lt) (let e : 48 + d < 58 = omega arith in rw (lt-ltb (48 + d) 58 e) (omega arith))
  | inr ge ↦ rw (le-ltb d 10 ge) (let e : 58 ≤ 55 + d = omega arith in rw (le-ltb (55 + d) 58 e) (omega arith))
]

pub four_again : (n : ℕ) → n < 65536 → four_of (hex_text n) ≡ n
four_again n small =
    let c = digit_again (n % 256 / 16) (omega arith) in
    let d = digit_again (n % 256 % 16) (omega arith) in
    rw ((digit_again (n / 256 / 16) (omega arith)), (digit_again (n / 256 % 16) (omega arith)), c, d) (omega arith)

eid_kind : IsKind four_of hex_text is_eid (λ n. n < 65536)
eid_kind = record {
  again = four_again;
  into = λ n e. grind (arith, nat_tests, e);
  from = λ n h. lt-ltb n 65536 h;
  letters_are = hex_letters;
}

sid_again : (s : Sid) → IsSid s → sid_of (sid_text s) ≡ s
sid_again (Short n) h = ap Short (four_again n h)
sid_again (Long n) h =
    rw ((four_again (n / 65536) (omega (arith, h))), (four_again (n % 65536) (omega arith))) (ap Long (omega arith))

sid_fits : (s : Sid) → is_sid s ≡ true → IsSid s
sid_fits _ e = grind (arith, nat_tests, e)

fits_sid : (s : Sid) → IsSid s → is_sid s ≡ true
fits_sid (Short n) h = lt-ltb n 65536 h
fits_sid (Long n) h = lt-ltb n 4294967296 h

sid_kind : IsKind sid_of sid_text is_sid IsSid
sid_kind = record { again = sid_again; into = sid_fits; from = fits_sid; letters_are = sid_letters }

-- ---- profiles and times

set_again : (s : EepSet) → set_of (set_letter s) ≡ s
set_again A = refl
set_again B = refl

profile_again : (p : Profile) → profile_of (profile_text p) ≡ p
profile_again p = let a = set_again p.set in let b : 48 + p.level - 48 ≡ p.level = omega arith in rw (a, b) refl

abbrev IsLevelled : Profile → Type 0
IsLevelled p = (1 ≤ p.level) × (p.level ≤ 4)

profile_kind : IsKind profile_of profile_text is_profile IsLevelled
profile_kind = record {
  again = λ p h. profile_again p;
  into = λ p e. (grind (arith, nat_tests, e), grind (arith, nat_tests, e));
  from = λ p h. (let a = h.0 in let b = h.1 in grind (arith, nat_tests, a, b));
  letters_are = λ p h. profile_letters p h.1;
}

two_again : (n : ℕ) → n < 100 → two_of (two_digits n) ≡ n
two_again n small = omega arith

time_again : (t : ℕ) → t < 86400 → time_of (time_text t) ≡ t
time_again t small =
    let c = two_again (t % 60) (omega arith) in
    rw ((two_again (t / 3600) (omega arith)), (two_again (t / 60 % 60) (omega arith)), c) (omega arith)

time_kind : IsKind time_of time_text is_time (λ t. t < 86400)
time_kind = record {
  again = time_again;
  into = λ t e. grind (arith, nat_tests, e);
  from = λ t h. lt-ltb t 86400 h;
  letters_are = time_letters;
}

-- ---- these kinds, for the code

pub eid_next : (n : ℕ) (w : List ℕ) (ws : Spelled) → BeginsWith ws w → w ≡ hex_text n → n < 65536
    → eid_at ws ≡ Some (n, drop 1 ws)
unfolding eid_at
eid_next n w ws b e is = kind_next four_of hex_text is_eid (λ n. n < 65536) eid_kind n w ws b e is

pub eid_other : (w : List ℕ) (ws : Spelled) → BeginsWith ws w → ((n : ℕ) → n < 65536 → w ≢ hex_text n)
    → eid_at ws ≡ None
unfolding eid_at
eid_other w ws b none = kind_other four_of hex_text is_eid (λ n. n < 65536) eid_kind w ws b none

pub eid_no_atom : (ws : Spelled) → NoAtom ws → eid_at ws ≡ None
unfolding eid_at
eid_no_atom ws none = kind_no_atom four_of hex_text is_eid (λ n. n < 65536) eid_kind ws none

pub sid_next : (n : Sid) (w : List ℕ) (ws : Spelled) → BeginsWith ws w → w ≡ sid_text n → IsSid n
    → sid_at ws ≡ Some (n, drop 1 ws)
unfolding sid_at
sid_next n w ws b e is = kind_next sid_of sid_text is_sid IsSid sid_kind n w ws b e is

pub sid_other : (w : List ℕ) (ws : Spelled) → BeginsWith ws w → ((n : Sid) → IsSid n → w ≢ sid_text n)
    → sid_at ws ≡ None
unfolding sid_at
sid_other w ws b none = kind_other sid_of sid_text is_sid IsSid sid_kind w ws b none

pub sid_no_atom : (ws : Spelled) → NoAtom ws → sid_at ws ≡ None
unfolding sid_at
sid_no_atom ws none = kind_no_atom sid_of sid_text is_sid IsSid sid_kind ws none

pub profile_next : (p : Profile) (w : List ℕ) (ws : Spelled) → BeginsWith ws w → w ≡ profile_text p → 1 ≤ p.level
    → p.level ≤ 4 → profile_at ws ≡ Some (p, drop 1 ws)
unfolding profile_at
profile_next p w ws b e from to = kind_next _ _ _ IsLevelled profile_kind p w ws b e (from, to)

pub profile_other : (w : List ℕ) (ws : Spelled) → BeginsWith ws w
    → ((p : Profile) → 1 ≤ p.level → p.level ≤ 4 → w ≢ profile_text p) → profile_at ws ≡ None
unfolding profile_at
profile_other w ws b none = kind_other _ _ is_profile IsLevelled profile_kind w ws b (λ p is. none p is.0 is.1)

pub profile_no_atom : (ws : Spelled) → NoAtom ws → profile_at ws ≡ None
unfolding profile_at
profile_no_atom ws none = kind_no_atom profile_of profile_text is_profile IsLevelled profile_kind ws none

pub time_next : (n : ℕ) (w : List ℕ) (ws : Spelled) → BeginsWith ws w → w ≡ time_text n → n < 86400
    → time_at ws ≡ Some (n, drop 1 ws)
unfolding time_at
time_next n w ws b e is = kind_next time_of time_text is_time (λ t. t < 86400) time_kind n w ws b e is

pub time_other : (w : List ℕ) (ws : Spelled) → BeginsWith ws w → ((n : ℕ) → n < 86400 → w ≢ time_text n)
    → time_at ws ≡ None
unfolding time_at
time_other w ws b none = kind_other time_of time_text is_time (λ t. t < 86400) time_kind w ws b none

pub time_no_atom : (ws : Spelled) → NoAtom ws → time_at ws ≡ None
unfolding time_at
time_no_atom ws none = kind_no_atom time_of time_text is_time (λ t. t < 86400) time_kind ws none

-- ---- names

is_bare_own : (w : List ℕ) → IsNoKeyword w → is_bare (word_of w) ≡ true
is_bare_own w own = rw (word_text w own) refl

own_text : (w : List ℕ) → is_bare (word_of w) ≡ true → IsNoKeyword w
own_text w e k is = false≢true (sym (rw (is, word_the k) refl) ∙ e)

name_fits : (w : List ℕ) → IsName w → is_name w ≡ true
name_fits w is = rw (is.formed, le-leb _ _ is.short, is_bare_own w is.own) refl

all_true : (a b c : Bool) → (a && b && c) ≡ true → (a ≡ true) × (b ≡ true) × (c ≡ true)
all_true true true true e = (refl, refl, refl)
all_true _ _ _ e = absurd cc

fits_name : (w : List ℕ) → is_name w ≡ true → IsName w
fits_name w e =
    let h = all_true (has_name_letters w) (nat_le (length w) 32) (is_bare (word_of w)) e in
    record { formed = h.0; short = (let f = h.1 in grind (arith, nat_tests, f)); own = own_text w h.2 }

name_found : (w : List ℕ) (ws : Spelled) → IsName w → name_next (w ∷ ws) ≡ Some (w, ws)
unfolding name_next
name_found w ws is = rw (name_fits w is) refl

name_given : (ws : Spelled) (x : List ℕ × Spelled) → name_next ws ≡ Some x → IsName x.0 × (ws ≡ x.0 ∷ x.1)
unfolding name_next
name_given [] x e = absurd cc
name_given (w ∷ ws) x e = chosen (is_name w) refl e
  where
    chosen : (b : Bool) → is_name w ≡ b → if◌then◌else◌ {A = Option (List ℕ × Spelled)} b (Some (w, ws)) None ≡ Some x
        → IsName x.0 × (w ∷ ws ≡ x.0 ∷ x.1)
    chosen true is f = (
        let same = read_once (w, ws) x f in (
          subst IsName same.0 (fits_name w is),
          ap (λ (v : List ℕ). v ∷ ws) same.0
              ∙ ap (λ (vs : Spelled). x.0 ∷ vs) same.1,
        )
        )
    chosen false is f = absurd cc

pub name_shown : (w : List ℕ) (ws : Spelled) → BeginsWith ws w → IsName w → name_next ws ≡ Some (w, drop 1 ws)
name_shown w ws b is = rw (b.begins) (name_found w b.rest is)

pub no_name_next : (ws : Spelled) → ((name : List ℕ) (rest : Spelled) → IsName name → ws ≢ name ∷ rest)
    → name_next ws ≡ None
no_name_next ws none = none_read (name_next ws) (λ name rest e. (let g = name_given _ _ e in none name rest g.0 g.1))

-- ---- the laws of values

pub eid_law : ReadsAsSpelled eid_at (λ n. n < 65536) (λ n. hex_text n ∷ [])
unfolding eid_at
eid_law = kind_law four_of hex_text is_eid (λ n. n < 65536) eid_kind

pub sid_law : ReadsAsSpelled sid_at IsSid (λ s. sid_text s ∷ [])
unfolding sid_at
sid_law = kind_law sid_of sid_text is_sid IsSid sid_kind

pub profile_law : ReadsAsSpelled profile_at IsLevelled (λ p. profile_text p ∷ [])
unfolding profile_at
profile_law = kind_law profile_of profile_text is_profile IsLevelled profile_kind

pub time_law : ReadsAsSpelled time_at (λ t. t < 86400) (λ t. time_text t ∷ [])
unfolding time_at
time_law = kind_law time_of time_text is_time (λ t. t < 86400) time_kind

pub name_law : ReadsAsSpelled name_next IsName (λ name. name ∷ [])
name_law = record { given = name_given; found = name_found }
