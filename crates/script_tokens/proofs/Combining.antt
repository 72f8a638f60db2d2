-- Readings made of others read as is spelled, where the others do.
use Rattle.script_tokens.proofs.Words.{[], ◌++◌, ◌+◌, ◌<◌, ◌∙◌, ◌∷◌, ◌≡◌, ◌≤◌, ◌⊎◌, Bool, Closed, Keyword, None, Open}
use Rattle.script_tokens.proofs.Words.{Option, Reads, ReadsAsSpelled, Some, Spelled, ValuesAreRead, ap, append_assoc}
use Rattle.script_tokens.proofs.Words.{arith, both, built, decimal, drop, either, false, giving, if◌then◌else◌, inl}
use Rattle.script_tokens.proofs.Words.{inr, is_next, keyed, letters, level_text, number_at, refl, subst, sym, true, ℕ}
use Rattle.script_tokens.specs.Reading.{after}
use Rattle.script_tokens.specs.Taking.{level_at}
use Rattle.script_tokens.proofs.Keys.{letters_injective}
use Rattle.script_tokens.proofs.Taking.{bind_some, next_itself, after_itself, next_begins, after_begins, not_next}
use Rattle.script_tokens.proofs.Taking.{number_law, eid_law, sid_law, profile_law, time_law, name_law}

-- what holds of what was read
pub finish : {T : Type 0} (P : T → Type 0) (x y : T) → Some x ≡ Some y → P x → P y
finish P x y e h = let same : x ≡ y = cc in subst P same h

-- ---- after a keyword

pub record Keyed {T : Type 0} (k : Keyword) (read : Spelled → Reads T) (ws : Spelled) (x : T × Spelled) : Type 0 where
  pub rest : Spelled
  pub begins : ws ≡ letters k ∷ rest
  pub read_is : read rest ≡ Some x

pub keyed_given : {T : Type 0} (k : Keyword) (read : Spelled → Reads T) (ws : Spelled) (x : T × Spelled)
    → keyed k read ws ≡ Some x → Keyed k read ws x
keyed_given k read ws x e = let b = bind_some (after k ws) read x e in
    record { rest = b.x; begins = after_begins k ws b.x b.first; read_is = b.second }

pub keyed_law : {T : Type 0} (k : Keyword) (read : Spelled → Reads T) (In : T → Type 0) (spell : T → Spelled)
    → ReadsAsSpelled read In spell → ReadsAsSpelled (keyed k read) In (λ a. letters k ∷ spell a)
keyed_law k read In spell law = record {
  given = λ ws x e. (let b = keyed_given k read ws x e in let g = law.given b.rest x b.read_is in
      (g.0, b.begins ∙ ap (λ (vs : Spelled). letters k ∷ vs) g.1));
  found = λ a rest is. rw (after_itself k (spell a ++ rest)) (law.found a rest is);
}

-- ---- one after the other

pub both_law : {S T : Type 0} (read : Spelled → Reads S) (In : S → Type 0) (spell : S → Spelled)
    (next : Spelled → Reads T) (Is : T → Type 0) (spells : T → Spelled)
    → ReadsAsSpelled read In spell → ReadsAsSpelled next Is spells
    → ReadsAsSpelled (both read next) (λ p. In p.0 × Is p.1) (λ p. spell p.0 ++ spells p.1)
both_law read In spell next Is spells law other = record {
  given = λ ws x e. (
      let a = bind_some (read ws) _ x e in
      let b = bind_some (next a.x.1) _ x a.second in
      let f = law.given ws a.x a.first in
      let g = other.given a.x.1 b.x b.first in
      finish (λ y. (In y.0.0 × Is y.0.1) × (ws ≡ (spell y.0.0 ++ spells y.0.1) ++ y.1)) ((a.x.0, b.x.0), b.x.1) x
      b.second (
        (f.0, g.0),
        f.1 ∙ ap (λ (vs : Spelled). spell a.x.0 ++ vs) g.1
            ∙ sym (append_assoc (spell a.x.0) (spells b.x.0) b.x.1),
      )
      );
  found = λ p rest is. rw (
    append_assoc (spell p.0) (spells p.1) rest,
    law.found p.0 (spells p.1 ++ rest) is.0,
    other.found p.1 rest is.1,
  ) refl;
}

-- ---- values made of others

-- the value made is spelled by `front` and what its parts spell
pub made_given : {S T : Type 0} (read : Spelled → Reads S) (In : S → Type 0) (spell : S → Spelled)
    → ReadsAsSpelled read In spell
    → (make : S → T) (Is : T → Type 0) (spells : T → Spelled) (front : Spelled) → ((a : S) → In a → Is (make a))
    → ((a : S) → In a → spells (make a) ≡ front ++ spell a)
    → (ws : Spelled) (x : T × Spelled) → built make read ws ≡ Some x → Is x.0 × (front ++ ws ≡ spells x.0 ++ x.1)
made_given read In spell law make Is spells front into same ws x e =
    let a = bind_some (read ws) (giving make) x e in
    let g = law.given ws a.x a.first in
    finish (λ y. Is y.0 × (front ++ ws ≡ spells y.0 ++ y.1)) (make a.x.0, a.x.1) x a.second (
      into a.x.0 g.0,
      ap (λ (vs : Spelled). front ++ vs) g.1 ∙ sym (append_assoc front (spell a.x.0) a.x.1)
          ∙ ap (λ (vs : Spelled). vs ++ a.x.1) (sym (same a.x.0 g.0)),
    )

pub made_found : {S T : Type 0} (read : Spelled → Reads S) (In : S → Type 0) (spell : S → Spelled)
    → ReadsAsSpelled read In spell
    → (make : S → T) (a : S) (rest : Spelled) → In a → built make read (spell a ++ rest) ≡ Some (make a, rest)
made_found read In spell law make a rest is = rw (law.found a rest is) refl

-- ---- this keyword, or something else

pub either_given : {T : Type 0} (k : Keyword) (read other : Spelled → Reads T) (ws : Spelled) (x : T × Spelled)
    → either k read other ws ≡ Some x
    → ((ws ≡ letters k ∷ drop 1 ws) × (read (drop 1 ws) ≡ Some x)) ⊎ ((is_next k ws ≡ false) × (other ws ≡ Some x))
either_given {T} k read other ws x e = chosen (is_next k ws) refl e
  where
    chosen : (b : Bool) → is_next k ws ≡ b → if◌then◌else◌ {A = Option (T × Spelled)} b (read (drop 1 ws)) (other ws)
        ≡ Some x
        → ((ws ≡ letters k ∷ drop 1 ws) × (read (drop 1 ws) ≡ Some x)) ⊎ ((is_next k ws ≡ false) × (other ws ≡ Some x))
    chosen true is f = inl (next_begins k ws is, f)
    chosen false is f = inr (is, f)

pub other_next : (j k : Keyword) (ws : Spelled) → (j ≡ k → ⊥) → is_next k (letters j ∷ ws) ≡ false
other_next j k ws differ = not_next k (letters j) ws (λ e. differ (letters_injective j k e))

pub not_after : (j k : Keyword) (ws : Spelled) → (j ≡ k → ⊥) → after k (letters j ∷ ws) ≡ None
unfolding after
not_after j k ws differ = rw (other_next j k ws differ) refl

-- ---- the laws of values

level_law : ReadsAsSpelled level_at (λ closed. Unit {0}) (λ closed. level_text closed ∷ [])
unfolding level_at
level_law = record {
  given = λ ws x e. elim (either_given Closed (λ vs. Some (true, vs)) (keyed Open (λ vs. Some (false, vs))) ws x e) [
    | inl h ↦ finish (λ y. Unit {0} × (ws ≡ level_text y.0 ∷ y.1)) (true, drop 1 ws) x h.1 (tt, h.0)
    | inr h ↦ (let k = keyed_given Open (λ vs. Some (false, vs)) ws x h.1 in
        finish (λ y. Unit {0} × (ws ≡ level_text y.0 ∷ y.1)) (false, k.rest) x k.read_is (tt, k.begins))
  ];
  found = level_found;
}
  where
    level_found : (closed : Bool) (rest : Spelled) → Unit {0}
        → level_at (level_text closed ∷ rest) ≡ Some (closed, rest)
    level_found true rest u = rw (next_itself Closed rest) refl
    level_found false rest u = rw (other_next Open Closed rest (λ e. cc), after_itself Open rest) refl

pub values_are_read : ValuesAreRead
values_are_read = record {
  numbers = number_law;
  eids = eid_law;
  sids = sid_law;
  profiles = profile_law;
  times = time_law;
  levels = level_law;
  names = name_law;
}

-- ---- numbers

pub below : (limit high : ℕ) → limit ≡ high + 1 → high < 1000000000
    → ReadsAsSpelled (number_at 0 high) (λ n. n < limit) (λ n. decimal n ∷ [])
below limit high e small = record {
  given = λ ws x f. (let g = (values_are_read.numbers 0 high small).given ws x f in let to = g.0.1 in
      (omega (arith, to, e), g.1));
  found = λ n rest lt. (values_are_read.numbers 0 high small).found n rest (omega arith, omega (arith, lt, e));
}

pub from_one : (limit high : ℕ) → limit ≡ high + 1 → high < 1000000000
    → ReadsAsSpelled (number_at 1 high) (λ n. (1 ≤ n) × (n < limit)) (λ n. decimal n ∷ [])
from_one limit high e small = record {
  given = λ ws x f. (let g = (values_are_read.numbers 1 high small).given ws x f in let to = g.0.1 in
      ((g.0.0, omega (arith, to, e)), g.1));
  found = λ n rest is. (values_are_read.numbers 1 high small).found n rest
      (is.0, (let lt = is.1 in omega (arith, lt, e)));
}
