-- Each contradiction is reported once between two swaps, as long as fewer than 64 are.
use Rattle.stream_check.proofs.Words.{[], ◌&&◌, ◌++◌, ◌+◌, ◌<◌, ◌==◌, ◌||◌, ◌∙◌, ◌∷◌, ◌≡◌, ◌≤◌, ◌⊎◌, AreNew}
use Rattle.stream_check.proofs.Words.{AreReportedOnce, Bool, ByPacket, Contradiction, List, Mention, NoneIsLeftOut}
use Rattle.stream_check.proofs.Words.{NotThere, NotWhole, Nothing, OnSub, Packet, Sub, ap, append-nil, append_assoc}
use Rattle.stream_check.proofs.Words.{ap₂, arith, cond, eq-eqb, false, false≢true, inl, inr, is_new, is_noted, is_same}
use Rattle.stream_check.proofs.Words.{is_same_mention, length, length-append, list_any, ltb-false, ltb-true, most_noted}
use Rattle.stream_check.proofs.Words.{nat_lt, new_among, not, noted_with, refl, subst, sym, true, ℕ}
use Rattle.mux_types.proofs.Elements.{contains_cases, contains_none}

-- ---- the same

both_same : (a b : Bool) → a ≡ true → b ≡ true → (a && b) ≡ true
both_same a b one other = ap₂ (λ (x y : Bool). x && y) one other

number_same : (n : ℕ) → (n == n) ≡ true
number_same n = eq-eqb n n refl

mention_same : (m : Mention) → is_same_mention m m ≡ true
mention_same Nothing = refl
mention_same (Sub sub) = number_same sub
mention_same (Packet scid) = number_same scid
mention_same (OnSub sid sub) = both_same (sid == sid) (sub == sub) (number_same sid) (number_same sub)
mention_same (ByPacket sid scid) = both_same (sid == sid) (scid == scid) (number_same sid) (number_same scid)

pub itself_same : (c : Contradiction) → is_same c c ≡ true
itself_same (NotThere ext m) = both_same (ext == ext) (is_same_mention m m) (number_same ext) (mention_same m)
itself_same (NotWhole ext) = number_same ext

-- ---- lists

any_append : (p : Contradiction → Bool) (xs ys : List Contradiction)
    → list_any p (xs ++ ys) ≡ (list_any p xs || list_any p ys)
any_append p [] ys = refl
any_append p (x ∷ xs) ys = ap (λ b. p x || b) (any_append p xs ys) ∙ joined (p x) (list_any p xs) (list_any p ys)
  where
    joined : (a b c : Bool) → (a || (b || c)) ≡ ((a || b) || c)
    joined true b c = refl
    joined false b c = refl

first_or_second : (a b : Bool) → b ≡ true → (a || b) ≡ true
first_or_second true b e = refl
first_or_second false b e = e

noted_here : (xs ys : List Contradiction) (c : Contradiction) → is_noted (xs ++ c ∷ ys) c ≡ true
noted_here xs ys c = any_append _ xs _ ∙ first_or_second _ _ (ap (λ b. b || list_any (is_same c) ys) (itself_same c))

new_more : (before xs ys : List Contradiction) → AreNew before xs → AreNew (before ++ xs) ys → AreNew before (xs ++ ys)
new_more before [] ys one other = rw (← append-nil before) other
new_more before (x ∷ xs) ys one other = (
  one.0,
  new_more (before ++ x ∷ []) xs ys one.1
      (subst (λ (l : List Contradiction). AreNew l ys) (sym (append_assoc before (x ∷ []) xs)) other),
)

-- ---- those that are reported

-- what is new is not among the others, and these are fewer than 64
record IsFresh (noted : List Contradiction) (c : Contradiction) : Type 0 where
  few : length noted < most_noted
  apart : is_noted noted c ≡ false

fresh_where : (noted : List Contradiction) (c : Contradiction) → is_new noted c ≡ true → IsFresh noted c
fresh_where noted c new = by (nat_lt (length noted) most_noted) (is_noted noted c) refl refl new
  where
    by : (few there : Bool) → nat_lt (length noted) most_noted ≡ few → is_noted noted c ≡ there
        → (few && not there) ≡ true → IsFresh noted c
    by true true is found e = absurd (false≢true e)
    by true false is found e = record { few = ltb-true (length noted) most_noted is; apart = found }
    by false there is found e = absurd (false≢true e)

old_where : (noted : List Contradiction) (c : Contradiction) → is_new noted c ≡ false → (is_noted noted c ≡ true)
    ⊎ (most_noted ≤ length noted)
old_where noted c old = by (nat_lt (length noted) most_noted) (is_noted noted c) refl refl old
  where
    by : (few there : Bool) → nat_lt (length noted) most_noted ≡ few → is_noted noted c ≡ there
        → (few && not there) ≡ false → (is_noted noted c ≡ true) ⊎ (most_noted ≤ length noted)
    by true true is found e = inl found
    by true false is found e = absurd (false≢true (sym e))
    by false there is found e = inr (ltb-false (length noted) most_noted is)

new_ones : (noted some : List Contradiction) → AreNew noted (new_among noted some)
new_ones noted [] = tt
new_ones noted (c ∷ cs) = elim (is_new noted c) as (λ t. is_new noted c ≡ t
    → AreNew noted (cond t (c ∷ new_among (noted ++ c ∷ []) cs) (new_among noted cs))) [
      | true ↦ λ new. ((fresh_where noted c new).apart, new_ones (noted ++ c ∷ []) cs)
      | false ↦ λ old. new_ones noted cs
    ] refl

few_ones : (noted some : List Contradiction) → length noted ≤ most_noted
    → length noted + length (new_among noted some) ≤ most_noted
few_ones noted [] few = omega (arith, few)
few_ones noted (c ∷ cs) few = elim (is_new noted c) as (λ t. is_new noted c ≡ t
    → length noted + length (cond t (c ∷ new_among (noted ++ c ∷ []) cs) (new_among noted cs)) ≤ most_noted) [
      | true ↦ λ new.
          let longer = length-append noted (c ∷ []) in
          let rest = few_ones (noted ++ c ∷ []) cs (omega (arith, (fresh_where noted c new).few, longer)) in
          omega (arith, rest, longer)
      | false ↦ λ old. few_ones noted cs few
    ] refl

pub are_reported_once : AreReportedOnce
are_reported_once noted some new few = (
  new_more [] noted (new_among noted some) new (new_ones noted some),
  (let long = length-append noted (new_among noted some) in let fits = few_ones noted some few in
      omega (arith, long, fits)),
)

abbrev IsNotedOrMany : List Contradiction → Contradiction → Type 0
IsNotedOrMany noted c = (is_noted noted c ≡ true) ⊎ (most_noted ≤ length noted)

still : (xs ys : List Contradiction) (c : Contradiction) → IsNotedOrMany xs c → IsNotedOrMany (xs ++ ys) c
still xs ys c (inl there) = inl (any_append (is_same c) xs ys ∙ ap (λ b. b || list_any (is_same c) ys) there)
still xs ys c (inr many) = inr (let long = length-append xs ys in omega (arith, long, many))

first_noted : (noted : List Contradiction) (c : Contradiction) (cs : List Contradiction)
    → IsNotedOrMany (noted_with noted (c ∷ cs)) c
first_noted noted c cs = elim (is_new noted c) as (λ t. is_new noted c ≡ t
    → IsNotedOrMany (noted ++ cond t (c ∷ new_among (noted ++ c ∷ []) cs) (new_among noted cs)) c) [
      | true ↦ λ new. inl (noted_here noted (new_among (noted ++ c ∷ []) cs) c)
      | false ↦ λ old. still noted (new_among noted cs) c (old_where noted c old)
    ] refl

later_noted : (noted : List Contradiction) (d : Contradiction) (cs : List Contradiction) (c : Contradiction)
    → ((l : List Contradiction) → IsNotedOrMany (noted_with l cs) c) → IsNotedOrMany (noted_with noted (d ∷ cs)) c
later_noted noted d cs c rest =
    elim (is_new noted d) as (λ t. IsNotedOrMany (noted
    ++ cond t (d ∷ new_among (noted ++ d ∷ []) cs) (new_among noted cs)) c) [
      | true ↦ subst (λ (l : List Contradiction). IsNotedOrMany l c)
          (append_assoc noted (d ∷ []) (new_among (noted ++ d ∷ []) cs)) (rest (noted ++ d ∷ []))
      | false ↦ rest noted
    ]

pub none_is_left_out : NoneIsLeftOut
none_is_left_out noted [] c inside = absurd (contains_none c inside)
none_is_left_out noted (d ∷ cs) c inside = elim (contains_cases d cs c inside) [
  | inl is ↦ rw (← is) (first_noted noted d cs)
  | inr more ↦ later_noted noted d cs c (λ l. none_is_left_out l cs c more)
]
