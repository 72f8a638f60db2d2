-- Ending each part as early as possible gives the maximum number of parts, counted frame by frame.
use Rattle.stream_check.proofs.Words.{[], ◌&&◌, ◌++◌, ◌+◌, ◌==◌, ◌||◌, ◌∙◌, ◌∷◌, ◌≡◌, ◌≤◌, Bool, Contains}
use Rattle.stream_check.proofs.Words.{Contains-append_cases, Contains-append_right, HasAll, IsCutInto, IsGreedy}
use Rattle.stream_check.proofs.Words.{IsMostParts, IsTheMost, List, ap, append-nil, append_assoc, arith, concat, cond}
use Rattle.stream_check.proofs.Words.{contains, eq-eqb, eqb-true, false, false≢true, has_all, inl, inr, list_all}
use Rattle.stream_check.proofs.Words.{most_parts, parts_from, refl, subst, suc, sym, true, zero, ℕ}
use Rattle.stream_check.proofs.Cuts.{last, none}
use Rattle.stream_check.proofs.Greedily.{greedy_closes, greedy_stays, greedy_is_most, most_is_one}

-- ---- membership in a list

pub here : (x : ℕ) (xs : List ℕ) → Contains (x ∷ xs) x
here x xs = (0, omega arith, refl)

pub there : (y x : ℕ) (xs : List ℕ) → Contains xs x → Contains (y ∷ xs) x
there y x xs h = Contains-append_right (y ∷ []) xs x h

pub one_of : (id x : ℕ) → Contains (id ∷ []) x → x ≡ id
one_of id x (zero, le, is) = sym is
one_of id x (suc k, le, is) = absurd (omega (arith, le))

pub in_none : (x : ℕ) → Contains [] x → ⊥
in_none x (k, le, is) = omega (arith, le)

from_any : (xs : List ℕ) (x : ℕ) → contains xs x ≡ true → Contains xs x
from_any [] x h = absurd (false≢true h)
from_any (y ∷ ys) x h = elim (y == x) as (λ t. (y == x) ≡ t → (t || contains ys x) ≡ true → Contains (y ∷ ys) x) [
  | true ↦ λ e k. subst (λ (z : ℕ). Contains (y ∷ ys) z) (eqb-true y x e) (here y ys)
  | false ↦ λ e k. there y x ys (from_any ys x k)
] refl h

to_any : (xs : List ℕ) (x : ℕ) → Contains xs x → contains xs x ≡ true
to_any [] x c = absurd (in_none x c)
to_any (y ∷ ys) x c = elim (y == x) as (λ t. (y == x) ≡ t → (t || contains ys x) ≡ true) [
  | true ↦ λ e. refl
  | false ↦ λ e. to_any ys x (elim (Contains-append_cases (y ∷ []) ys x c) [
    | inl first ↦ let same : x ≡ y = one_of y x first in absurd (false≢true (sym e ∙ eq-eqb y x (sym same)))
    | inr rest ↦ rest
  ])
] refl

-- ---- all that is wanted

first_true : (a b : Bool) → (a && b) ≡ true → a ≡ true
first_true true b h = refl
first_true false b h = absurd (false≢true h)

second_true : (a b : Bool) → (a && b) ≡ true → b ≡ true
second_true true b h = h
second_true false b h = absurd (false≢true h)

both_true : (a b : Bool) → a ≡ true → b ≡ true → (a && b) ≡ true
both_true true b h k = k
both_true false b h k = absurd (false≢true h)

all_in : (heard wanted : List ℕ) → list_all (contains heard) wanted ≡ true → (x : ℕ) → Contains wanted x
    → Contains heard x
all_in heard [] h x c = absurd (in_none x c)
all_in heard (y ∷ ys) h x c = elim (Contains-append_cases (y ∷ []) ys x c) [
  | inl first ↦ subst (λ (z : ℕ). Contains heard z) (sym (one_of y x first))
      (from_any heard y (first_true (contains heard y) _ h))
  | inr rest ↦ all_in heard ys (second_true (contains heard y) _ h) x rest
]

in_all : (heard wanted : List ℕ) → ((x : ℕ) → Contains wanted x → Contains heard x)
    → list_all (contains heard) wanted ≡ true
in_all heard [] h = refl
in_all heard (y ∷ ys) h = both_true (contains heard y) (list_all (contains heard) ys) (to_any heard y (h y (here y ys)))
    (in_all heard ys (λ x c. h x (there y x ys c)))

pub has_all_told : (wanted : List ℕ) (frames : List (List ℕ)) → has_all wanted frames ≡ true → HasAll wanted frames
has_all_told wanted frames h = all_in (concat frames) wanted h

pub told_has_all : (wanted : List ℕ) (frames : List (List ℕ)) → HasAll wanted frames → has_all wanted frames ≡ true
told_has_all wanted frames h = in_all (concat frames) wanted h

-- ---- no frames

empty_left : {X : Type 0} (xs ys : List X) → xs ++ ys ≡ [] → xs ≡ []
empty_left [] ys e = refl
empty_left (x ∷ xs) ys e = absurd cc

empty_right : {X : Type 0} (xs ys : List X) → xs ++ ys ≡ [] → ys ≡ []
empty_right [] ys e = e
empty_right (x ∷ xs) ys e = absurd cc

no_frames : (wanted : List ℕ) (m : ℕ) (front back : List (List ℕ)) → front ++ back ≡ [] → IsCutInto wanted m front
    → m ≤ 0
no_frames wanted zero front back e c = omega arith
no_frames wanted (suc k) front back e c =
    let l = last wanted k front c in
    let is = sym (append_assoc l.front l.part back) ∙ ap (λ row. row ++ back) (sym l.is) ∙ e in
    absurd (l.whole.0 (empty_left l.part back (empty_right l.front (l.part ++ back) is)))

pub greedy_at_first : (wanted : List ℕ) → IsGreedy wanted 0 [] []
greedy_at_first wanted = record {
  cut = none wanted;
  most = λ m front back e c. no_frames wanted m front back e c;
  soonest = λ front back e c. omega arith;
}

-- ---- frame by frame

along : (wanted : List ℕ) (n : ℕ) (done part frames : List (List ℕ)) → IsGreedy wanted n done part
    → IsMostParts wanted (n + parts_from wanted part frames) (done ++ (part ++ frames))
along wanted n done part [] g =
    let zero_more : n ≡ n + 0 = omega arith in
    rw (append-nil part) (rw (← zero_more) (greedy_is_most wanted n done part g))
along wanted n done part (f ∷ fs) g =
    elim (has_all wanted (part ++ f ∷ [])) as (λ t. has_all wanted (part ++ f ∷ []) ≡ t
    → IsMostParts wanted (n + cond t (parts_from wanted [] fs + 1) (parts_from wanted (part ++ f ∷ []) fs))
    (done ++ (part ++ f ∷ fs))) [
      | true ↦ λ e.
          let closed = greedy_closes wanted n done part f g (has_all_told wanted (part ++ f ∷ []) e) in
          let rest = along wanted (n + 1) (done ++ (part ++ f ∷ [])) [] fs closed in
          let rows : (done ++ (part ++ f ∷ [])) ++ fs ≡ done ++ (part ++ f ∷ fs) =
          rw (← append_assoc part (f ∷ []) fs) (append_assoc done (part ++ f ∷ []) fs) in
          subst (λ (row : List (List ℕ)). IsMostParts wanted (n + (parts_from wanted [] fs + 1)) row) rows
          (subst (λ (k : ℕ). IsMostParts wanted k ((done ++ (part ++ f ∷ [])) ++ fs)) (omega arith) rest)
      | false ↦ λ e.
          let stays = greedy_stays wanted n done part f g (λ all.
          false≢true (sym e ∙ told_has_all wanted (part ++ f ∷ []) all)) in
          subst (λ (row : List (List ℕ)). IsMostParts wanted (n + parts_from wanted (part ++ f ∷ []) fs) (done ++ row))
          (append_assoc part (f ∷ []) fs) (along wanted n done (part ++ f ∷ []) fs stays)
    ] refl

pub is_the_most : IsTheMost
is_the_most wanted frames =
    let count : 0 + parts_from wanted [] frames ≡ most_parts wanted frames = omega arith in
    rw (← count) (along wanted 0 [] [] frames (greedy_at_first wanted))

-- so a greedy cut has this number of parts
pub parts_counted : (wanted : List ℕ) (n : ℕ) (done open_frames : List (List ℕ)) → IsGreedy wanted n done open_frames
    → n ≡ most_parts wanted (done ++ open_frames)
parts_counted wanted n done open_frames g =
    most_is_one wanted n (most_parts wanted (done ++ open_frames)) (done ++ open_frames)
    (greedy_is_most wanted n done open_frames g) (is_the_most wanted (done ++ open_frames))
