-- Alternatives beside each other, and the slots that keep them.
use Rattle.script_front.proofs.Words.{[], ◌++◌, ◌+◌, ◌-◌, ◌<◌, ◌||◌, ◌∙◌, ◌∷◌, ◌≡◌, ◌≤◌, AllByRecursion, Alternative}
use Rattle.script_front.proofs.Words.{AreAlternatives, Bool, IsAlternative, List, ap, append_assoc, arith, cond, false}
use Rattle.script_front.proofs.Words.{filter, is_moment, is_frames, length, length-append, list_any, may_follow, not}
use Rattle.script_front.proofs.Words.{refl, replicate, set, set-append_seam, subst, suc, sym, take, take-append_seam}
use Rattle.script_front.proofs.Words.{true, ℕ}
use Rattle.script_front.specs.declared.alternatives.Alternative.TheVariants.{Contact, Until, Frames}
use Rattle.script_front.specs.Slots.{in_slots}

abbrev pub Alternatives : Type 0
Alternatives = List Alternative

abbrev pub Test : Type 0
Test = Alternative → Bool

-- ---- how many pass a test

abbrev pub one_if : Bool → ℕ
one_if b = cond b 1 0

count_cons : (p : Test) (a : Alternative) (others : Alternatives)
    → length (filter p (a ∷ others)) ≡ one_if (p a) + length (filter p others)
count_cons p a others = chosen (p a)
  where
    chosen : (b : Bool) → length (cond b (a ∷ filter p others) (filter p others)) ≡ one_if b + length (filter p others)
    chosen true = omega arith
    chosen false = omega arith

pub count_both : (p : Test) (before more : Alternatives)
    → length (filter p (before ++ more)) ≡ length (filter p before) + length (filter p more)
count_both p [] more = omega arith
count_both p (a ∷ before) more =
    let g = count_both p before more in
    let n : ℕ = one_if (p a) in omega (arith, count_cons p a (before ++ more), count_cons p a before, g)

-- none passes a test, or some do
pub none_counts : (p : Test) (all : Alternatives) → list_any p all ≡ false → length (filter p all) ≡ 0
none_counts p [] h = refl
none_counts p (a ∷ others) h = chosen (none_counts p others) (p a) h
  where
    chosen : (list_any p others ≡ false → length (filter p others) ≡ 0) → (b : Bool) → (b || list_any p others) ≡ false
        → length (cond b (a ∷ filter p others) (filter p others)) ≡ 0
    chosen later true f = absurd cc
    chosen later false f = later f

pub counts_none : (p : Test) (all : Alternatives) → length (filter p all) ≡ 0 → list_any p all ≡ false
counts_none p [] h = refl
counts_none p (a ∷ others) h = chosen (counts_none p others) (p a) h
  where
    chosen : (length (filter p others) ≡ 0 → list_any p others ≡ false) → (b : Bool)
        → length (cond b (a ∷ filter p others) (filter p others)) ≡ 0 → (b || list_any p others) ≡ false
    chosen later true f = absurd (omega (arith, f))
    chosen later false f = later f

-- ---- alternatives beside each other

-- in range, and at most one moment, and at most one number of frames
pub record AreTogether (all : Alternatives) : Type 0 where
  pub each : AllByRecursion IsAlternative all
  pub one_moment : length (filter is_moment all) ≤ 1
  pub one_number : length (filter is_frames all) ≤ 1

pub each_both : (before more : Alternatives) → AllByRecursion IsAlternative before → AllByRecursion IsAlternative more
    → AllByRecursion IsAlternative (before ++ more)
each_both [] more h k = k
each_both (a ∷ before) more h k = (h.0, each_both before more h.1 k)

pub each_later : (before more : Alternatives) → AllByRecursion IsAlternative (before ++ more)
    → AllByRecursion IsAlternative more
each_later [] more h = h
each_later (a ∷ before) more h = each_later before more h.1

pub alone : (a : Alternative) → IsAlternative a → AreTogether (a ∷ [])
alone (Contact contact closed) h = record { each = (h, tt); one_moment = omega arith; one_number = omega arith }
alone (Until moment) h = record { each = (h, tt); one_moment = omega arith; one_number = omega arith }
alone (Frames frames) h = record { each = (h, tt); one_moment = omega arith; one_number = omega arith }

-- a test that finds none
not_any : (b : Bool) → not b ≡ true → b ≡ false
not_any true h = absurd cc
not_any false h = refl

is_so : (b : Bool) → b ≡ false → not b ≡ true
is_so true h = absurd cc
is_so false h = refl

pub one_more : (before : Alternatives) (a : Alternative) → AreTogether before → IsAlternative a
    → may_follow before a ≡ true → AreTogether (before ++ a ∷ [])
one_more before (Contact contact closed) h is fits =
    record {
      each = each_both before _ h.each (is, tt);
      one_moment = omega (arith, count_both is_moment before (Contact contact closed ∷ []));
      one_number = omega (arith, count_both is_frames before (Contact contact closed ∷ []));
    }
one_more before (Until moment) h is fits =
    let x = none_counts is_moment before (not_any _ fits) in
    record {
      each = each_both before _ h.each (is, tt);
      one_moment = omega (arith, count_both is_moment before (Until moment ∷ []), x);
      one_number = omega (arith, count_both is_frames before (Until moment ∷ []), h.one_number);
    }
one_more before (Frames frames) h is fits =
    let y = none_counts is_frames before (not_any _ fits) in
    record {
      each = each_both before _ h.each (is, tt);
      one_moment = omega (arith, count_both is_moment before (Frames frames ∷ []), h.one_moment);
      one_number = omega (arith, count_both is_frames before (Frames frames ∷ []), y);
    }

-- the next one among such alternatives could be beside those before it
pub next_fits : (before : Alternatives) (a : Alternative) (more : Alternatives) → AreTogether (before ++ a ∷ more)
    → may_follow before a ≡ true
next_fits before (Contact contact closed) more h = refl
next_fits before (Until moment) more h =
    let m = count_both is_moment before (Until moment ∷ more) in
    let x = h.one_moment in is_so _ (counts_none is_moment before (omega (arith, m, x)))
next_fits before (Frames frames) more h =
    let m = count_both is_frames before (Frames frames ∷ more) in
    let x = h.one_number in is_so _ (counts_none is_frames before (omega (arith, m, x)))

pub are_together : (all : Alternatives) → AreAlternatives all → AreTogether all
are_together all h = record { each = h.each; one_moment = h.one_moment; one_number = h.one_number }

pub are_alternatives : (all : Alternatives) → 2 ≤ length all → length all ≤ 8 → AreTogether all → AreAlternatives all
are_alternatives all two eight h =
    record { several = two; few = eight; each = h.each; one_moment = h.one_moment; one_number = h.one_number }

-- ---- slots

-- one more in the slots
pushed : (all : Alternatives) (next : Alternative) → 2 ≤ length all → length all < 8
    → set (in_slots all) (length all) next ≡ in_slots (all ++ next ∷ [])
pushed [] next some room = absurd (omega (arith, some))
pushed (first ∷ others) next some room =
    let n : ℕ = 7 - length (first ∷ others) in
    let e : 8 - length (first ∷ others) ≡ suc n = omega (arith, room) in
    let f : 8 - length ((first ∷ others) ++ next ∷ []) ≡ n =
    (let l = length-append (first ∷ others) (next ∷ []) in omega (arith, l, room)) in
    rw (e) (rw (f) (set-append_seam (first ∷ others) first (replicate n first) next
    ∙ sym (append_assoc (first ∷ others) (next ∷ []) (replicate n first))))

-- the slots begin with the alternatives
begin_with : (all : Alternatives) → take (length all) (in_slots all) ≡ all
begin_with [] = refl
begin_with (first ∷ others) = take-append_seam (first ∷ others) (replicate (8 - length (first ∷ others)) first)

-- the slots of one more alternative, and how many of them are in use
pub record HasOneMore (slots : Alternatives) (len : ℕ) (next : Alternative) : Type 0 where
  pub begins : take (len + 1) (set slots len next) ≡ take len slots ++ next ∷ []
  pub long : len + 1 ≡ length (take (len + 1) (set slots len next))
  pub kept : set slots len next ≡ in_slots (take (len + 1) (set slots len next))
  pub are : AreAlternatives (take (len + 1) (set slots len next))

pub has_one_more : (slots all : Alternatives) (len : ℕ) (next : Alternative) → take len slots ≡ all → len ≡ length all
    → slots ≡ in_slots all → AreAlternatives all → IsAlternative next
    → length all < 8 → may_follow all next ≡ true → HasOneMore slots len next
has_one_more slots all len next begins long kept are is room fits =
    let now : set slots len next ≡ in_slots (all ++ next ∷ []) = rw (kept, long) (pushed all next are.several room) in
    let count : length (all ++ next ∷ []) ≡ len + 1 =
    (let l = length-append all (next ∷ []) in omega (arith, l, long)) in
    let front : take (len + 1) (set slots len next) ≡ all ++ next ∷ [] =
    ap (take (len + 1)) now ∙ ap (λ (n : ℕ). take n (in_slots (all ++ next ∷ []))) (sym count)
    ∙ begin_with (all ++ next ∷ []) in
    record {
      begins = rw (begins) front;
      long = sym count ∙ ap length (sym front);
      kept = now ∙ ap in_slots (sym front);
      are = subst AreAlternatives (sym front)
          (are_alternatives (all ++ next ∷ []) (omega (arith, count, long)) (omega (arith, count, long, room))
          (one_more all next (are_together all are) is fits));
    }
