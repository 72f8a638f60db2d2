-- The readings of tests and conditions: what is read is in range and spelled so, and what is spelled so is read.
use Rattle.schedule_front.proofs.Words.{[], ◌++◌, ◌+◌, ◌-◌, ◌<◌, ◌>>=◌, ◌∙◌, ◌∷◌, ◌≡◌, ◌≤◌, AllByRecursion, AreTests}
use Rattle.schedule_front.proofs.Words.{Bool, Contact, IsCondition, IsTest, List, None, Option, ReadsAsSpelled, Some}
use Rattle.schedule_front.proofs.Words.{Spelled, Test, Tests, Time, after_itself, and_lexemes, ap, append-nil}
use Rattle.schedule_front.proofs.Words.{append_assoc, arith, bind_some, both, both_law, built, condition_lexemes}
use Rattle.schedule_front.proofs.Words.{drop, either_given, false, finish, if◌then◌else◌, inl, inr, is_next}
use Rattle.schedule_front.proofs.Words.{keyed, keyed_given, keyed_law, length, letters}
use Rattle.schedule_front.proofs.Words.{made_found, made_given, next_begins, next_itself, number_at, or_lexemes}
use Rattle.schedule_front.proofs.Words.{other_next, refl, suc, sym, test_count, test_lexemes, tests_lexemes}
use Rattle.schedule_front.proofs.Words.{tests_read, time_at, time_text, true, values_are_read, zero, ℕ}
use Rattle.schedule_front.proofs.Words.{Global, HasMoreAlternatives, HasMoreTests, Input, ReadsCondition, ReadsTests}
use Rattle.schedule_front.proofs.Words.{Vec, alternatives_of, map-append}
use Rattle.script_tokens.specs.Taking.{level_at}
use Rattle.script_tokens.specs.declared.keyword.Keyword.TheVariants as the
use Rattle.script_front.proofs.ReadingWaits.{contact_law}
use Rattle.schedule_front.specs.Readers.{test_at, and_from, tests_at, or_from, condition_at}

-- ---- tests

window_law : ReadsAsSpelled (both time_at (keyed the.To time_at)) (λ p. (p.0 < 86400) × (p.1 < 86400))
    (λ p. time_text p.0 ∷ letters the.To ∷ time_text p.1 ∷ [])
window_law = both_law _ _ _ _ _ _ values_are_read.times
    (keyed_law the.To time_at (λ t. t < 86400) (λ t. time_text t ∷ []) values_are_read.times)

test_found : (t : Test) (rest : Spelled) → IsTest t → test_at (test_lexemes t ++ rest) ≡ Some (t, rest)
unfolding test_at
test_found (Contact contact closed) rest is =
    rw (next_itself _ _) (made_found _ _ _ contact_law (λ p. Contact p.0 p.1) _ _ (is, tt))
test_found (Time from to) rest is =
    let later : Spelled = time_text from ∷ letters the.To ∷ time_text to ∷ rest in
    rw (other_next the.Time the.Contact later (λ e. cc), after_itself the.Time later)
    (made_found _ _ _ window_law (λ p. Time p.0 p.1) (from, to) rest is)

pub test_law : ReadsAsSpelled test_at IsTest test_lexemes
unfolding test_at
test_law = record {
  given = λ ws x e. elim (either_given the.Contact (built (λ p. Contact p.0 p.1) (both (number_at 0 15) level_at))
      (keyed the.Time (built (λ p. Time p.0 p.1) (both time_at (keyed the.To time_at)))) ws x e) [
        | inl h ↦ (let g = made_given _ _ _ contact_law (λ p. Contact p.0 p.1) IsTest test_lexemes
            (letters the.Contact ∷ []) (λ a is. is.0) (λ a h. refl) _ x h.1 in (g.0, h.0 ∙ g.1))
        | inr h ↦ (
            let k = keyed_given the.Time (built (λ p. Time p.0 p.1) (both time_at (keyed the.To time_at))) ws x h.1 in
            let g = made_given _ _ _ window_law (λ p. Time p.0 p.1) IsTest test_lexemes (letters the.Time ∷ [])
            (λ a is. is) (λ a h. refl) k.rest x k.read_is in (g.0, k.begins ∙ g.1)
            )
      ];
  found = test_found;
}

-- ---- tests that hold together

abbrev pub Alternatives : Type 0
Alternatives = List (List Test)

pub both_tests : (ts us : List Test) → AllByRecursion IsTest ts → AllByRecursion IsTest us
    → AllByRecursion IsTest (ts ++ us)
both_tests [] us h k = k
both_tests (t ∷ ts) us h k = (h.0, both_tests ts us h.1 k)

-- what is read behind these tests
record AreMore (room : ℕ) (before : List Test) (ws : Spelled) (x : Tests) : Type 0 where
  more : List Test
  is : x.tests ≡ before ++ more
  counts : length more + x.room ≡ room
  each : AllByRecursion IsTest more
  spelled : ws ≡ and_lexemes more ++ x.rest

no_more : (room : ℕ) (before : List Test) (ws : Spelled) (x : Tests) → Some (tests_read before room ws) ≡ Some x
    → AreMore room before ws x
no_more room before ws x e =
    finish (AreMore room before ws) (tests_read before room ws) x e
    (record { more = []; is = sym (append-nil before); counts = omega arith; each = tt; spelled = refl })

more_given : (room : ℕ) (before : List Test) (ws : Spelled) (x : Tests) → and_from room before ws ≡ Some x
    → AreMore room before ws x
unfolding and_from
more_given zero before ws x e = chosen (is_next the.And ws) e
  where
    chosen : (b : Bool) → if◌then◌else◌ {A = Option Tests} b None (Some (tests_read before 0 ws)) ≡ Some x
        → AreMore 0 before ws x
    chosen true f = absurd cc
    chosen false f = no_more 0 before ws x f
more_given (suc room) before ws x e = chosen (more_given room) (is_next the.And ws) refl e
  where
    chosen : ((ts : List Test) (vs : Spelled) (y : Tests) → and_from room ts vs ≡ Some y → AreMore room ts vs y)
        → (b : Bool) → is_next the.And ws ≡ b
        → if◌then◌else◌ {A = Option Tests} b (test_at (drop 1 ws) >>= λ t. and_from room (before ++ t.0 ∷ []) t.1)
        (Some (tests_read before (suc room) ws)) ≡ Some x → AreMore (suc room) before ws x
    chosen given false is f = no_more (suc room) before ws x f
    chosen given true is f = (
        let a = bind_some (test_at (drop 1 ws)) _ x f in
        let g = test_law.given (drop 1 ws) a.x a.first in
        let m = given (before ++ a.x.0 ∷ []) a.x.1 x a.second in
        record {
          more = a.x.0 ∷ m.more;
          is = m.is ∙ append_assoc before (a.x.0 ∷ []) m.more;
          counts = (let c = m.counts in omega (arith, c));
          each = (g.0, m.each);
          spelled = next_begins the.And ws is ∙ ap (λ (vs : Spelled). letters the.And ∷ vs)
              (g.1 ∙ ap (λ (vs : Spelled). test_lexemes a.x.0 ++ vs) m.spelled
              ∙ sym (append_assoc (test_lexemes a.x.0) (and_lexemes m.more) x.rest));
        }
        )

-- the tests that were read
pub record AreTestsRead (room : ℕ) (ws : Spelled) (x : Tests) : Type 0 where
  pub are : AreTests x.tests
  pub counts : length x.tests + x.room ≡ room
  pub spelled : ws ≡ tests_lexemes x.tests ++ x.rest

pub tests_given : (room : ℕ) (ws : Spelled) (x : Tests) → tests_at room ws ≡ Some x → AreTestsRead room ws x
unfolding tests_at
tests_given zero ws x e = absurd cc
tests_given (suc room) ws x e =
    let a = bind_some (test_at ws) _ x e in
    let g = test_law.given ws a.x a.first in
    let m = more_given room (a.x.0 ∷ []) a.x.1 x a.second in
    record {
      are = rw (m.is) (omega arith, (g.0, m.each));
      counts = (let c = m.counts in let l = ap length m.is in omega (arith, c, l));
      spelled = rw (m.is) (g.1 ∙ ap (λ (us : Spelled). test_lexemes a.x.0 ++ us) m.spelled
          ∙ sym (append_assoc (test_lexemes a.x.0) (and_lexemes m.more) x.rest));
    }

-- neither `and` nor `or` is next
abbrev pub IsPast : Spelled → Type 0
IsPast rest = (is_next the.And rest ≡ false) × (is_next the.Or rest ≡ false)

pub all_read : (room : ℕ) (before : List Test) (ws : Spelled) → is_next the.And ws ≡ false
    → and_from room before ws ≡ Some (tests_read before room ws)
unfolding and_from
all_read zero before ws past = rw (past) refl
all_read (suc room) before ws past = rw (past) refl

and_found : (more before : List Test) (left room : ℕ) (rest : Spelled) → AllByRecursion IsTest more
    → length more + room ≡ left → is_next the.And rest ≡ false
    → and_from left before (and_lexemes more ++ rest) ≡ Some (tests_read (before ++ more) room rest)
unfolding and_from
and_found [] before left room rest each c past = let e : left ≡ room = omega (arith, c) in
    rw (e, append-nil before) (all_read room before rest past)
and_found (t ∷ more) before zero room rest each c past = absurd (omega (arith, c))
and_found (t ∷ more) before (suc left) room rest each c past =
    let here = ap test_at (append_assoc (test_lexemes t) (and_lexemes more) rest)
    ∙ test_law.found t (and_lexemes more ++ rest) each.0 in
    let others = and_found more (before ++ t ∷ []) left room rest each.1 (omega (arith, c)) past in
    let same = append_assoc before (t ∷ []) more in
    rw (next_itself the.And ((test_lexemes t ++ and_lexemes more) ++ rest), here) (rw (← same) others)

pub tests_found : (ts : List Test) (left room : ℕ) (rest : Spelled) → AreTests ts → length ts + room ≡ left
    → is_next the.And rest ≡ false → tests_at left (tests_lexemes ts ++ rest) ≡ Some (tests_read ts room rest)
unfolding tests_at
tests_found [] left room rest are c past = absurd (omega (arith, are.0))
tests_found (t ∷ ts) zero room rest are c past = absurd (omega (arith, c))
tests_found (t ∷ ts) (suc left) room rest are c past =
    let here = ap test_at (append_assoc (test_lexemes t) (and_lexemes ts) rest)
    ∙ test_law.found t (and_lexemes ts ++ rest) are.1.0 in
    rw (here) (and_found ts (t ∷ []) left room rest are.1.1 (omega (arith, c)) past)

-- ---- conditions

-- what is read behind these alternatives
record AreOthers (room : ℕ) (before : Alternatives) (ws : Spelled) (x : Alternatives × Spelled) : Type 0 where
  more : Alternatives
  is : x.0 ≡ before ++ more
  few : test_count more ≤ room
  each : AllByRecursion AreTests more
  spelled : ws ≡ or_lexemes more ++ x.1

no_others : (room : ℕ) (before : Alternatives) (ws : Spelled) (x : Alternatives × Spelled) → Some (before, ws) ≡ Some x
    → AreOthers room before ws x
no_others room before ws x e =
    finish (AreOthers room before ws) (before, ws) x e
    (record { more = []; is = sym (append-nil before); few = omega arith; each = tt; spelled = refl })

others_given : (fuel room : ℕ) (before : Alternatives) (ws : Spelled) (x : Alternatives × Spelled)
    → or_from fuel room before ws ≡ Some x → AreOthers room before ws x
unfolding or_from
others_given zero room before ws x e = chosen (is_next the.Or ws) e
  where
    chosen : (b : Bool) → if◌then◌else◌ {A = Option (Alternatives × Spelled)} b None (Some (before, ws)) ≡ Some x
        → AreOthers room before ws x
    chosen true f = absurd cc
    chosen false f = no_others room before ws x f
others_given (suc fuel) room before ws x e = chosen (others_given fuel) (is_next the.Or ws) refl e
  where
    chosen : ((left : ℕ) (cs : Alternatives) (vs : Spelled) (y : Alternatives × Spelled)
        → or_from fuel left cs vs ≡ Some y → AreOthers left cs vs y) → (b : Bool) → is_next the.Or ws ≡ b
        → if◌then◌else◌ {A = Option (Alternatives × Spelled)} b
        (tests_at room (drop 1 ws) >>= λ a. or_from fuel a.room (before ++ a.tests ∷ []) a.rest) (Some (before, ws))
        ≡ Some x → AreOthers room before ws x
    chosen given false is f = no_others room before ws x f
    chosen given true is f = (
        let a = bind_some (tests_at room (drop 1 ws)) _ x f in
        let g = tests_given room (drop 1 ws) a.x a.first in
        let m = given a.x.room (before ++ a.x.tests ∷ []) a.x.rest x a.second in
        record {
          more = a.x.tests ∷ m.more;
          is = m.is ∙ append_assoc before (a.x.tests ∷ []) m.more;
          few = (let c = m.few in let d = g.counts in omega (arith, c, d));
          each = (g.are, m.each);
          spelled = next_begins the.Or ws is ∙ ap (λ (vs : Spelled). letters the.Or ∷ vs)
              (g.spelled ∙ ap (λ (vs : Spelled). tests_lexemes a.x.tests ++ vs) m.spelled
              ∙ sym (append_assoc (tests_lexemes a.x.tests) (or_lexemes m.more) x.1));
        }
        )

-- what is read as a condition
pub condition_given : (ws : Spelled) (x : Alternatives × Spelled) → condition_at ws ≡ Some x → IsCondition x.0
    × (ws ≡ condition_lexemes x.0 ++ x.1)
unfolding condition_at
condition_given ws x e =
    let a = bind_some (tests_at 32 ws) _ x e in
    let g = tests_given 32 ws a.x a.first in
    let m = others_given a.x.room a.x.room (a.x.tests ∷ []) a.x.rest x a.second in (
      rw (m.is) (record {
        some = omega arith;
        each = (g.are, m.each);
        few = (let c = m.few in let d = g.counts in omega (arith, c, d));
      }),
      rw (m.is) (g.spelled ∙ ap (λ (vs : Spelled). tests_lexemes a.x.tests ++ vs) m.spelled
          ∙ sym (append_assoc (tests_lexemes a.x.tests) (or_lexemes m.more) x.1)),
    )

-- `and` does not follow an alternative
no_and : (more : Alternatives) (rest : Spelled) → IsPast rest → is_next the.And (or_lexemes more ++ rest) ≡ false
no_and [] rest past = past.0
no_and (ts ∷ more) rest past = other_next the.Or the.And _ (λ e. cc)

others_found : (more before : Alternatives) (fuel room : ℕ) (rest : Spelled) → AllByRecursion AreTests more
    → test_count more ≤ room → room ≤ fuel → IsPast rest
    → or_from fuel room before (or_lexemes more ++ rest) ≡ Some (before ++ more, rest)
unfolding or_from
others_found [] before zero room rest each few fuelled past =
    rw (past.1) (ap (λ (cs : Alternatives). Some (cs, rest)) (sym (append-nil before)))
others_found [] before (suc fuel) room rest each few fuelled past =
    rw (past.1) (ap (λ (cs : Alternatives). Some (cs, rest)) (sym (append-nil before)))
others_found (ts ∷ more) before zero room rest each few fuelled past =
    absurd (let some = each.0.0 in omega (arith, few, fuelled, some))
others_found (ts ∷ more) before (suc fuel) room rest each few fuelled past =
    let left : ℕ = room - length ts in
    let some = each.0.0 in
    let here = ap (tests_at room) (append_assoc (tests_lexemes ts) (or_lexemes more) rest)
    ∙ tests_found ts room left (or_lexemes more ++ rest) each.0 (omega (arith, few)) (no_and more rest past) in
    let others = others_found more (before ++ ts ∷ []) fuel left rest each.1 (omega (arith, few))
    (omega (arith, few, fuelled, some)) past in
    let same = append_assoc before (ts ∷ []) more in
    rw (next_itself the.Or ((tests_lexemes ts ++ or_lexemes more) ++ rest), here) (rw (← same) others)

pub condition_found : (c : Alternatives) (rest : Spelled) → IsCondition c → IsPast rest
    → condition_at (condition_lexemes c ++ rest) ≡ Some (c, rest)
unfolding condition_at
condition_found [] rest is past = absurd (let some = is.some in omega (arith, some))
condition_found (ts ∷ more) rest is past =
    let left : ℕ = 32 - length ts in
    let few = is.few in
    let here = ap (tests_at 32) (append_assoc (tests_lexemes ts) (or_lexemes more) rest)
    ∙ tests_found ts 32 left (or_lexemes more ++ rest) is.each.0 (omega (arith, few)) (no_and more rest past) in
    rw (here) (others_found more (ts ∷ []) left left rest is.each.1 (omega (arith, few)) (omega arith) past)

-- ---- tests one after another, as the code reads them

-- the tests that were read so far, and those that are read from here; `now` is after a test
pub record AndOn (old room : ℕ) (tests : List Test) (before now : Input) : Type 0 where
  pub read : tests_at old before.lexemes ≡ and_from room tests now.lexemes
  pub same : now.lines ≡ before.lines
  pub fewer : room < old

pub first_read : (room left : ℕ) (old new : List Test) (i j : Input) → old ≡ [] → HasMoreTests old new room left i j
    → AndOn room left new i j
unfolding tests_at
first_read zero left old new i j none h = absurd (let some = h.some in omega (arith, some))
first_read (suc room) left old new i j none h =
    let less : left ≡ room = (let f = h.fewer in omega (arith, f)) in
    let is : new ≡ h.test ∷ [] = h.more ∙ ap (λ (xs : List Test). xs ++ h.test ∷ []) none in
    record { read = rw (h.read, less, is) refl; same = h.same; fewer = omega (arith, less) }

pub none_first : (room : ℕ) (ws : Spelled) → (1 ≤ room → test_at ws ≡ None) → tests_at room ws ≡ None
unfolding tests_at
none_first zero ws none = refl
none_first (suc room) ws none = rw (none (omega arith)) refl

pub next_read : (first room left : ℕ) (old new : List Test) (i j k l : Input) → AndOn first room old i j
    → is_next the.And j.lexemes ≡ true → k.lexemes ≡ drop 1 j.lexemes → k.lines ≡ j.lines
    → HasMoreTests old new room left k l → AndOn first left new i l
unfolding and_from
next_read first zero left old new i j k l on next cut same h = absurd (let some = h.some in omega (arith, some))
next_read first (suc room) left old new i j k l on next cut same h =
    let less : left ≡ room = (let f = h.fewer in omega (arith, f)) in
    record {
      read = on.read ∙ rw (next, ← cut, h.read, less, h.more) refl;
      same = h.same ∙ same ∙ on.same;
      fewer = (let f = on.fewer in omega (arith, f, less));
    }

pub none_next : (first room : ℕ) (old : List Test) (i j k : Input) → AndOn first room old i j
    → is_next the.And j.lexemes ≡ true → k.lexemes ≡ drop 1 j.lexemes → (1 ≤ room → test_at k.lexemes ≡ None)
    → tests_at first i.lexemes ≡ None
unfolding and_from
none_next first zero old i j k on next cut none = on.read ∙ rw (next) refl
none_next first (suc room) old i j k on next cut none =
    let stuck : test_at (drop 1 j.lexemes) ≡ None = rw (← cut) (none (omega arith)) in
    on.read ∙ rw (next, stuck) refl

pub tests_read_on : (first room : ℕ) (old : List Test) (i j : Input) → AndOn first room old i j
    → is_next the.And j.lexemes ≡ false → ReadsTests old first room i j
tests_read_on first room old i j on past = record { read = on.read ∙ all_read room old j.lexemes past; same = on.same }

-- ---- alternatives one after another, as the code reads them

pub one_longer : (xs ys : List (Vec Test Global)) (v : Vec Test Global) → ys ≡ xs ++ v ∷ []
    → alternatives_of ys ≡ alternatives_of xs ++ v.items ∷ []
one_longer xs ys v e = rw (e) (map-append (λ tests. tests.items) xs (v ∷ []))

-- the condition that was read so far, and what is read from here
pub record OrOn (room : ℕ) (condition : Alternatives) (before now : Input) : Type 0 where
  pub fuel : ℕ
  pub enough : room ≤ fuel
  pub read : condition_at before.lexemes ≡ or_from fuel room condition now.lexemes
  pub same : now.lines ≡ before.lines

pub begins_on : (left : ℕ) (old new : Alternatives) (i j : Input) → old ≡ [] → HasMoreAlternatives old new 32 left i j
    → OrOn left new i j
unfolding condition_at
begins_on left old new i j none h =
    let is : new ≡ h.tests ∷ [] = h.more ∙ ap (λ (xs : Alternatives). xs ++ h.tests ∷ []) none in
    record { fuel = left; enough = omega arith; read = rw (h.read, is) refl; same = h.same }

pub none_begins : (ws : Spelled) → tests_at 32 ws ≡ None → condition_at ws ≡ None
unfolding condition_at
none_begins ws none = rw (none) refl

pub goes_on : (room left : ℕ) (old new : Alternatives) (i j k l : Input) → OrOn room old i j
    → is_next the.Or j.lexemes ≡ true → k.lexemes ≡ drop 1 j.lexemes → k.lines ≡ j.lines
    → HasMoreAlternatives old new room left k l → OrOn left new i l
unfolding or_from
goes_on room left old new i j k l on next cut same h = further on.fuel on.enough on.read
  where
    further : (fuel : ℕ) → room ≤ fuel → condition_at i.lexemes ≡ or_from fuel room old j.lexemes → OrOn left new i l
    further zero enough read = absurd (let f = h.fewer in omega (arith, enough, f))
    further (suc fuel) enough read = record {
      fuel = fuel;
      enough = (let f = h.fewer in omega (arith, enough, f));
      read = read ∙ rw (next, ← cut, h.read, h.more) refl;
      same = h.same ∙ same ∙ on.same;
    }

pub none_on : (room : ℕ) (old : Alternatives) (i j k : Input) → OrOn room old i j → is_next the.Or j.lexemes ≡ true
    → k.lexemes ≡ drop 1 j.lexemes → tests_at room k.lexemes ≡ None → condition_at i.lexemes ≡ None
unfolding or_from
none_on room old i j k on next cut none = further on.fuel on.read
  where
    stuck : tests_at room (drop 1 j.lexemes) ≡ None
    stuck = rw (← cut) none

    further : (fuel : ℕ) → condition_at i.lexemes ≡ or_from fuel room old j.lexemes → condition_at i.lexemes ≡ None
    further zero read = read ∙ rw (next) refl
    further (suc fuel) read = read ∙ rw (next, stuck) refl

pub condition_read : (room : ℕ) (old : Alternatives) (i j : Input) → OrOn room old i j
    → is_next the.Or j.lexemes ≡ false → ReadsCondition old i j
unfolding or_from
condition_read room old i j on past = record { read = further on.fuel on.read; same = on.same }
  where
    further : (fuel : ℕ) → condition_at i.lexemes ≡ or_from fuel room old j.lexemes
        → condition_at i.lexemes ≡ Some (old, j.lexemes)
    further zero read = read ∙ rw (past) refl
    further (suc fuel) read = read ∙ rw (past) refl
