-- The readings of moments, of waits and of conditions: what is read is spelled so, and what is spelled so is read,
-- where neither `early` nor `or` follows.
use Rattle.script_front.proofs.Words.{[], ◌++◌, ◌+◌, ◌-◌, ◌<◌, ◌>>=◌, ◌∙◌, ◌∷◌, ◌≡◌, ◌≤◌, Act, Alternative, At}
use Rattle.script_front.proofs.Words.{Bool, Condition, Contact, Early, IsAct, IsAlternative, IsCondition, IsMoment}
use Rattle.script_front.proofs.Words.{None, Option, ReadsAsSpelled, Some, Spelled, Time, Wait, WaitAny, WaitContact}
use Rattle.script_front.proofs.Words.{act_lexemes, after_itself, allowed, alternative_lexemes, alternatives_lexemes, ap}
use Rattle.script_front.proofs.Words.{append-nil, append_assoc, arith, below, bind_some, both, both_law, built}
use Rattle.script_front.proofs.Words.{condition_lexemes, decimal, drop, either_given, false, finish, from_one, giving}
use Rattle.script_front.proofs.Words.{if◌then◌else◌, inl, inr, is_next, keyed, keyed_given, keyed_law, length}
use Rattle.script_front.proofs.Words.{length-append, level_at, level_text, made_found, made_given, may_follow}
use Rattle.script_front.proofs.Words.{moment_lexemes, next_itself, not_next, number_at, or_lexemes, other_next, refl}
use Rattle.script_front.proofs.Words.{subst, suc, sym, time_at, time_text, true, values_are_read, wait_for, waiting}
use Rattle.script_front.proofs.Words.{zero, ℕ}
use Rattle.script_tokens.proofs.Keys.{no_decimal}
use Rattle.script_tokens.specs.Reading.{either}
use Rattle.script_tokens.specs.Keywords.{letters}
use Rattle.script_front.specs.declared.moment.MomentForm.{MomentForm as Moment}
use Rattle.script_front.specs.declared.alternatives.Alternative.TheVariants.{Contact as OfContact, Until as OfMoment}
use Rattle.script_front.specs.declared.alternatives.Alternative.TheVariants.{Frames as OfFrames}
use Rattle.script_front.specs.Readers.{moment_at, alternative_at, allowed_at, alternatives_from, waiting_at}
use Rattle.script_front.specs.Readers.{condition_at}
use Rattle.script_tokens.specs.declared.keyword.Keyword.TheVariants as the
use Rattle.script_front.proofs.Beside.{Alternatives, AreTogether, alone, one_more, next_fits, each_later, are_together}
use Rattle.script_front.proofs.Beside.{are_alternatives}

-- ---- fields

pub contact_law : ReadsAsSpelled (both (number_at 0 15) level_at) (λ p. (p.0 < 16) × Unit {0})
    (λ p. decimal p.0 ∷ level_text p.1 ∷ [])
contact_law = both_law _ _ _ _ _ _ (below 16 15 refl (omega arith)) values_are_read.levels

pub frames_law : ReadsAsSpelled (number_at 1 65535) (λ n. (1 ≤ n) × (n < 65536)) (λ n. decimal n ∷ [])
frames_law = from_one 65536 65535 refl (omega arith)

-- a number is not one of the keywords that begin an alternative
not_contact : (n : ℕ) (ws : Spelled) → n < 65536 → is_next the.Contact (decimal n ∷ ws) ≡ false
unfolding letters
not_contact n ws small = not_next the.Contact (decimal n) ws (no_decimal the.Contact n (omega (arith, small)) refl)

not_until : (n : ℕ) (ws : Spelled) → n < 65536 → is_next the.Until (decimal n ∷ ws) ≡ false
unfolding letters
not_until n ws small = not_next the.Until (decimal n) ws (no_decimal the.Until n (omega (arith, small)) refl)

-- ---- moments

-- a moment, or one some frames before it
pub moment_given : (ws : Spelled) (x : Moment × Spelled) → moment_at ws ≡ Some x → IsMoment x.0
    × (ws ≡ moment_lexemes x.0 ++ x.1)
unfolding moment_at
moment_given ws x e =
    let a = bind_some (time_at ws) _ x e in
    let f = values_are_read.times.given ws a.x a.first in
    elim (either_given the.Early (built (Early a.x.0) (number_at 1 65535))
    (λ vs. Some (At a.x.0, vs)) a.x.1 x a.second) [
      | inl h ↦ (
          let n = bind_some (number_at 1 65535 (drop 1 a.x.1)) (giving (Early a.x.0)) x h.1 in
          let g = frames_law.given (drop 1 a.x.1) n.x n.first in
          finish (λ y. IsMoment y.0 × (ws ≡ moment_lexemes y.0 ++ y.1)) (Early a.x.0 n.x.0, n.x.1) x n.second (
            (f.0, g.0.0, g.0.1),
            f.1 ∙ ap (λ (vs : Spelled). time_text a.x.0 ∷ vs)
                (h.0 ∙ ap (λ (vs : Spelled). letters the.Early ∷ vs) g.1),
          )
          )
      | inr h ↦ finish (λ y. IsMoment y.0 × (ws ≡ moment_lexemes y.0 ++ y.1)) (At a.x.0, a.x.1) x h.1 (f.0, f.1)
    ]

pub moment_found : (m : Moment) (rest : Spelled) → IsMoment m → is_next the.Early rest ≡ false
    → moment_at (moment_lexemes m ++ rest) ≡ Some (m, rest)
unfolding moment_at
moment_found (At time) rest is not = rw (values_are_read.times.found time rest is, not) refl
moment_found (Early time frames) rest is not =
    rw (
      values_are_read.times.found time (letters the.Early ∷ decimal frames ∷ rest) is.0,
      next_itself the.Early (decimal frames ∷ rest),
      frames_law.found frames rest (is.1, is.2),
    ) refl

-- ---- an alternative

abbrev pub IsGiven : Spelled → Alternative × Spelled → Type 0
IsGiven ws x = IsAlternative x.0 × (ws ≡ alternative_lexemes x.0 ++ x.1)

alternative_given : (ws : Spelled) (x : Alternative × Spelled) → alternative_at ws ≡ Some x → IsGiven ws x
unfolding alternative_at
alternative_given ws x e = elim (either_given the.Contact
    (built (λ p. OfContact p.0 p.1) (both (number_at 0 15) level_at))
    (either the.Until (built OfMoment moment_at) (built OfFrames (number_at 1 65535))) ws x e) [
      | inl h ↦ (let g = made_given _ _ _ contact_law (λ p. OfContact p.0 p.1) IsAlternative alternative_lexemes
          (letters the.Contact ∷ []) (λ a is. is.0) (λ a h. refl) _ x h.1 in (g.0, h.0 ∙ g.1))
      | inr h ↦ elim (either_given the.Until (built OfMoment moment_at) (built OfFrames (number_at 1 65535)) ws x h.1) [
        | inl k ↦ (
            let m = bind_some (moment_at (drop 1 ws)) (giving OfMoment) x k.1 in
            let g = moment_given (drop 1 ws) m.x m.first in
            finish (IsGiven ws) (OfMoment m.x.0, m.x.1) x m.second
            (g.0, k.0 ∙ ap (λ (vs : Spelled). letters the.Until ∷ vs) g.1)
            )
        | inr k ↦ made_given _ _ _ frames_law OfFrames IsAlternative alternative_lexemes [] (λ a is. is) (λ a h. refl)
            ws x
            k.1
      ]
    ]

alternative_found : (a : Alternative) (rest : Spelled) → IsAlternative a → is_next the.Early rest ≡ false
    → alternative_at (alternative_lexemes a ++ rest) ≡ Some (a, rest)
unfolding alternative_at
alternative_found (OfContact contact closed) rest is not =
    rw (next_itself _ _) (made_found _ _ _ contact_law (λ p. OfContact p.0 p.1) _ _ (is, tt))
alternative_found (OfMoment moment) rest is not =
    rw (
      other_next the.Until the.Contact (moment_lexemes moment ++ rest) (λ e. cc),
      next_itself the.Until (moment_lexemes moment ++ rest),
      moment_found moment rest is not,
    ) refl
alternative_found (OfFrames frames) rest is not =
    rw (not_contact frames rest is.1, not_until frames rest is.1) (made_found _ _ _ frames_law OfFrames frames rest is)

allowed_given : (before : Alternatives) (ws : Spelled) (x : Alternative × Spelled) → allowed_at before ws ≡ Some x
    → IsGiven ws x × (may_follow before x.0 ≡ true)
unfolding allowed_at
allowed_given before ws x e =
    let a = bind_some (alternative_at ws) (allowed before) x e in
    chosen a.x (may_follow before a.x.0) refl (alternative_given ws a.x a.first) a.second
  where
    chosen : (y : Alternative × Spelled) (b : Bool) → may_follow before y.0 ≡ b → IsGiven ws y
        → if◌then◌else◌ {A = Option (Alternative × Spelled)} b (Some y) None ≡ Some x → IsGiven ws x
        × (may_follow before x.0 ≡ true)
    chosen y true is g f = finish (λ z. IsGiven ws z × (may_follow before z.0 ≡ true)) y x f (g, is)
    chosen y false is g f = absurd cc

allowed_found : (before : Alternatives) (a : Alternative) (rest : Spelled) → IsAlternative a
    → may_follow before a ≡ true → is_next the.Early rest ≡ false
    → allowed_at before (alternative_lexemes a ++ rest) ≡ Some (a, rest)
unfolding allowed_at
allowed_found before a rest is fits not = rw (alternative_found a rest is not, fits) refl

-- ---- several alternatives

-- neither `early` nor `or` is next
abbrev pub IsPast : Spelled → Type 0
IsPast rest = (is_next the.Early rest ≡ false) × (is_next the.Or rest ≡ false)

record AreMore (room : ℕ) (before : Alternatives) (ws : Spelled) (x : Alternatives × Spelled) : Type 0 where
  more : Alternatives
  is : x.0 ≡ before ++ more
  few : length more ≤ room
  together : AreTogether x.0
  spelled : ws ≡ or_lexemes more ++ x.1

no_more : (room : ℕ) (before : Alternatives) (ws : Spelled) (x : Alternatives × Spelled) → AreTogether before
    → Some (before, ws) ≡ Some x → AreMore room before ws x
no_more room before ws x h e =
    finish (AreMore room before ws) (before, ws) x e
    (record { more = []; is = sym (append-nil before); few = omega arith; together = h; spelled = refl })

more_given : (room : ℕ) (before : Alternatives) (ws : Spelled) (x : Alternatives × Spelled) → AreTogether before
    → alternatives_from room before ws ≡ Some x → AreMore room before ws x
unfolding alternatives_from
more_given zero before ws x h e = elim (either_given the.Or (λ vs. None) (λ vs. Some (before, vs)) ws x e) [
  | inl k ↦ absurd cc
  | inr k ↦ no_more zero before ws x h k.1
]
more_given (suc room) before ws x h e =
    elim (either_given the.Or (λ vs. allowed_at before vs >>= λ a. alternatives_from room (before ++ a.0 ∷ []) a.1)
    (λ vs. Some (before, vs)) ws x e) [
      | inl k ↦ (
          let a = bind_some (allowed_at before (drop 1 ws)) _ x k.1 in
          let g = allowed_given before (drop 1 ws) a.x a.first in
          let m = more_given room (before ++ a.x.0 ∷ []) a.x.1 x (one_more before a.x.0 h g.0.0 g.1) a.second in
          record {
            more = a.x.0 ∷ m.more;
            is = m.is ∙ append_assoc before (a.x.0 ∷ []) m.more;
            few = (let f = m.few in omega (arith, f));
            together = m.together;
            spelled = k.0 ∙ ap (λ (vs : Spelled). letters the.Or ∷ vs)
                (g.0.1 ∙ ap (λ (vs : Spelled). alternative_lexemes a.x.0 ++ vs) m.spelled
                ∙ sym (append_assoc (alternative_lexemes a.x.0) (or_lexemes m.more) x.1));
          }
          )
      | inr k ↦ no_more (suc room) before ws x h k.1
    ]

-- `early` does not follow an alternative
no_early : (more : Alternatives) (rest : Spelled) → IsPast rest → is_next the.Early (or_lexemes more ++ rest) ≡ false
no_early [] rest past = past.0
no_early (a ∷ more) rest past = other_next the.Or the.Early _ (λ e. cc)

more_found : (room : ℕ) (before more : Alternatives) (rest : Spelled) → length more ≤ room
    → AreTogether (before ++ more) → IsPast rest → alternatives_from room before (or_lexemes more ++ rest)
    ≡ Some (before ++ more, rest)
unfolding alternatives_from
more_found zero before [] rest few h past =
    rw (past.1) (ap (λ (all : Alternatives). Some (all, rest)) (sym (append-nil before)))
more_found (suc room) before [] rest few h past =
    rw (past.1) (ap (λ (all : Alternatives). Some (all, rest)) (sym (append-nil before)))
more_found zero before (a ∷ more) rest few h past = absurd (omega (arith, few))
more_found (suc room) before (a ∷ more) rest few h past =
    let is : IsAlternative a = (each_later before (a ∷ more) h.each).0 in
    let here = ap (allowed_at before) (append_assoc (alternative_lexemes a) (or_lexemes more) rest)
    ∙ allowed_found before a (or_lexemes more ++ rest) is (next_fits before a more h) (no_early more rest past) in
    let same = append_assoc before (a ∷ []) more in
    let others = more_found room (before ++ a ∷ []) more rest (omega (arith, few)) (subst AreTogether (sym same) h)
    past in
    rw (next_itself the.Or ((alternative_lexemes a ++ or_lexemes more) ++ rest), here) (rw (← same) others)

-- ---- a wait

abbrev pub wait_rest : Act → Spelled
wait_rest a = drop 1 (act_lexemes a)

abbrev pub IsWait : Act → Type 0
IsWait (Wait frames) = Unit {0}
IsWait (WaitContact contact closed) = Unit {0}
IsWait (WaitAny all) = Unit {0}
IsWait _ = ⊥

-- a `wait` in range
abbrev pub IsWaitRead : Spelled → Act × Spelled → Type 0
IsWaitRead ws x = IsAct x.0 × IsWait x.0 × (ws ≡ wait_rest x.0 ++ x.1)

one_given : (a : Alternative) (ws : Spelled) (rest : Spelled) (x : Act × Spelled) → IsGiven ws (a, rest)
    → waiting (a ∷ [], rest) ≡ Some x → IsWaitRead ws x
one_given (OfContact contact closed) ws rest x g e =
    finish (IsWaitRead ws) (WaitContact contact closed, rest) x e (g.0, tt, g.1)
one_given (OfMoment moment) ws rest x g e = absurd cc
one_given (OfFrames frames) ws rest x g e = finish (IsWaitRead ws) (Wait frames, rest) x e (g.0, tt, g.1)

for_several : (a b : Alternative) (more : Alternatives) → wait_for (a ∷ b ∷ more) ≡ Some (WaitAny (a ∷ b ∷ more))
for_several (OfContact contact closed) b more = refl
for_several (OfMoment moment) b more = refl
for_several (OfFrames frames) b more = refl

several_given : (a : Alternative) (more : Alternatives) (ws vs rest : Spelled) (x : Act × Spelled) → IsGiven ws (a, vs)
    → AreTogether (a ∷ more) → length more ≤ 7 → vs ≡ or_lexemes more ++ rest
    → waiting (a ∷ more, rest) ≡ Some x → IsWaitRead ws x
several_given a [] ws vs rest x g h few e f = one_given a ws rest x (g.0, rw (← e) g.1) f
several_given a (b ∷ more) ws vs rest x g h few e f =
    let all : Alternatives = a ∷ b ∷ more in
    let is : Some (let y : Act × Spelled = (WaitAny all, rest) in y) ≡ Some x = cc (for_several a b more, f) in
    finish (IsWaitRead ws) (WaitAny all, rest) x is (
      are_alternatives all (omega arith) (omega (arith, few)) h,
      tt,
      (
          g.1 ∙ ap (λ (us : Spelled). alternative_lexemes a ++ us) e
          ∙ sym (append_assoc (alternative_lexemes a) (or_lexemes (b ∷ more)) rest)
          ),
    )

pub wait_given : (ws : Spelled) (x : Act × Spelled) → waiting_at ws ≡ Some x → IsWaitRead ws x
unfolding waiting_at
wait_given ws x e =
    let a = bind_some (allowed_at [] ws) _ x e in
    let g = allowed_given [] ws a.x a.first in
    let b = bind_some (alternatives_from 7 (a.x.0 ∷ []) a.x.1) waiting x a.second in
    let m = more_given 7 (a.x.0 ∷ []) a.x.1 b.x (alone a.x.0 g.0.0) b.first in
    several_given _ _ _ _ _ _ g.0 (subst AreTogether m.is m.together) m.few m.spelled (rw (← m.is) b.second)

-- one alternative, with what it waits for
pub one_found : (a : Alternative) (rest : Spelled) → IsAlternative a → IsPast rest
    → waiting_at (alternative_lexemes a ++ rest) ≡ waiting (a ∷ [], rest)
unfolding waiting_at
one_found a rest is past = rw (
  allowed_found [] a rest is (first_fits a) past.0,
  more_found 7 (a ∷ []) [] rest (omega arith) (alone a is) past,
) refl
  where
    first_fits : (b : Alternative) → may_follow [] b ≡ true
    first_fits (OfContact contact closed) = refl
    first_fits (OfMoment moment) = refl
    first_fits (OfFrames frames) = refl

several_found : (a : Alternative) (more : Alternatives) (rest : Spelled) → AreTogether (a ∷ more) → length more ≤ 7
    → IsPast rest → waiting_at ((alternative_lexemes a ++ or_lexemes more) ++ rest) ≡ waiting (a ∷ more, rest)
unfolding waiting_at
several_found a more rest h few past =
    rw (
      (append_assoc (alternative_lexemes a) (or_lexemes more) rest),
      allowed_found [] a (or_lexemes more ++ rest) h.each.0 (next_fits [] a more h) (no_early more rest past),
      more_found 7 (a ∷ []) more rest few h past,
    ) refl

pub wait_found : (frames : ℕ) (rest : Spelled) → (1 ≤ frames) × (frames < 65536) → IsPast rest
    → waiting_at (decimal frames ∷ rest) ≡ Some (Wait frames, rest)
wait_found frames rest is past = one_found (OfFrames frames) rest is past

pub contact_found : (contact : ℕ) (closed : Bool) (rest : Spelled) → contact < 16 → IsPast rest
    → waiting_at (letters the.Contact ∷ decimal contact ∷ level_text closed ∷ rest)
    ≡ Some (WaitContact contact closed, rest)
contact_found contact closed rest is past = one_found (OfContact contact closed) rest is past

pub any_found : (all : Alternatives) (rest : Spelled) → IsAct (WaitAny all) → IsPast rest
    → waiting_at (alternatives_lexemes all ++ rest) ≡ Some (WaitAny all, rest)
any_found (a ∷ b ∷ more) rest is past =
    several_found a (b ∷ more) rest (are_together _ is) (let x = is.few in omega (arith, x)) past
    ∙ ap (λ (r : Option Act). r >>= λ act. Some (let y : Act × Spelled = (act, rest) in y)) (for_several a b more)
any_found _ rest is past = absurd (let x = is.several in omega (arith, x))

-- ---- conditions

pub condition_law : ReadsAsSpelled condition_at IsCondition condition_lexemes
unfolding condition_at
condition_law = record {
  given = λ ws x e. elim (either_given the.Time (built (λ p. Time p.0 p.1) (both time_at (keyed the.To time_at)))
      (keyed the.Contact (built Contact (number_at 0 15))) ws x e) [
        | inl h ↦ (let g = made_given _ _ _ window_law (λ p. Time p.0 p.1) IsCondition condition_lexemes
            (letters the.Time ∷ []) (λ a is. is) (λ a h. refl) _ x h.1 in (g.0, h.0 ∙ g.1))
        | inr h ↦ (
            let k = keyed_given the.Contact (built Contact (number_at 0 15)) ws x h.1 in
            let g = made_given _ _ _ (below 16 15 refl (omega arith)) Contact IsCondition condition_lexemes
            (letters the.Contact ∷ []) (λ a is. is) (λ a h. refl) k.rest x k.read_is in (g.0, k.begins ∙ g.1)
            )
      ];
  found = condition_found;
}
  where
    window_law : ReadsAsSpelled (both time_at (keyed the.To time_at)) (λ p. (p.0 < 86400) × (p.1 < 86400))
        (λ p. time_text p.0 ∷ letters the.To ∷ time_text p.1 ∷ [])
    window_law = both_law _ _ _ _ _ _ values_are_read.times
        (keyed_law the.To time_at (λ t. t < 86400) (λ t. time_text t ∷ []) values_are_read.times)

    condition_found : (c : Condition) (rest : Spelled) → IsCondition c
        → condition_at (condition_lexemes c ++ rest) ≡ Some (c, rest)
    condition_found (Time from to) rest is =
        rw (next_itself the.Time (time_text from ∷ letters the.To ∷ time_text to ∷ rest))
        (made_found _ _ _ window_law (λ p. Time p.0 p.1) (from, to) rest is)
    condition_found (Contact contact) rest is =
        rw (
          other_next the.Contact the.Time (decimal contact ∷ rest) (λ e. cc),
          after_itself the.Contact (decimal contact ∷ rest),
        )
        (made_found _ _ _ (below 16 15 refl (omega arith)) Contact contact rest is)

-- ---- alternatives one after another, as the code reads them

pub none_more : (room : ℕ) (before : Alternatives) (ws : Spelled) → is_next the.Or ws ≡ true
    → allowed_at before (drop 1 ws) ≡ None → alternatives_from room before ws ≡ None
unfolding alternatives_from
none_more zero before ws next none = rw (next) refl
none_more (suc room) before ws next none = rw (next, none) refl

pub no_room : (before : Alternatives) (ws : Spelled) → is_next the.Or ws ≡ true → alternatives_from 0 before ws ≡ None
unfolding alternatives_from
no_room before ws next = rw (next) refl

pub one_on : (room : ℕ) (before : Alternatives) (ws : Spelled) (a : Alternative) (rest : Spelled) → 1 ≤ room
    → is_next the.Or ws ≡ true → allowed_at before (drop 1 ws) ≡ Some (a, rest)
    → alternatives_from room before ws ≡ alternatives_from (room - 1) (before ++ a ∷ []) rest
unfolding alternatives_from
one_on zero before ws a rest some next read = absurd (omega (arith, some))
one_on (suc room) before ws a rest some next read = let less : suc room - 1 ≡ room = omega arith in
    rw (next, read, less) refl

pub all_found : (room : ℕ) (before : Alternatives) (ws : Spelled) → is_next the.Or ws ≡ false
    → alternatives_from room before ws ≡ Some (before, ws)
unfolding alternatives_from
all_found zero before ws next = rw (next) refl
all_found (suc room) before ws next = rw (next) refl

pub waits_for : (all : Alternatives) → 2 ≤ length all → wait_for all ≡ Some (WaitAny all)
waits_for (a ∷ b ∷ more) some = for_several a b more
waits_for _ some = absurd (omega (arith, some))

pub two_read : (first second : Alternative) (all : Alternatives) (ws rest : Spelled) → is_next the.Or ws ≡ true
    → allowed_at (first ∷ []) (drop 1 ws) ≡ Some (second, rest) → all ≡ first ∷ second ∷ []
    → alternatives_from 7 (first ∷ []) ws ≡ alternatives_from (8 - length all) all rest
two_read first second all ws rest next read is = rw (is) (one_on 7 (first ∷ []) ws second rest (omega arith) next read)

pub next_read : (all new : Alternatives) (a : Alternative) (ws rest : Spelled) → length all ≤ 8 → (length all ≡ 8 → ⊥)
    → is_next the.Or ws ≡ true → allowed_at all (drop 1 ws) ≡ Some (a, rest) → new ≡ all ++ a ∷ []
    → (alternatives_from (8 - length all) all ws ≡ alternatives_from (8 - length new) new rest) × (length new ≤ 8)
next_read all new a ws rest few not_full next read is =
    let room : 8 - length all - 1 ≡ 8 - length new = omega (arith, ap length is ∙ length-append all (a ∷ [])) in
    let some : 1 ≤ 8 - length all = omega arith in (
      one_on (8 - length all) all ws a rest some next read
          ∙ ap (λ (n : ℕ). alternatives_from n (all ++ a ∷ []) rest) room
          ∙ ap (λ (xs : Alternatives). alternatives_from (8 - length new) xs rest) (sym is),
      omega (arith, ap length is ∙ length-append all (a ∷ [])),
    )
