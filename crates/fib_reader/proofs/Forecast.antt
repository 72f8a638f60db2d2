-- A pass over FIGs predicts that they contain nothing new, or that there is room for it.
use Rattle.fib_reader.proofs.Words.{[], ◌+◌, ◌<◌, ◌==◌, ◌||◌, ◌∙◌, ◌∷◌, ◌≡◌, ◌≢◌, ◌≤◌, Bool, Fig, HasGrown, HasGrownBy}
use Rattle.fib_reader.proofs.Words.{Head, IfSome, LeavesRoom, List, Listening, None, Open, Option, Other, Pictured, Raw}
use Rattle.fib_reader.proofs.Words.{Some, ap, arith, cond, entries_in, eq-eqb, eqb-true, false, has_entry, has_room}
use Rattle.fib_reader.proofs.Words.{head_in, hear_entries, hear_entry, hear_fig, identifier_of, into, is_known, is_next}
use Rattle.fib_reader.proofs.Words.{kept, length, length-map, length_with, nat_lt, ne_eqb, or_right, picture_of}
use Rattle.fib_reader.proofs.Words.{pictured, refl, subst, suc, sym, true, where_heard, with_entry, with_entry_changed}
use Rattle.fib_reader.proofs.Words.{ℕ}
use Rattle.fib_reader.proofs.Keeping.{room_for_known, room_for_new}

-- ---- what is known stays known

or_cases : (a b c : Bool) → (a || b) ≡ true → (b ≡ true → c ≡ true) → (a || c) ≡ true
or_cases true b c h f = refl
or_cases false b c h f = f h

known_added : (k : ℕ) (raw : Raw) (raws : List Raw) → has_entry identifier_of k raws ≡ true
    → has_entry identifier_of k (with_entry identifier_of raw raws) ≡ true
known_added k raw [] known = absurd (cc)
known_added k raw (x ∷ xs) known =
    elim (nat_lt (identifier_of raw) (identifier_of x))
    as (λ b. has_entry identifier_of k (cond b (raw ∷ x ∷ xs) (x ∷ with_entry identifier_of raw xs)) ≡ true) [
      | true ↦ or_right (identifier_of raw == k) _ known
      | false ↦ or_cases (identifier_of x == k) (has_entry identifier_of k xs) _ known (known_added k raw xs)
    ]

same_identifier : (b : Bool) (raw x : Raw) → (identifier_of x == identifier_of raw) ≡ b
    → identifier_of (cond b raw x) ≡ identifier_of x
same_identifier true raw x is = sym (eqb-true (identifier_of x) (identifier_of raw) is)
same_identifier false raw x is = refl

known_changed : (k : ℕ) (raw : Raw) (raws : List Raw) → has_entry identifier_of k
    (with_entry_changed identifier_of raw raws) ≡ has_entry identifier_of k raws
known_changed k raw [] = refl
known_changed k raw (x ∷ xs) =
    cc (same_identifier (identifier_of x == identifier_of raw) raw x refl, known_changed k raw xs)

known_kept : (x raw : Raw) (raws : List Raw) → is_known x raws ≡ true → is_known x (kept raw raws) ≡ true
known_kept x raw raws known =
    elim (is_known raw raws) as (λ b. has_entry identifier_of (identifier_of x)
    (cond b (with_entry_changed identifier_of raw raws) (with_entry identifier_of raw raws)) ≡ true) [
      | true ↦ known_changed (identifier_of x) raw raws ∙ known
      | false ↦ known_added (identifier_of x) raw raws known
    ]

length_kept : (b : Bool) (raw : Raw) (raws : List Raw) → is_known raw raws ≡ b
    → length (kept raw raws) ≡ cond b (length raws) (suc (length raws))
length_kept true raw raws is = rw (is) (length-map raws (λ x. cond (identifier_of x == identifier_of raw) raw x))
length_kept false raw raws is = rw (is) (length_with identifier_of raw raws)

-- ---- one entry

-- the number of new entries with this one, after others
abbrev pub CountsNew : List Raw → Raw → ℕ → ℕ → Type 0
CountsNew old raw others all =
    (is_known raw old ≡ true → all ≡ others)
    × (is_known raw old ≡ false → (all ≡ others + 1) × (length old + others < 64))

shelf_takes :
    (b c : Bool) (raw : Raw) (old new : List Raw) (others all : ℕ) → is_known raw old ≡ b → is_known raw new ≡ c
    → HasGrown others old new
    → CountsNew old raw others all → (has_room raw new ≡ true) × HasGrown all old (kept raw new) × (others ≤ all)
shelf_takes true true raw old new others all is is_new grown counts =
    let few = grown.few in
    let size = length_kept true raw new is_new in (
      room_for_known raw new is_new,
      record { few = omega arith; known = λ x known. known_kept x raw new (grown.known x known) },
      omega arith,
    )
shelf_takes true false raw old new others all is is_new grown counts =
    let known : is_known raw new ≡ true = grown.known raw is in absurd (cc)
shelf_takes false c raw old new others all is is_new grown counts =
    let one = counts.1 is in
    let few = grown.few in
    let size : length (kept raw new) ≤ length new + 1 =
    at_most c (length new) (length (kept raw new)) (length_kept c raw new is_new) in (
      room_for_new raw new (omega arith),
      record { few = omega arith; known = λ x known. known_kept x raw new (grown.known x known) },
      omega arith,
    )
  where
    at_most : (b : Bool) (n m : ℕ) → m ≡ cond b n (suc n) → m ≤ n + 1
    at_most true n m h = omega arith
    at_most false n m h = omega arith

grown_more : (n m : ℕ) (old new : List Raw) → n ≤ m → HasGrown n old new → HasGrown m old new
grown_more n m old new le h = let few = h.few in record { few = omega arith; known = h.known }

grown_by_more : (n m : ℕ) (old new : Pictured) → n ≤ m → HasGrownBy n old new → HasGrownBy m old new
grown_by_more n m old new le h =
    record {
      services = grown_more n m old.services new.services le h.services;
      packets = grown_more n m old.packets new.packets le h.packets;
    }

-- what is predicted for an entry of a picture
abbrev pub Takes : Pictured → Raw → ℕ → ℕ → Type 0
Takes old raw others all =
    (p : Pictured) → HasGrownBy others old p
    → (q : Pictured) × (pictured raw p ≡ Some q) × HasGrownBy all old q × (others ≤ all)

pub takes_sub : (old : Pictured) (raw : Raw) (others : ℕ) → raw.ext ≡ 1 → Takes old raw others others
takes_sub old raw others is p grown = (
  record p { subs = kept raw p.subs },
  ap (λ b. cond b (Some (record p { subs = kept raw p.subs }))
      (cond (raw.ext == 2) (cond (has_room raw p.services) (Some (record p { services = kept raw p.services })) None)
      (cond (has_room raw p.packets) (Some (record p { packets = kept raw p.packets })) None))) (eq-eqb raw.ext 1 is),
  record { services = grown.services; packets = grown.packets },
  omega arith,
)

takes_service : (old : Pictured) (raw : Raw) (others all : ℕ) → raw.ext ≡ 2 → CountsNew old.services raw others all
    → Takes old raw others all
takes_service old raw others all is counts p grown =
    let one = shelf_takes (is_known raw old.services) (is_known raw p.services) raw old.services p.services others all
    refl refl grown.services counts in
    let q : Pictured = record p { services = kept raw p.services } in
    let other : raw.ext ≢ 1 = λ e. omega arith in (
      q,
      ap (λ b. cond b (Some (record p { subs = kept raw p.subs }))
          (cond (raw.ext == 2) (cond (has_room raw p.services) (Some q) None)
          (cond (has_room raw p.packets) (Some (record p { packets = kept raw p.packets })) None)))
          (ne_eqb raw.ext 1 other)
          ∙ ap (λ b. cond b (cond (has_room raw p.services) (Some q) None)
          (cond (has_room raw p.packets) (Some (record p { packets = kept raw p.packets })) None)) (eq-eqb raw.ext 2 is)
          ∙ ap (λ b. cond b (Some q) None) one.0,
      record { services = one.1; packets = grown_more others all old.packets p.packets one.2 grown.packets },
      one.2,
    )

takes_packet : (old : Pictured) (raw : Raw) (others all : ℕ) → raw.ext ≢ 1 → raw.ext ≢ 2
    → CountsNew old.packets raw others all → Takes old raw others all
takes_packet old raw others all one_not two_not counts p grown =
    let one = shelf_takes (is_known raw old.packets) (is_known raw p.packets) raw old.packets p.packets others all refl
    refl grown.packets counts in
    let q : Pictured = record p { packets = kept raw p.packets } in (
      q,
      ap (λ b. cond b (Some (record p { subs = kept raw p.subs }))
          (cond (raw.ext == 2) (cond (has_room raw p.services) (Some (record p { services = kept raw p.services }))
          None)
          (cond (has_room raw p.packets) (Some q) None))) (ne_eqb raw.ext 1 one_not)
          ∙ ap (λ b. cond b (cond (has_room raw p.services) (Some (record p { services = kept raw p.services })) None)
          (cond (has_room raw p.packets) (Some q) None)) (ne_eqb raw.ext 2 two_not)
          ∙ ap (λ b. cond b (Some q) None) one.0,
      record { services = grown_more others all old.services p.services one.2 grown.services; packets = one.1 },
      one.2,
    )

pub takes_if_service :
    (old : Pictured) (raw : Raw) (others : ℕ) (o : Option ℕ) → raw.ext ≡ 2
    → IfSome o (λ all. is_known raw old.services ≡ true → all ≡ others)
    → IfSome o (λ all. is_known raw old.services ≡ false → (all ≡ others + 1) × (length old.services + others < 64))
    → IfSome o (Takes old raw others)
takes_if_service old raw others None is known new = tt
takes_if_service old raw others (Some all) is known new = takes_service old raw others all is (known, new)

pub takes_if_packet :
    (old : Pictured) (raw : Raw) (others : ℕ) (o : Option ℕ) → raw.ext ≢ 1 → raw.ext ≢ 2
    → IfSome o (λ all. is_known raw old.packets ≡ true → all ≡ others)
    → IfSome o (λ all. is_known raw old.packets ≡ false → (all ≡ others + 1) × (length old.packets + others < 64))
    → IfSome o (Takes old raw others)
takes_if_packet old raw others None is not known new = tt
takes_if_packet old raw others (Some all) is not known new = takes_packet old raw others all is not (known, new)

-- ---- an entry, heard

heard_tuned : (next : Bool) (raw : Raw) (l : Listening) → raw.ext ≢ 0 → l.tuned ≡ true
    → hear_entry next raw l ≡ into next l (pictured raw (picture_of next l))
heard_tuned next raw l other tuned = rw (ne_eqb raw.ext 0 other, tuned) refl

leaves_next :
    (old : Listening) (others all : ℕ) (raw : Raw) → raw.ext ≢ 0 → old.tuned ≡ true → Takes old.next raw others all
    → LeavesRoom old others all (hear_entry true raw)
leaves_next old others all raw other tuned takes l grown =
    let one = takes l.next grown.next in (
      record l { next = one.0 },
      heard_tuned true raw l other (grown.tuned ∙ tuned) ∙ ap (into true l) one.1,
      record {
        tuned = grown.tuned;
        awaited = grown.awaited;
        current = grown_by_more others all old.current l.current one.3 grown.current;
        next = one.2;
      },
    )

leaves_current :
    (old : Listening) (others all : ℕ) (raw : Raw) → raw.ext ≢ 0 → old.tuned ≡ true → Takes old.current raw others all
    → LeavesRoom old others all (hear_entry false raw)
leaves_current old others all raw other tuned takes l grown =
    let one = takes l.current grown.current in (
      record l { current = one.0 },
      heard_tuned false raw l other (grown.tuned ∙ tuned) ∙ ap (into false l) one.1,
      record {
        tuned = grown.tuned;
        awaited = grown.awaited;
        current = one.2;
        next = grown_by_more others all old.next l.next one.3 grown.next;
      },
    )

pub leaves_if_next :
    (old : Listening) (others : ℕ) (raw : Raw) (o : Option ℕ) → raw.ext ≢ 0 → old.tuned ≡ true
    → IfSome o (Takes old.next raw others)
    → IfSome o (λ all. LeavesRoom old others all (hear_entry true raw))
leaves_if_next old others raw None other tuned takes = tt
leaves_if_next old others raw (Some all) other tuned takes = leaves_next old others all raw other tuned takes

pub leaves_if_current :
    (old : Listening) (others : ℕ) (raw : Raw) (o : Option ℕ) → raw.ext ≢ 0 → old.tuned ≡ true
    → IfSome o (Takes old.current raw others)
    → IfSome o (λ all. LeavesRoom old others all (hear_entry false raw))
leaves_if_current old others raw None other tuned takes = tt
leaves_if_current old others raw (Some all) other tuned takes = leaves_current old others all raw other tuned takes

-- ---- one after another

pub leaves_both :
    (old : Listening) (few some many : ℕ) (one more : Listening → Option Listening) → LeavesRoom old few some one
    → LeavesRoom old some many more → LeavesRoom old few many (λ l. where_heard (one l) more)
leaves_both old few some many one more first second l grown =
    let a = first l grown in
    let b = second a.0 a.2 in
    (b.0, rw (a.1) b.1, b.2)

pub leaves_nothing : (old : Listening) (few : ℕ) → LeavesRoom old few few (λ l. Some l)
leaves_nothing old few l grown = (l, refl, grown)

grown_none : (old : List Raw) → HasGrown 0 old old
grown_none old = record { few = omega arith; known = λ raw known. known }

pub never_full :
    (old : Listening) (all : ℕ) (hear : Listening → Option Listening) → LeavesRoom old 0 all hear → hear old ≡ None → ⊥
never_full old all hear leaves none =
    let some = leaves old (record {
      tuned = refl;
      awaited = refl;
      current = record { services = grown_none old.current.services; packets = grown_none old.current.packets };
      next = record { services = grown_none old.next.services; packets = grown_none old.next.packets };
    }) in
    absurd (cc)

pub leaves_fig :
    (old : Listening) (few many : ℕ) (f : Fig) (h : Head) → head_in f ≡ Some h
    → LeavesRoom old few many (hear_entries h.next (entries_in f))
    → LeavesRoom old few many (hear_fig f)
leaves_fig old few many (Open second es) h is leaves =
    let same : is_next second ≡ h.next = next_of _ h is in
    subst (λ (b : Bool). LeavesRoom old few many (hear_entries b (entries_in (Open second es)))) (sym same) leaves
  where
    next_of : (a b : Head) → Some a ≡ Some b → a.next ≡ b.next
    next_of a b e = let same : a ≡ b = (cc) in ap (λ x. x.next) same
leaves_fig old few many (Other given) h is leaves = absurd (cc)

pub leaves_other : (old : Listening) (few : ℕ) (f : Fig) → head_in f ≡ None → LeavesRoom old few few (hear_fig f)
leaves_other old few (Open second es) is = absurd (cc)
leaves_other old few (Other given) is = leaves_nothing old few
