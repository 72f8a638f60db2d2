-- Without a fault, entries of the current configuration stay, and are sent in any N frames.
use Rattle.stream_laws.proofs.Words.{[], ◌&&◌, ◌++◌, ◌+◌, ◌<◌, ◌==◌, ◌||◌, ◌∙◌, ◌∷◌, ◌≡◌, ◌≤◌, ◌⊎◌, AllByRecursion}
use Rattle.stream_laws.proofs.Words.{AreFibBytes, Bool, Contains, Contradiction, CurrentIsSent, CurrentStays, Ended}
use Rattle.stream_laws.proofs.Words.{Fib, Finding, IsFaultless, IsNoFault, IsSent, Item, List, Listening, Moment}
use Rattle.stream_laws.proofs.Words.{Pictured, Raw, Reading, Said, Some, after_frames, all_append, all_entries, ap}
use Rattle.stream_laws.proofs.Words.{append_assoc, arith, cond, contains_cases, contains_first, contains_later}
use Rattle.stream_laws.proofs.Words.{contains_none, each_contains, each_kept, ensemble_of_item, entry_like, eq-eqb}
use Rattle.stream_laws.proofs.Words.{eqb-false, eqb-true, false, false≢true, filter, findings_from, frame_items}
use Rattle.stream_laws.proofs.Words.{frames_ended, frames_full, heard_as, inl, inr, is_ensemble, is_flagged, is_member}
use Rattle.stream_laws.proofs.Words.{is_silent, is_swap, kept, key_of, last_heard, last_swap, length, length-map}
use Rattle.stream_laws.proofs.Words.{listener_after, map, map-append, mapped_from, mapped_to, member_last, not}
use Rattle.stream_laws.proofs.Words.{not-true, noted_in, past_after_frame, read_frames, refl, row_of, said, silence}
use Rattle.stream_laws.proofs.Words.{silent_findings, subst, sym, true, ℕ}
use Rattle.stream_laws.proofs.Clean.{all_left, all_right, IsClean, all_clean, clean_handed, before_said, before_frames}
use Rattle.stream_laws.proofs.Clean.{frames_twice, said_ended, frame_free, faultless_before}
use Rattle.stream_laws.proofs.Kept.{current_kept, first_holds, second_holds, with_member, after_member, after_heard}
use Rattle.stream_laws.proofs.Pictures.{picture_with, found_kept, found_again}
use Rattle.stream_laws.proofs.Swapping.{Grows, same_next}
use Rattle.stream_laws.proofs.Formed.{all_formed}
use Rattle.stream_laws.proofs.LastHeard.{last_at_most, last_grows}
use Rattle.stream_laws.proofs.Shown.{HasKinds, all_kinds}
use Rattle.stream_laws.proofs.Announced.{items_in, one_found, frames_counted, there, sent}

-- ---- at the end of each frame no entry is silent

abbrev IsVocal : ℕ → List Moment → Type 0
IsVocal period [] = Unit {0}
IsVocal period (Said i ∷ past) = IsVocal period past
IsVocal period (Ended count ∷ past) = AllByRecursion IsNoFault (silent_findings period past) × IsVocal period past

said_vocal : (period : ℕ) (items : List Item) (past : List Moment) → IsVocal period past
    → IsVocal period (said items past)
said_vocal period [] past v = v
said_vocal period (i ∷ is) past v = said_vocal period is (Said i ∷ past) v

frames_vocal : (size step period : ℕ) (frames : List (List Fib)) (past : List Moment) (noted : List Contradiction)
    → frames_full step period past frames ≡ false
    → AllByRecursion (λ (found : Finding). IsNoFault found.what) (findings_from size step period past noted frames)
    → IsVocal period past → IsVocal period (after_frames step past frames)
frames_vocal size step period [] past noted room plain v = v
frames_vocal size step period (frame ∷ frames) past noted room plain v =
    let f = frame_free size step period past noted frame frames room plain in
    frames_vocal size step period frames (past_after_frame step past frame) (noted_in period past noted frame) f.room
    f.plain (f.silent, said_vocal period (frame_items frame) past v)

none_silent : (test : Raw → Bool) (rs : List Raw) → AllByRecursion IsNoFault (map silence (filter test rs))
    → AllByRecursion (λ x. test x ≡ false) rs
none_silent test [] all = tt
none_silent test (r ∷ rs) all =
    elim (test r) as (λ t. test r ≡ t → AllByRecursion IsNoFault
    (map silence (cond t (r ∷ filter test rs) (filter test rs))) → AllByRecursion (λ x. test x ≡ false) (r ∷ rs)) [
      | true ↦ λ is a. absurd a.0
      | false ↦ λ is a. (is, none_silent test rs a)
    ] refl all

-- ---- no entry was last sent N frames before

abbrev IsFresh : ℕ → List Moment → Raw → Type 0
IsFresh period past raw = frames_ended past < last_heard (key_of raw) past + period

record AreFresh (period : ℕ) (past : List Moment) (p : Pictured) : Type 0 where
  subs : AllByRecursion (IsFresh period past) p.subs
  services : AllByRecursion (IsFresh period past) p.services
  packets : AllByRecursion (IsFresh period past) p.packets

each_fresh : (period : ℕ) (past now : List Moment) (rs : List Raw)
    → ((x : Raw) → IsFresh period past x → IsFresh period now x) → AllByRecursion (IsFresh period past) rs
    → AllByRecursion (IsFresh period now) rs
each_fresh period past now [] f all = tt
each_fresh period past now (r ∷ rs) f all = (f r all.0, each_fresh period past now rs f all.1)

all_fresh_now : (period : ℕ) (now : List Moment) (rs : List Raw) → ((x : Raw) → IsFresh period now x)
    → AllByRecursion (IsFresh period now) rs
all_fresh_now period now [] f = tt
all_fresh_now period now (r ∷ rs) f = (f r, all_fresh_now period now rs f)

still_fresh : (period : ℕ) (past : List Moment) (i : Item) (p : Pictured) → AreFresh period past p
    → AreFresh period (Said i ∷ past) p
still_fresh period past i p h =
    record { subs = more p.subs h.subs; services = more p.services h.services; packets = more p.packets h.packets }
  where
    more : (rs : List Raw) → AllByRecursion (IsFresh period past) rs
        → AllByRecursion (IsFresh period (Said i ∷ past)) rs
    more rs all = each_fresh period past (Said i ∷ past) rs
        (λ x f. (let grows = last_grows (key_of x) (i ∷ []) past in omega (arith, f, grows))) all

swap_fresh : (period : ℕ) (past : List Moment) (i : Item) (p : Pictured) → is_swap past i ≡ true
    → AreFresh period (Said i ∷ past) p
swap_fresh period past i p sw = record { subs = now p.subs; services = now p.services; packets = now p.packets }
  where
    at : (x : Raw) → last_heard (key_of x) (Said i ∷ past) ≡ frames_ended past + 1
    at x = ap (λ t. cond (t || (is_member past i && (not i.next && (key_of i.raw == key_of x)))) (frames_ended past + 1)
        (last_heard (key_of x) past)) sw

    now : (rs : List Raw) → AllByRecursion (IsFresh period (Said i ∷ past)) rs
    now rs = all_fresh_now period (Said i ∷ past) rs (λ x. (let is = at x in omega (arith, is)))

with_fresh : (period : ℕ) (now : List Moment) (raw : Raw) (p : Pictured) → IsFresh period now raw
    → AreFresh period now p → AreFresh period now (picture_with raw p)
with_fresh period now raw p f h =
    elim (raw.ext == 1) as (λ t.
    AreFresh period now (cond t (record p { subs = kept raw p.subs })
    (cond (raw.ext == 2) (record p { services = kept raw p.services }) (record p { packets = kept raw p.packets })))) [
      | true ↦ record {
        subs = each_kept (IsFresh period now) raw p.subs f h.subs;
        services = h.services;
        packets = h.packets;
      }
      | false ↦ elim (raw.ext == 2)
          as (λ t. AreFresh period now
          (cond t (record p { services = kept raw p.services }) (record p { packets = kept raw p.packets }))) [
            | true ↦ record {
              subs = h.subs;
              services = each_kept (IsFresh period now) raw p.services f h.services;
              packets = h.packets;
            }
            | false ↦ record {
              subs = h.subs;
              services = h.services;
              packets = each_kept (IsFresh period now) raw p.packets f h.packets;
            }
          ]
    ]

-- the picture of the current configuration after an entry
pub no_current : (t n : Bool) (raw : Raw) (l : Listening) → (t && not n) ≡ false
    → (cond t (with_member n raw l) l).current ≡ l.current
no_current true false raw l e = absurd (false≢true (sym e))
no_current _ _ raw l e = refl

pub a_current : (t n : Bool) (raw : Raw) (l : Listening) → (t && not n) ≡ true
    → (cond t (with_member n raw l) l).current ≡ picture_with raw l.current
a_current true false raw l e = refl
a_current _ _ raw l e = absurd (false≢true e)

pub after_ensemble_is : (b f : Bool) (i : Item) (l : Listening)
    → (heard_as b f (ensemble_of_item i) l).current ≡ cond b l.next l.current
after_ensemble_is true true i l = refl
after_ensemble_is true false i l = refl
after_ensemble_is false true i l = refl
after_ensemble_is false false i l = refl

heard_here : (past : List Moment) (i : Item) → is_ensemble i ≡ false
    → ((listener_after past).tuned && not i.next) ≡ true
    → last_heard (key_of i.raw) (Said i ∷ past) ≡ frames_ended past + 1
heard_here past i e now =
    member_last (key_of i.raw) past i e
    ∙ ap (λ t. cond (t && (not i.next && (key_of i.raw == key_of i.raw))) (frames_ended past + 1)
    (last_heard (key_of i.raw) past)) (first_holds (listener_after past).tuned (not i.next) now)
    ∙ ap (λ t. cond (t && (key_of i.raw == key_of i.raw)) (frames_ended past + 1) (last_heard (key_of i.raw) past))
    (second_holds (listener_after past).tuned (not i.next) now)
    ∙ ap (λ t. cond t (frames_ended past + 1) (last_heard (key_of i.raw) past))
    (eq-eqb (key_of i.raw) (key_of i.raw) refl)

ensemble_fresh : (step period : ℕ) (past : List Moment) (i : Item) (b : Bool) → is_swap past i ≡ b
    → is_ensemble i ≡ true → IsClean step period (Said i ∷ past) → AreFresh period past (listener_after past).current
    → AreFresh period (Said i ∷ past) (listener_after (Said i ∷ past)).current
ensemble_fresh step period past i true sw e c h = swap_fresh period past i (listener_after (Said i ∷ past)).current sw
ensemble_fresh step period past i false sw e c h =
    let same : (listener_after (Said i ∷ past)).current ≡ (listener_after past).current =
    ap (λ (l : Listening). l.current) (after_heard step period past i false (is_flagged i) c e sw refl)
    ∙ after_ensemble_is false (is_flagged i) i (listener_after past) in
    subst (AreFresh period (Said i ∷ past)) (sym same) (still_fresh period past i (listener_after past).current h)

member_fresh : (step period : ℕ) (past : List Moment) (i : Item) (b : Bool)
    → ((listener_after past).tuned && not i.next) ≡ b → is_ensemble i ≡ false → IsClean step period (Said i ∷ past)
    → AreFresh period past (listener_after past).current
    → AreFresh period (Said i ∷ past) (listener_after (Said i ∷ past)).current
member_fresh step period past i true now e c h =
    let same : (listener_after (Said i ∷ past)).current ≡ picture_with i.raw (listener_after past).current =
    ap (λ (l : Listening). l.current) (after_member step _ past i c e) ∙ a_current _ _ i.raw _ now in
    subst (AreFresh period (Said i ∷ past)) (sym same)
    (with_fresh period (Said i ∷ past) i.raw (listener_after past).current (omega (arith, heard_here past i e now))
    (still_fresh period past i (listener_after past).current h))
member_fresh step period past i false now e c h =
    let same : (listener_after (Said i ∷ past)).current ≡ (listener_after past).current =
    ap (λ (l : Listening). l.current) (after_member step _ past i c e) ∙ no_current _ _ i.raw _ now in
    subst (AreFresh period (Said i ∷ past)) (sym same) (still_fresh period past i (listener_after past).current h)

entry_fresh : (step period : ℕ) (past : List Moment) (i : Item) (b : Bool) → is_ensemble i ≡ b
    → IsClean step period (Said i ∷ past) → AreFresh period past (listener_after past).current
    → AreFresh period (Said i ∷ past) (listener_after (Said i ∷ past)).current
entry_fresh step period past i true e c h = ensemble_fresh step period past i (is_swap past i) refl e c h
entry_fresh step period past i false e c h = member_fresh _ _ _ _ _ refl e c h

ended_fresh : (period count : ℕ) (past : List Moment) (rs : List Raw)
    → AllByRecursion (λ x. is_silent period past x ≡ false) rs → AllByRecursion (IsFresh period past) rs
    → AllByRecursion (IsFresh period (Ended count ∷ past)) rs
ended_fresh period count past [] none all = tt
ended_fresh period count past (r ∷ rs) none all =
    let other = eqb-false (last_heard (key_of r) past + period) (frames_ended past + 1) none.0 in
    (omega (arith, other), ended_fresh period count past rs none.1 all.1)

all_fresh : (step period : ℕ) (past : List Moment) → IsClean step period past → IsVocal period past
    → AreFresh period past (listener_after past).current
all_fresh step period [] c v = record { subs = tt; services = tt; packets = tt }
all_fresh step period (Said i ∷ past) c v = entry_fresh _ _ _ _ _ refl c (all_fresh step period past c.2 v)
all_fresh step period (Ended count ∷ past) c v =
    let p : Pictured = (listener_after past).current in
    let h = all_fresh step period past c v.1 in
    let none = none_silent (is_silent period past) (all_entries p) v.0 in
    let front = all_left (λ x. is_silent period past x ≡ false) (p.subs ++ p.services) p.packets none in
    record {
      subs = ended_fresh period count past p.subs
          (all_left (λ x. is_silent period past x ≡ false) p.subs p.services front) h.subs;
      services = ended_fresh _ count past _ (all_right (λ x. is_silent period past x ≡ false) _ _ front) h.services;
      packets = ended_fresh _ count past _ (all_right (λ x. is_silent period past x ≡ false) _ _ none) h.packets;
    }

fresh_one : (period : ℕ) (past : List Moment) (p : Pictured) (raw : Raw) → AreFresh period past p
    → Contains (all_entries p) raw → IsFresh period past raw
fresh_one period past p raw h inside =
    each_contains _ _ _ (all_append _ _ _ (all_append _ _ _ h.subs h.services) h.packets) inside

-- ---- frames without a swap

swap_at_most : (past : List Moment) → last_swap past ≤ frames_ended past + 1
swap_at_most [] = omega arith
swap_at_most (Said i ∷ past) =
    elim (is_swap past i) as (λ b. cond b (frames_ended past + 1) (last_swap past) ≤ frames_ended past + 1) [
      | true ↦ omega arith
      | false ↦ swap_at_most past
    ]
swap_at_most (Ended count ∷ past) = let before = swap_at_most past in omega (arith, before)

swap_grows : (items : List Item) (past : List Moment) → last_swap past ≤ last_swap (said items past)
swap_grows [] past = omega arith
swap_grows (i ∷ is) past =
    let one : last_swap past ≤ last_swap (Said i ∷ past) =
    elim (is_swap past i) as (λ b. last_swap past ≤ cond b (frames_ended past + 1) (last_swap past)) [
      | true ↦ (swap_at_most past)
      | false ↦ omega arith
    ] in
    omega (arith, swap_grows is (Said i ∷ past), one)

swap_grows_further : (step : ℕ) (frames : List (List Fib)) (past : List Moment)
    → last_swap past ≤ last_swap (after_frames step past frames)
swap_grows_further step [] past = omega arith
swap_grows_further step (frame ∷ frames) past =
    let rest = swap_grows_further step frames (past_after_frame step past frame) in
    omega (arith, swap_grows (frame_items frame) past, rest)

no_swap_here : (n : ℕ) (past : List Moment) (i : Item) → n ≤ frames_ended past → last_swap (Said i ∷ past) ≤ n
    → is_swap past i ≡ false
no_swap_here n past i late few =
    elim (is_swap past i) as (λ b. cond b (frames_ended past + 1) (last_swap past) ≤ n → b ≡ false) [
      | true ↦ λ h. absurd (omega (arith, h, late))
      | false ↦ λ h. refl
    ] few

current_grows : (step period : ℕ) (past : List Moment) (i : Item) (b d : Bool) → is_ensemble i ≡ b
    → ((listener_after past).tuned && not i.next) ≡ d → is_swap past i ≡ false → IsClean step period (Said i ∷ past)
    → Grows (listener_after past).current (listener_after (Said i ∷ past)).current
current_grows step period past i true d e now sw c =
    same_next (listener_after past).current (listener_after (Said i ∷ past)).current
    (ap (λ (l : Listening). l.current) (after_heard step period past i false (is_flagged i) c e sw refl)
    ∙ after_ensemble_is false (is_flagged i) i (listener_after past))
current_grows step period past i false true e now sw c =
    let next = not-true i.next (second_holds (listener_after past).tuned (not i.next) now) in
    let k = current_kept step period past i e (first_holds (listener_after past).tuned (not i.next) now) next c in
    let same : (listener_after (Said i ∷ past)).current ≡ picture_with i.raw (listener_after past).current =
    ap (λ (l : Listening). l.current) (after_member step _ past i c e) ∙ a_current _ _ i.raw _ now in
    λ y found. ap (entry_like y) same ∙ found_again i.raw y (listener_after past).current k.agrees found
current_grows step period past i false false e now sw c =
    same_next _ _ (ap (λ (l : Listening). l.current) (after_member step _ past i c e) ∙ no_current _ _ i.raw _ now)

said_stays : (step period n : ℕ) (items : List Item) (past : List Moment) → IsClean step period (said items past)
    → n ≤ frames_ended past → last_swap (said items past) ≤ n
    → Grows (listener_after past).current (listener_after (said items past)).current
said_stays step period n [] past c late few y found = found
said_stays step period n (i ∷ is) past c late few y found =
    let clean = before_said (IsClean step period) (clean_handed step period) is (Said i ∷ past) c in
    let none = no_swap_here n past i late (omega (arith, swap_grows is (Said i ∷ past), few)) in
    said_stays step period n is (Said i ∷ past) c late few y
    (current_grows step period past i (is_ensemble i) ((listener_after past).tuned && not i.next) refl refl none clean y
    found)

frames_stay : (step period n : ℕ) (frames : List (List Fib)) (past : List Moment)
    → IsClean step period (after_frames step past frames) → n ≤ frames_ended past
    → last_swap (after_frames step past frames) ≤ n
    → Grows (listener_after past).current (listener_after (after_frames step past frames)).current
frames_stay step period n [] past c late few y found = found
frames_stay step period n (frame ∷ frames) past c late few y found =
    let clean : IsClean step period (said (frame_items frame) past) =
    before_frames _ (clean_handed step period) step frames _ c in
    let grows = swap_grows_further step frames (past_after_frame step past frame) in
    let ended = said_ended (frame_items frame) past in
    frames_stay step period n frames (past_after_frame step past frame) c (omega (arith, ended, late)) few y
    (said_stays step period n (frame_items frame) past clean late (omega (arith, grows, few)) y found)

-- ---- an entry that was heard in these frames

record IsHeardAmong (key : ℕ) (items : List Item) (now : List Moment) : Type 0 where
  item : Item
  inside : Contains items item
  next_is : item.next ≡ false
  key_is : key_of item.raw ≡ key
  found : entry_like item.raw (listener_after now).current ≡ Some item.raw

heard_at : (step period key : ℕ) (past : List Moment) (i : Item) (b : Bool) → is_ensemble i ≡ b → is_swap past i ≡ false
    → IsClean step period (Said i ∷ past) → (n : ℕ) → n < last_heard key (Said i ∷ past)
    → (n < last_heard key past) ⊎ IsHeardAmong key (i ∷ []) (Said i ∷ past)
heard_at step period key past i true e sw c n h =
    let same : last_heard key (Said i ∷ past) ≡ last_heard key past = cc (sw, e) in
    inl (omega (arith, same, h))
heard_at step period key past i false e sw c n h =
    elim ((listener_after past).tuned && (not i.next && (key_of i.raw == key)))
    as (λ t. ((listener_after past).tuned && (not i.next && (key_of i.raw == key))) ≡ t
    → n < cond t (frames_ended past + 1) (last_heard key past)
    → (n < last_heard key past) ⊎ IsHeardAmong key (i ∷ []) (Said i ∷ past)) [
      | true ↦ λ is more.
          let tuned = first_holds (listener_after past).tuned (not i.next && (key_of i.raw == key)) is in
          let both = second_holds (listener_after past).tuned (not i.next && (key_of i.raw == key)) is in
          let bare = first_holds (not i.next) (key_of i.raw == key) both in
          let now : ((listener_after past).tuned && not i.next) ≡ true = ap (λ t. t && not i.next) tuned ∙ bare in
          let same : (listener_after (Said i ∷ past)).current ≡ picture_with i.raw (listener_after past).current =
          ap (λ (l : Listening). l.current) (after_member step _ past i c e) ∙ a_current _ _ i.raw _ now in
          inr (record {
            item = i;
            inside = contains_first i [];
            next_is = not-true i.next bare;
            key_is = eqb-true (key_of i.raw) key (second_holds (not i.next) (key_of i.raw == key) both);
            found = ap (entry_like i.raw) same ∙ found_kept i.raw (listener_after past).current;
          })
      | false ↦ λ is more. inl more
    ] refl (subst (λ m. n < m) (member_last key past i e) h)

heard_said : (step period key n : ℕ) (items : List Item) (past : List Moment) → IsClean step period (said items past)
    → n ≤ frames_ended past → last_swap (said items past) ≤ n → n < last_heard key (said items past)
    → (n < last_heard key past) ⊎ IsHeardAmong key items (said items past)
heard_said step period key n [] past c late few h = inl h
heard_said step period key n (i ∷ is) past c late few h =
    elim (heard_said step period key n is (Said i ∷ past) c late few h) [
      | inr more ↦ inr (record {
        item = more.item;
        inside = contains_later i is more.item more.inside;
        next_is = more.next_is;
        key_is = more.key_is;
        found = more.found;
      })
      | inl before ↦
          let clean = before_said (IsClean step period) (clean_handed step period) is (Said i ∷ past) c in
          let none = no_swap_here n past i late (omega (arith, swap_grows is (Said i ∷ past), few)) in
          elim (heard_at step period key past i (is_ensemble i) refl none clean n before) [
            | inl earlier ↦ inl earlier
            | inr here ↦ inr (record {
              item = i;
              inside = contains_first i is;
              next_is = subst (λ (j : Item). j.next ≡ false) (same here.item here.inside) here.next_is;
              key_is = subst (λ (j : Item). key_of j.raw ≡ key) (same here.item here.inside) here.key_is;
              found = said_stays step period n is (Said i ∷ past) c late few i.raw
                  (subst (λ (j : Item). entry_like j.raw (listener_after (Said i ∷ past)).current ≡ Some j.raw)
                  (same here.item here.inside) here.found);
            })
          ]
    ]
  where
    same : (j : Item) → Contains (i ∷ []) j → j ≡ i
    same j inside = elim (contains_cases i [] j inside) [ inl one ↦ sym one | inr none ↦ absurd (contains_none j none) ]

heard_frames : (step period key n : ℕ) (frames : List (List Fib)) (past : List Moment)
    → IsClean step period (after_frames step past frames) → n ≤ frames_ended past
    → last_swap (after_frames step past frames) ≤ n
    → n < last_heard key (after_frames step past frames)
    → (n < last_heard key past)
    ⊎ ((frame : List Fib) × Contains frames frame × IsHeardAmong key (frame_items frame)
    (after_frames step past frames))
heard_frames step period key n [] past c late few h = inl h
heard_frames step period key n (frame ∷ frames) past c late few h =
    let ended = said_ended (frame_items frame) past in
    let later : n ≤ frames_ended (past_after_frame step past frame) = omega (arith, ended, late) in
    elim (heard_frames step period key n frames (past_after_frame step past frame) c later few h) [
      | inr more ↦ inr (more.0, contains_later frame frames more.0 more.1, more.2)
      | inl before ↦
          let clean : IsClean step period (said (frame_items frame) past) =
          before_frames _ (clean_handed step period) step frames _ c in
          let grows = swap_grows_further step frames (past_after_frame step past frame) in
          elim (heard_said step period key n (frame_items frame) past clean late (omega (arith, grows, few)) before) [
            | inl earlier ↦ inl earlier
            | inr here ↦ inr (
              frame,
              contains_first frame frames,
              record {
                item = here.item;
                inside = here.inside;
                next_is = here.next_is;
                key_is = here.key_is;
                found =
                    frames_stay step period n frames (past_after_frame step past frame) c later few here.item.raw
                    here.found;
              },
            )
          ]
    ]

-- between two frames nothing was heard in the frame to come
last_between : (step key : ℕ) (frames : List (List Fib)) (past : List Moment) → last_heard key past ≤ frames_ended past
    → last_heard key (after_frames step past frames) ≤ frames_ended (after_frames step past frames)
last_between step key [] past h = h
last_between step key (frame ∷ frames) past h =
    last_between step key frames (past_after_frame step past frame) (last_at_most key (said (frame_items frame) past))

-- ---- the laws

front_faultless : (r : Reading) (size step period : ℕ) (before window after : List (List (List ℕ)))
    → IsFaultless size step period (read_frames r (before ++ (window ++ after)))
    → IsFaultless size step period (read_frames r (before ++ window))
front_faultless r size step period before window after f =
    faultless_before size step period (read_frames r (before ++ window)) (read_frames r after)
    (subst (IsFaultless size step period) (ap (map (map r.read)) (sym (append_assoc before window after))
    ∙ map-append (map r.read) (before ++ window) after) f)

split_past : (r : Reading) (step : ℕ) (before window : List (List (List ℕ)))
    → after_frames step [] (read_frames r (before ++ window))
    ≡ after_frames step (after_frames step [] (read_frames r before)) (read_frames r window)
split_past r step before window = ap (after_frames step []) (map-append (map r.read) before window)
    ∙ frames_twice step (read_frames r before) (read_frames r window) []

ended_before : (r : Reading) (step : ℕ) (before : List (List (List ℕ)))
    → frames_ended (after_frames step [] (read_frames r before)) ≡ length (read_frames r before)
ended_before r step before = frames_counted step (read_frames r before) [] ∙ omega arith

pub current_stays : CurrentStays
current_stays r size step period before window after raw faultless none known =
    let clean = all_clean size step _ _ (front_faultless r size step _ _ _ after faultless) in
    let split = split_past r step before window in
    ap (λ past. entry_like raw (listener_after past).current) split
    ∙ frames_stay step period (length (read_frames r before)) (read_frames r window)
    (after_frames step [] (read_frames r before))
    (subst (IsClean step period) split clean) (omega (arith, ended_before r step before))
    (subst (λ past. last_swap past ≤ length (read_frames r before))
    (frames_twice step (read_frames r before) (read_frames r window) []) none) raw known

pub current_is_sent : CurrentIsSent
current_is_sent r size step period before window after raw bytes some len faultless none known =
    let plain = front_faultless r size step period before window after faultless in
    let whole : List Moment = after_frames step [] (read_frames r (before ++ window)) in
    let start : List Moment = after_frames step [] (read_frames r before) in
    let clean = all_clean size step period (read_frames r (before ++ window)) plain in
    let vocal = frames_vocal size step period (read_frames r (before ++ window)) [] [] plain.room plain.plain tt in
    let p : Pictured = (listener_after whole).current in
    let kinds : HasKinds p = (all_kinds step period whole clean (all_formed r step (before ++ window))).current in
    let is = there p raw kinds known in
    let fresh = fresh_one period whole p raw (all_fresh step period whole clean vocal) is.inside in
    let split = split_past r step before window in
    let ended = ended_before r step before in
    let frames : frames_ended whole ≡ length (read_frames r before) + length window =
    cc (split, frames_counted step (read_frames r window) start, ended, length-map window (map r.read)) in
    let since : length (read_frames r before) < last_heard (key_of raw) whole = omega (arith, fresh, frames, len) in
    let heard = heard_frames step period (key_of raw) (length (read_frames r before)) (read_frames r window) start
    (subst (IsClean step period) split clean) (omega (arith, ended))
    (subst (λ past. last_swap past ≤ length (read_frames r before))
    (frames_twice step (read_frames r before) (read_frames r window) []) none)
    (subst (λ past. length (read_frames r before) < last_heard (key_of raw) past) split since) in
    elim heard [
      | inl earlier ↦ (let most = last_between step (key_of raw) (read_frames r before) [] (omega arith) in
          absurd (omega (arith, earlier, most, ended)))
      | inr here ↦
          let fibs = mapped_to (map r.read) window here.0 here.1 in
          let h = here.2 in
          let found = ap (λ past. entry_like h.item.raw (listener_after past).current) split ∙ h.found in
          let same = one_found h.item.raw raw p (there p h.item.raw kinds found).small is.small h.key_is found known in
          let inside : Contains (items_in r fibs.0) h.item =
          subst (λ fs. Contains (frame_items fs) h.item) (sym fibs.2) h.inside in (
            row_of fibs.0,
            mapped_from row_of window fibs.0 fibs.1,
            subst (IsSent false (row_of fibs.0)) same
                (sent r false fibs.0 h.item (each_contains AreFibBytes window fibs.0 bytes fibs.1) inside h.next_is),
          )
    ]
