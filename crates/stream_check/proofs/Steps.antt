-- Hearing one entry: what is reported, and what is known afterwards.
use Rattle.stream_check.proofs.Words.{[], ◌&&◌, ◌++◌, ◌+◌, ◌<◌, ◌==◌, ◌∙◌, ◌∷◌, ◌≡◌, ◌≢◌, Bool, CheckerState, FrameAt}
use Rattle.stream_check.proofs.Words.{Heard, HeardPicture, HearsItems, IsLater, IsSane, Item, KnownBefore, Knows, List}
use Rattle.stream_check.proofs.Words.{Listening, Moment, Raw, Reported, Said, What, all_entries, ap, append-nil}
use Rattle.stream_check.proofs.Words.{append_assoc, arith, began_early, cases_lt, cond, current_findings, drop, due}
use Rattle.stream_check.proofs.Words.{ensemble_findings, ensemble_in, false, false≢true, findings_at, finds_no_room}
use Rattle.stream_check.proofs.Words.{has_begun, has_ensemble, has_no_room, in_frame, inl, inr, is_cut_off, items_of}
use Rattle.stream_check.proofs.Words.{key_of, keys, keys_of, known_in, known_of, listener_in, lookup_in, makes_swap}
use Rattle.stream_check.proofs.Words.{map, map-append, member_findings, most_parts, ne_eqb, next_findings, not}
use Rattle.stream_check.proofs.Words.{picture_of_heard, raws, refl, rows, subst, sym, take, take-append-drop}
use Rattle.stream_check.proofs.Words.{times_heard, true, with_current, with_ensemble, with_more, with_next, with_swap}
use Rattle.stream_check.proofs.Words.{ℕ}
use Rattle.stream_check.proofs.PartCount.{parts_counted}
use Rattle.stream_check.proofs.Members.{after_is}
use Rattle.stream_check.proofs.Knowing.{knows_passed, knows_current, knows_next}
use Rattle.stream_check.proofs.Ensembles.{knows_ensemble}
use Rattle.stream_check.proofs.Chain.{more_none}

-- ---- the state knows what was sent before

raw_keys : (hs : List Heard) → map key_of (raws hs) ≡ keys hs
raw_keys [] = refl
raw_keys (h ∷ hs) = rw (raw_keys hs) refl

entry_keys : (p : HeardPicture) → map key_of (all_entries (picture_of_heard p)) ≡ keys_of p
entry_keys p =
    map-append key_of (raws p.subs ++ raws p.services) (raws p.packets)
    ∙ ap (λ ks. ks ++ map key_of (raws p.packets)) (map-append key_of (raws p.subs) (raws p.services))
    ∙ ap (λ ks. (ks ++ map key_of (raws p.services)) ++ map key_of (raws p.packets)) (raw_keys p.subs)
    ∙ ap (λ ks. (keys p.subs ++ ks) ++ map key_of (raws p.packets)) (raw_keys p.services)
    ∙ ap (λ ks. (keys p.subs ++ keys p.services) ++ ks) (raw_keys p.packets)
    ∙ append_assoc (keys p.subs) (keys p.services) (keys p.packets)

pub parts_are : (step period : ℕ) (past : List Moment) (m : CheckerState) → Knows step period past m
    → m.parts ≡ times_heard past
parts_are step period past m k =
    parts_counted (keys_of m.next) m.parts (take m.since (rows past)) (drop m.since (rows past)) k.notice.greedy
    ∙ ap (most_parts (keys_of m.next)) (take-append-drop m.since (rows past))
    ∙ ap (λ ks. most_parts ks (rows past))
    (sym (ap (λ (l : Listening). map key_of (all_entries l.next)) (after_is past (listener_in m) k.heard)
    ∙ entry_keys m.next))

pub known_same : (step period : ℕ) (past : List Moment) (m : CheckerState) → Knows step period past m
    → known_in m ≡ known_of step period past
known_same step period past m k =
    rw (
      k.mode,
      ← after_is past (listener_in m) k.heard,
      k.frames,
      k.due,
      k.eid,
      k.has_ensemble,
      k.has_begun,
      k.began_early,
      k.is_cut_off,
      k.flags,
      k.times,
      parts_are step period past m k,
      k.settles_at,
    ) refl

-- ---- one entry

one_found : (k : KnownBefore) (i : Item) (found : List What) → has_no_room k i ≡ false → findings_at k i ≡ found
    → cond (has_no_room k i) [] (findings_at k i ++ []) ≡ found
one_found k i found room is = rw (room) (append-nil (findings_at k i) ∙ is)

-- an entry for which there is room
pub heard_one : (at : FrameAt) (i : Item) (old new : CheckerState) (before after : Reported)
    → has_no_room (known_in old) i ≡ false → after ≡ with_more before (map (in_frame at) (findings_at (known_in old) i))
    → ((past : List Moment) → Knows old.step old.period past old → Knows old.step old.period (Said i ∷ past) new)
    → HearsItems at (i ∷ []) old before new after false
heard_one at i old new before after room reported next past k =
    let same = known_same old.step old.period past old k in
    let free = ap (λ t. has_no_room t i) (sym same) ∙ room in
    record {
      findings = reported ∙ ap (λ fs. with_more before (map (in_frame at) fs))
          (ap (λ t. findings_at t i) same
          ∙ sym (one_found (known_of old.step old.period past) i (findings_at (known_of old.step old.period past) i)
          free refl));
      room = rw (free) refl;
      knows = λ e. next past k;
    }

-- an entry for which there is no room
pub heard_none : (at : FrameAt) (i : Item) (old new : CheckerState) (before after : Reported)
    → has_no_room (known_in old) i ≡ true → after ≡ before → HearsItems at (i ∷ []) old before new after true
heard_none at i old new before after room reported past k =
    let same = known_same old.step old.period past old k in
    let full : has_no_room (known_of old.step old.period past) i ≡ true = ap (λ t. has_no_room t i) (sym same) ∙ room in
    record {
      findings = reported ∙ more_none before ∙ ap (λ fs. with_more before (map (in_frame at) fs))
          (sym (ap (λ t. cond t [] (findings_at (known_of old.step old.period past) i ++ [])) full));
      room = rw (full) refl;
      knows = λ e. absurd (false≢true (sym e));
    }

-- a FIG 0/0
pub hears_ensemble : (at : FrameAt) (first next : Bool) (raw : Raw) (old new : CheckerState) (before after : Reported)
    → raw.ext ≡ 0
    → after ≡ with_more before (map (in_frame at) (ensemble_findings (known_in old) first (ensemble_in raw)))
    → new ≡ with_ensemble first (ensemble_in raw)
    (cond (makes_swap (known_in old) (ensemble_in raw)) (with_swap old) old)
    → HearsItems at (items_of first next (raw ∷ [])) old before new after false
hears_ensemble at first next raw old new before after zero reported is =
    let e : (raw.ext == 0) ≡ true = rw (zero) refl in
    heard_one at (record { first = first; next = next; raw = raw }) old new before after
    (ap (λ t. cond t false (old.tuned && finds_no_room
    (lookup_in raw (cond next (picture_of_heard old.next) (picture_of_heard old.current))))) e)
    (reported ∙ ap (λ fs. with_more before (map (in_frame at) fs))
    (sym (ap (λ t. cond t (ensemble_findings (known_in old) first (ensemble_in raw))
    (member_findings (known_in old) next raw)) e)))
    (λ past k. subst (λ (m : CheckerState). Knows old.step old.period
    (Said (record { first = first; next = next; raw = raw }) ∷ past) m) (sym is)
    (knows_ensemble old.step old.period past old (record { first = first; next = next; raw = raw }) e k))

not_zero : (n : ℕ) → n ≢ 0 → (n == 0) ≡ false
not_zero n other = ne_eqb n 0 other

some_more : (n : ℕ) → n ≢ 0 → 0 < n
some_more n other = elim (cases_lt 0 n) [ inl lt ↦ lt | inr le ↦ absurd (other (omega (arith, le))) ]

room_of : (old : CheckerState) (first next : Bool) (raw : Raw) (b : Bool) → (raw.ext == 0) ≡ false
    → (old.tuned && finds_no_room
    (lookup_in raw (cond next (picture_of_heard old.next) (picture_of_heard old.current)))) ≡ b
    → has_no_room (known_in old) (record { first = first; next = next; raw = raw }) ≡ b
room_of old first next raw b e is = cc (e, is)

found_of : (old : CheckerState) (first next : Bool) (raw : Raw) → (raw.ext == 0) ≡ false
    → findings_at (known_in old) (record { first = first; next = next; raw = raw })
    ≡ member_findings (known_in old) next raw
found_of old first next raw e = rw (e) refl

-- an entry before the first FIG 0/0
pub hears_passed : (at : FrameAt) (first next : Bool) (raw : Raw) (old : CheckerState) (before : Reported) → raw.ext ≢ 0
    → old.tuned ≡ false → HearsItems at (items_of first next (raw ∷ [])) old before old before false
hears_passed at first next raw old before other untuned =
    let e = not_zero raw.ext other in
    heard_one at (record { first = first; next = next; raw = raw }) old old before before
    (room_of old first next raw false e
    (ap (λ t. t && finds_no_room
    (lookup_in raw (cond next (picture_of_heard old.next) (picture_of_heard old.current)))) untuned))
    (more_none before ∙ ap (λ fs. with_more before (map (in_frame at) fs))
    (sym (found_of old first next raw e
    ∙ ap (λ t. cond t (cond next (next_findings (known_in old) raw) (current_findings (known_in old) raw)) [])
    untuned)))
    (λ past k. knows_passed old.step old.period past old (record { first = first; next = next; raw = raw }) e untuned k)

-- an entry of the current configuration; below, of the next one
pub hears_current : (at : FrameAt) (first : Bool) (raw : Raw) (old new : CheckerState) (before after : Reported)
    → raw.ext ≢ 0 → raw.ext < 4 → old.tuned ≡ true
    → finds_no_room (lookup_in raw (picture_of_heard old.current)) ≡ false
    → after ≡ with_more before (map (in_frame at) (current_findings (known_in old) raw))
    → new ≡ with_current raw old
    → HearsItems at (items_of first false (raw ∷ [])) old before new after false
hears_current at first raw old new before after other few tuned room reported is =
    let e = not_zero raw.ext other in
    heard_one at (record { first = first; next = false; raw = raw }) old new before after
    (room_of old first false raw false e
    (ap (λ t. t && finds_no_room (lookup_in raw (picture_of_heard old.current))) tuned ∙ room))
    (reported ∙ ap (λ fs. with_more before (map (in_frame at) fs))
    (sym (found_of old first false raw e ∙ ap (λ t. cond t (current_findings (known_in old) raw) []) tuned)))
    (λ past k. subst (λ (m : CheckerState). Knows old.step old.period
    (Said (record { first = first; next = false; raw = raw }) ∷ past) m) (sym is)
    (knows_current old.step old.period past old (record { first = first; next = false; raw = raw }) e few
    (some_more raw.ext other) tuned refl room k))

pub hears_next : (at : FrameAt) (first : Bool) (raw : Raw) (old new : CheckerState) (before after : Reported)
    → raw.ext ≢ 0 → raw.ext < 4 → old.tuned ≡ true
    → finds_no_room (lookup_in raw (picture_of_heard old.next)) ≡ false
    → after ≡ with_more before (map (in_frame at) (next_findings (known_in old) raw)) → new ≡ with_next raw old
    → HearsItems at (items_of first true (raw ∷ [])) old before new after false
hears_next at first raw old new before after other few tuned room reported is =
    let e = not_zero raw.ext other in
    heard_one at (record { first = first; next = true; raw = raw }) old new before after
    (room_of old first true raw false e (ap (λ t. t && finds_no_room (lookup_in raw (picture_of_heard old.next))) tuned
    ∙ room))
    (reported ∙ ap (λ fs. with_more before (map (in_frame at) fs))
    (sym (found_of old first true raw e ∙ ap (λ t. cond t (next_findings (known_in old) raw) []) tuned)))
    (λ past k. subst (λ (m : CheckerState). Knows old.step old.period
    (Said (record { first = first; next = true; raw = raw }) ∷ past) m) (sym is)
    (knows_next old.step old.period past old (record { first = first; next = true; raw = raw }) e few
    (some_more raw.ext other) tuned refl room k))

-- the same without room
pub full_current : (at : FrameAt) (first : Bool) (raw : Raw) (old new : CheckerState) (before after : Reported)
    → raw.ext ≢ 0 → old.tuned ≡ true
    → finds_no_room (lookup_in raw (picture_of_heard old.current)) ≡ true → after ≡ before
    → HearsItems at (items_of first false (raw ∷ [])) old before new after true
full_current at first raw old new before after other tuned room reported =
    heard_none at (record { first = first; next = false; raw = raw }) old new before after
    (room_of old first false raw true (not_zero raw.ext other)
    (ap (λ t. t && finds_no_room (lookup_in raw (picture_of_heard old.current))) tuned ∙ room)) reported

pub full_next : (at : FrameAt) (first : Bool) (raw : Raw) (old new : CheckerState) (before after : Reported)
    → raw.ext ≢ 0 → old.tuned ≡ true
    → finds_no_room (lookup_in raw (picture_of_heard old.next)) ≡ true → after ≡ before
    → HearsItems at (items_of first true (raw ∷ [])) old before new after true
full_next at first raw old new before after other tuned room reported =
    heard_none at (record { first = first; next = true; raw = raw }) old new before after
    (room_of old first true raw true (not_zero raw.ext other)
    (ap (λ t. t && finds_no_room (lookup_in raw (picture_of_heard old.next))) tuned ∙ room)) reported

-- ---- what does not change within a frame

pub later_itself : (m : CheckerState) → IsSane m → IsLater m m
later_itself m s = record { step = refl; period = refl; frames = refl; sane = s }

pub later_twice : (a b c : CheckerState) → IsLater a b → IsLater b c → IsLater a c
later_twice a b c x y = record {
  step = y.step ∙ x.step;
  period = y.period ∙ x.period;
  frames = y.frames ∙ x.frames;
  sane = y.sane;
}

-- ---- by the result of a call

pub answered_current : (b : Bool) (at : FrameAt) (first : Bool) (raw : Raw) (old new : CheckerState)
    (before after : Reported) → raw.ext ≢ 0 → raw.ext < 4 → old.tuned ≡ true
    → (b ≡ true → finds_no_room (lookup_in raw (picture_of_heard old.current)) ≡ false)
    → (b ≡ true → after ≡ with_more before (map (in_frame at) (current_findings (known_in old) raw)))
    → (b ≡ true → new ≡ with_current raw old)
    → (b ≡ false → finds_no_room (lookup_in raw (picture_of_heard old.current)) ≡ true) → (b ≡ false → after ≡ before)
    → HearsItems at (items_of first false (raw ∷ [])) old before new after (not b)
answered_current true at first raw old new before after other few tuned room reported is full same =
    hears_current at first raw old new before after other few tuned (room refl) (reported refl) (is refl)
answered_current false at first raw old new before after other few tuned room reported is full same =
    full_current at first raw old new before after other tuned (full refl) (same refl)

pub answered_next : (b : Bool) (at : FrameAt) (first : Bool) (raw : Raw) (old new : CheckerState)
    (before after : Reported) → raw.ext ≢ 0 → raw.ext < 4 → old.tuned ≡ true
    → (b ≡ true → finds_no_room (lookup_in raw (picture_of_heard old.next)) ≡ false)
    → (b ≡ true → after ≡ with_more before (map (in_frame at) (next_findings (known_in old) raw)))
    → (b ≡ true → new ≡ with_next raw old)
    → (b ≡ false → finds_no_room (lookup_in raw (picture_of_heard old.next)) ≡ true) → (b ≡ false → after ≡ before)
    → HearsItems at (items_of first true (raw ∷ [])) old before new after (not b)
answered_next true at first raw old new before after other few tuned room reported is full same =
    hears_next at first raw old new before after other few tuned (room refl) (reported refl) (is refl)
answered_next false at first raw old new before after other few tuned room reported is full same =
    full_next at first raw old new before after other tuned (full refl) (same refl)
