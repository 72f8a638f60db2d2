-- The findings in a frame, test by test: where no test is met, none of them is a fault.
use Rattle.stream_laws.proofs.Words.{[], ◌%◌, ◌&&◌, ◌++◌, ◌==◌, ◌∙◌, ◌∷◌, ◌≡◌, AllByRecursion, Bool, Contradiction}
use Rattle.stream_laws.proofs.Words.{EnsembleInformation, Fault, Fib, Finding, FrameAt, In, IsFreeUnlessShort, Item}
use Rattle.stream_laws.proofs.Words.{KnownBefore, List, Moment, None, Option, Raw, Said, Some, What, all_append}
use Rattle.stream_laws.proofs.Words.{all_entries, announcement, announces_another, announces_first, ap, awaited_low}
use Rattle.stream_laws.proofs.Words.{can_fall_at, changes, cond, count_due, current_findings, damaged_in, due}
use Rattle.stream_laws.proofs.Words.{ensemble_findings, ensemble_of_item, false, false≢true, filter, findings_at}
use Rattle.stream_laws.proofs.Words.{findings_at_items, findings_at_sent, findings_in, first_line, frame_at}
use Rattle.stream_laws.proofs.Words.{frame_findings, frame_items, frame_sent, has_flags, has_no_room, has_other_count}
use Rattle.stream_laws.proofs.Words.{in_frame, inl, inr, is_absent, is_ensemble, is_of_other_ensemble, is_of_period}
use Rattle.stream_laws.proofs.Words.{is_other_one, is_placed, is_settled, is_silent, known_of, lacks_opening, length}
use Rattle.stream_laws.proofs.Words.{listener_after, lookup_in, makes_swap, map, member_findings, name_of, nat_lt}
use Rattle.stream_laws.proofs.Words.{next_findings, not, notice_faults, occurrence_of, overlap, past_end, place_faults}
use Rattle.stream_laws.proofs.Words.{refl, runs_full, said, silence, silent_findings, subst, swap_findings}
use Rattle.stream_laws.proofs.Words.{swap_or_another, sym, true, unit_faults, unwrap_or, when, ℕ}
use Rattle.stream_check.specs.declared.finding.Fault.TheVariants as faults
use Rattle.stream_check.specs.declared.finding.StreamEvent.TheVariants as events
use Rattle.stream_check.specs.declared.finding.What.TheVariants as whats
use Rattle.stream_laws.proofs.Kept.{first_holds}
use Rattle.stream_laws.proofs.Sending.{IsOpenFib, found_open}
use Rattle.stream_laws.proofs.Rows.{HasNone}

abbrev pub AreFree : (IsLong : Type 0) → List What → Type 0
AreFree L ws = AllByRecursion (IsFreeUnlessShort L) ws

when_short : (L : Type 0) (b : Bool) (fault : Fault) → is_of_period fault ≡ true → (L → b ≡ false)
    → AreFree L (when b fault)
when_short L true fault is h = ((is, λ l. false≢true (sym (h l))), tt)
when_short L false fault is h = tt

pub not_both : {X : Type 0} {b : Bool} → b ≡ false → b ≡ true → X
not_both f t = absurd (false≢true (sym f ∙ t))

-- ---- what holds of each finding, if it holds of each fault whose test is met

pub when_each : (P : What → Type 0) (b : Bool) (fault : Fault) → (b ≡ true → P (whats.Fault fault))
    → AllByRecursion P (when b fault)
when_each P true fault f = (f refl, tt)
when_each P false fault f = tt

pub when_then : (P : What → Type 0) (b : Bool) (fault : Fault) (more : List What) → (b ≡ true → P (whats.Fault fault))
    → AllByRecursion P more → AllByRecursion P (when b fault ++ more)
when_then P true fault more f all = (f refl, all)
when_then P false fault more f all = all

pub either_each : (P : What → Type 0) (b : Bool) (xs ys : List What) → (b ≡ true → AllByRecursion P xs)
    → (b ≡ false → AllByRecursion P ys) → AllByRecursion P (cond b xs ys)
either_each P true xs ys f g = f refl
either_each P false xs ys f g = g refl

pub frame_each : (P : What → Type 0) (size step : ℕ) (last : Option ℕ) (frame : List Fib)
    → ((eid : ℕ) → P (whats.Event (events.Ensemble eid)))
    → (nat_lt (length frame) size ≡ true → P (whats.Fault (faults.ShortFrame (length frame))))
    → (nat_lt 0 (damaged_in frame) ≡ true → P (whats.Fault (faults.Damaged (damaged_in frame))))
    → ((count_due last frame % step == 0 && lacks_opening frame) ≡ true → P (whats.Fault faults.NoEnsemble))
    → AllByRecursion P (frame_findings size step last frame)
frame_each P size step last frame event short damaged none =
    all_append P (first_line last frame) _ (first_event last)
    (when_then P (nat_lt (length frame) size) (faults.ShortFrame (length frame)) _ short
    (when_then P (nat_lt 0 (damaged_in frame)) (faults.Damaged (damaged_in frame)) _ damaged
    (when_each P (count_due last frame % step == 0 && lacks_opening frame) faults.NoEnsemble none)))
  where
    first_event : (o : Option ℕ) → AllByRecursion P (first_line o frame)
    first_event None = (event _, tt)
    first_event (Some count) = tt

pub place_each : (P : What → Type 0) (k : KnownBefore) (first : Bool) (e : EnsembleInformation)
    → (is_of_other_ensemble k first e ≡ true → P (whats.Fault (faults.OtherEnsemble e.eid)))
    → (has_other_count k first e ≡ true → P (whats.Fault (faults.Count (unwrap_or k.due 0))))
    → (not (is_placed k first e) ≡ true → P (whats.Fault faults.OutOfPlace))
    → AllByRecursion P (place_faults k first e)
place_each P k first e eid count placed = when_then _ _ _ _ eid (when_then _ _ _ _ count (when_each _ _ _ placed))

pub notice_each : (P : What → Type 0) (k : KnownBefore)
    → ((not k.is_cut_off && nat_lt k.times 3) ≡ true → P (whats.Fault (faults.AnnouncedTimes k.times)))
    → ((not k.is_cut_off && nat_lt k.heard 3) ≡ true → P (whats.Fault (faults.NextHeard k.heard)))
    → ((not k.is_cut_off && not (k.flags == changes k)) ≡ true → P (whats.Fault (faults.Flags k.flags (changes k))))
    → AllByRecursion P (notice_faults k)
notice_each P k times heard flags = when_then _ _ _ _ times (when_then _ _ _ _ heard (when_each _ _ _ flags))

-- ---- the frame as a whole

pub record IsFrameFine (size step : ℕ) (last : Option ℕ) (frame : List Fib) : Type 0 where
  pub full : nat_lt (length frame) size ≡ false
  pub whole : nat_lt 0 (damaged_in frame) ≡ false
  pub opens : (count_due last frame % step == 0 && lacks_opening frame) ≡ false

frame_free : (L : Type 0) (size step : ℕ) (last : Option ℕ) (frame : List Fib) → IsFrameFine size step last frame
    → AreFree L (frame_findings size step last frame)
frame_free L size step last frame h =
    frame_each _ _ _ _ _ (λ eid. tt) (not_both h.full) (not_both h.whole) (not_both h.opens)

-- ---- a FIG 0/0

-- its place, its ensemble and its count
pub record IsPlaceFine (k : KnownBefore) (first : Bool) (e : EnsembleInformation) : Type 0 where
  pub eid : is_of_other_ensemble k first e ≡ false
  pub count : has_other_count k first e ≡ false
  pub placed : is_placed k first e ≡ true

-- what it announces, and the count and the capacity units of its swap
pub record IsHeadFine (k : KnownBefore) (e : EnsembleInformation) : Type 0 where
  pub made : makes_swap k e ≡ true → (e.count % 250 == awaited_low k) ≡ true
  pub again : makes_swap k e ≡ false → announces_another k e ≡ false
  pub falls : has_flags e ≡ true → can_fall_at k.step (occurrence_of e) ≡ true
  pub early : k.began_early ≡ true → has_flags e ≡ true
  pub units : makes_swap k e ≡ true → (overlap k.listener.next.subs ≡ None) × (past_end k.listener.next.subs ≡ None)

-- the notice of its swap
pub record IsNoticeFine (k : KnownBefore) : Type 0 where
  pub times : (not k.is_cut_off && nat_lt k.times 3) ≡ false
  pub heard : (not k.is_cut_off && nat_lt k.heard 3) ≡ false
  pub flags : (not k.is_cut_off && not (k.flags == changes k)) ≡ false

unit_free : (L : Type 0) (k : KnownBefore) → (overlap k.listener.next.subs ≡ None)
    × (past_end k.listener.next.subs ≡ None) → AreFree L (unit_faults k)
unit_free L k none = rw none.0 (rw none.1 tt)

pub quiet_early : (f b : Bool) → (b ≡ true → f ≡ true) → (not f && b) ≡ false
quiet_early false true h = absurd (false≢true (h refl))
quiet_early _ _ h = refl

head_free : (L : Type 0) (k : KnownBefore) (first : Bool) (e : EnsembleInformation) → IsPlaceFine k first e
    → IsHeadFine k e → (makes_swap k e ≡ true → IsNoticeFine k)
    → AreFree L (ensemble_findings k first e)
head_free L k first e place h notice =
    let P : What → Type 0 = IsFreeUnlessShort L in
    all_append P (place_faults k first e) _
    (place_each P k first e (not_both place.eid) (not_both place.count) (not_both (ap not place.placed)))
    (all_append P (swap_or_another k e) _ (either_each P (makes_swap k e) (swap_findings k e) _ (λ is. (
      tt,
      when_then P (not (e.count % 250 == awaited_low k)) (faults.AnnouncedFor (awaited_low k))
          (notice_faults k ++ unit_faults k) (not_both (ap not (h.made is)))
          (all_append P (notice_faults k) (unit_faults k)
          (notice_each P k (not_both (notice is).times) (not_both (notice is).heard) (not_both (notice is).flags))
          (unit_free L k (h.units is))),
    )) (λ no. when_each P (announces_another k e) (faults.AnnouncedAgain e.change (occurrence_of e))
    (not_both (h.again no))))
    (all_append P (announcement k e) _ (either_each P (announces_first k e) _ [] (λ is. (
      tt,
      when_each P (not (can_fall_at k.step (occurrence_of e))) (faults.NoSwapAt (occurrence_of e))
          (not_both (ap not (h.falls (first_holds (has_flags e) _ is)))),
    )) (λ no. tt))
    (when_each P (not (has_flags e) && k.began_early) faults.NextUnannounced
    (not_both (quiet_early (has_flags e) k.began_early h.early)))))

-- ---- another entry

pub record IsMemberFine (k : KnownBefore) (i : Item) : Type 0 where
  pub same : i.next ≡ false → is_other_one (lookup_in i.raw k.listener.current) ≡ false
  pub flagged : i.next ≡ true → (not k.has_begun && k.has_ensemble) ≡ false
  pub next : i.next ≡ true → is_other_one (lookup_in i.raw k.listener.next) ≡ false

-- it does not appear once the current configuration is settled
abbrev pub IsNoNews : KnownBefore → Item → Type 0
IsNoNews k i = i.next ≡ false → (is_absent (lookup_in i.raw k.listener.current) && is_settled k) ≡ false

member_free : (L : Type 0) (k : KnownBefore) (i : Item) → IsMemberFine k i → (L → IsNoNews k i)
    → AreFree L (member_findings k i.next i.raw)
member_free L k i h known =
    let P : What → Type 0 = IsFreeUnlessShort L in
    either_each P k.listener.tuned _ [] (λ t. either_each P i.next (next_findings k i.raw) (current_findings k i.raw)
    (λ is. when_then P (not k.has_begun && k.has_ensemble) faults.NextUnannounced _ (not_both (h.flagged is))
    (when_each P (is_other_one (lookup_in i.raw k.listener.next)) (faults.NextChanged (name_of i.raw))
    (not_both (h.next is))))
    (λ is. when_then P (is_other_one (lookup_in i.raw k.listener.current)) (faults.Changed (name_of i.raw)) _
    (not_both (h.same is))
    (when_short L (is_absent (lookup_in i.raw k.listener.current) && is_settled k) (faults.Appeared (name_of i.raw))
    refl (λ l. known l is)))) (λ t. tt)

-- ---- the entries of a frame

-- this holds of each of these entries and of the past before it
abbrev pub Each : (List Moment → Item → Type 0) → List Moment → List Item → Type 0
Each P past [] = Unit {0}
Each P past (i ∷ is) = P past i × Each P (Said i ∷ past) is

pub each_other : (P : List Moment → Item → Type 0)
    → ((past : List Moment) (i : Item) → is_ensemble i ≡ false → P past i)
    → (items : List Item) (past : List Moment) → HasNone items → Each P past items
each_other P h [] past none = tt
each_other P h (i ∷ is) past none = (h past i none.0, each_other P h is (Said i ∷ past) none.1)

-- what each family of proofs says of an entry: of the place of FIG 0/0, of the entry itself, of the notice of a swap,
-- and of whether it was known
abbrev pub IsWellPlaced : (step period : ℕ) → List Moment → Item → Type 0
IsWellPlaced step period past i = is_ensemble i ≡ true
    → IsPlaceFine (known_of step period past) i.first (ensemble_of_item i)

pub record Agrees (step period : ℕ) (past : List Moment) (i : Item) : Type 0 where
  pub room : has_no_room (known_of step period past) i ≡ false
  pub head : is_ensemble i ≡ true → IsHeadFine (known_of step period past) (ensemble_of_item i)
  pub member : is_ensemble i ≡ false → IsMemberFine (known_of step period past) i

abbrev pub IsWellNoticed : (step period : ℕ) → List Moment → Item → Type 0
IsWellNoticed step period past i =
    is_ensemble i ≡ true → makes_swap (known_of step period past) (ensemble_of_item i) ≡ true
    → IsNoticeFine (known_of step period past)

abbrev pub IsKnown : (step period : ℕ) → List Moment → Item → Type 0
IsKnown step period past i = is_ensemble i ≡ false → IsNoNews (known_of step period past) i

item_free : (L : Type 0) (step period : ℕ) (past : List Moment) (i : Item) → IsWellPlaced step period past i
    → Agrees step period past i → IsWellNoticed step period past i → (L → IsKnown step period past i)
    → AreFree L (findings_at (known_of step period past) i)
item_free L step period past i place word notice known = by (is_ensemble i) refl
  where
    by : (b : Bool) → is_ensemble i ≡ b
        → AreFree L (cond b (ensemble_findings (known_of step period past) i.first (ensemble_of_item i))
        (member_findings (known_of step period past) i.next i.raw))
    by true is = head_free L (known_of step period past) i.first (ensemble_of_item i) (place is) (word.head is)
        (notice is)
    by false is = member_free L (known_of step period past) i (word.member is) (λ l. known l is)

items_free : (L : Type 0) (step period : ℕ) (items : List Item) (past : List Moment)
    → Each (IsWellPlaced step period) past items → Each (Agrees step period) past items
    → Each (IsWellNoticed step period) past items
    → (L → Each (IsKnown step period) past items) → AreFree L (findings_at_items step period past items)
items_free L step period [] past place word notice known = tt
items_free L step period (i ∷ is) past place word notice known =
    either_each (IsFreeUnlessShort L) (has_no_room (known_of step period past) i) [] _ (λ full. tt)
    (λ room. all_append (IsFreeUnlessShort L) (findings_at (known_of step period past) i) _
    (item_free L step period past i place.0 word.0 notice.0 (λ l. (known l).0))
    (items_free L step period is (Said i ∷ past) place.1 word.1 notice.1 (λ l. (known l).1)))

pub items_room : (step period : ℕ) (items : List Item) (past : List Moment) → Each (Agrees step period) past items
    → runs_full step period past items ≡ false
items_room step period [] past word = refl
items_room step period (i ∷ is) past word = cc (word.0.room, items_room step period is (Said i ∷ past) word.1)

-- ---- the end of a frame

silent_then : (L : Type 0) (r : Raw) (more : List Raw) (b : Bool) → (L → b ≡ false) → AreFree L (map silence more)
    → AreFree L (map silence (cond b (r ∷ more) more))
silent_then L r more true h rest = ((refl, λ l. false≢true (sym (h l))), rest)
silent_then L r more false h rest = rest

silent_free : (L : Type 0) (test : Raw → Bool) (rs : List Raw) → (L → (x : Raw) → In x rs → test x ≡ false)
    → AreFree L (map silence (filter test rs))
silent_free L test [] h = tt
silent_free L test (r ∷ rs) h =
    silent_then _ _ _ _ (λ l. h l r (inl refl)) (silent_free L test rs (λ l x more. h l x (inr more)))

-- ---- a frame

-- no test is met in it, except that an entry may appear or be silent where the period is short
pub record IsFrameFree (L : Type 0) (size step period : ℕ) (past : List Moment) (frame : List Fib) : Type 0 where
  pub whole : IsFrameFine size step (due past) frame
  pub place : Each (IsWellPlaced step period) past (frame_items frame)
  pub word : Each (Agrees step period) past (frame_items frame)
  pub notice : Each (IsWellNoticed step period) past (frame_items frame)
  pub known : L → Each (IsKnown step period) past (frame_items frame)
  pub sent : L → (x : Raw) → In x (all_entries (listener_after (said (frame_items frame) past)).current)
      → is_silent period (said (frame_items frame) past) x ≡ false
  -- each of its FIGs is one of FIG 0/0 to 0/3 of this ensemble
  pub own : AllByRecursion IsOpenFib frame

in_frame_free : (L : Type 0) (at : FrameAt) (ws : List What) → AreFree L ws
    → AllByRecursion (λ (found : Finding). IsFreeUnlessShort L found.what) (map (in_frame at) ws)
in_frame_free L at [] all = tt
in_frame_free L at (w ∷ ws) all = (all.0, in_frame_free L at ws all.1)

pub found_free : (L : Type 0) (size step period : ℕ) (past : List Moment) (noted : List Contradiction)
    (frame : List Fib) → IsFrameFree L size step period past frame
    → AllByRecursion (λ (found : Finding). IsFreeUnlessShort L found.what)
    (findings_in size step period past noted frame)
found_free L size step period past noted frame h =
    in_frame_free L (frame_at step past frame) _
    (all_append (IsFreeUnlessShort L) (frame_findings size step (due past) frame) _
    (frame_free L size step (due past) frame h.whole)
    (all_append (IsFreeUnlessShort L) (findings_at_sent step period past noted (frame_sent frame)) _
    (subst (AreFree L) (sym (found_open step period frame past noted h.own))
    (items_free L step period (frame_items frame) past h.place h.word h.notice h.known))
    (either_each (IsFreeUnlessShort L) (runs_full step period past (frame_items frame)) []
    (silent_findings period (said (frame_items frame) past)) (λ full. tt) (λ room.
    silent_free L (is_silent period (said (frame_items frame) past)) _ h.sent))))
