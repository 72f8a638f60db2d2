-- The entries of the next configuration in the frames of a notice, and what a swap without a fault implies about it.
use Rattle.stream_laws.proofs.Words.{[], ◌%◌, ◌&&◌, ◌++◌, ◌+◌, ◌<◌, ◌==◌, ◌∙◌, ◌∷◌, ◌≡◌, ◌≤◌, AllByRecursion, Bool}
use Rattle.stream_laws.proofs.Words.{Contains, Contains-append_cases, Contains-append_left, Contains-append_right}
use Rattle.stream_laws.proofs.Words.{Ended, EnsembleInformation, IsCutInThree, IsNoFault, IsTheMost, Item, KnownBefore}
use Rattle.stream_laws.proofs.Words.{List, Listening, Moment, None, Option, Pictured, Raw, Said, Some, ap, append-nil}
use Rattle.stream_laws.proofs.Words.{arith, at_most, awaited_low, cases_lt, change_between, changes, concat, cond}
use Rattle.stream_laws.proofs.Words.{contains_first, contains_later, contains_none, drop, ensemble_of_item, entry_like}
use Rattle.stream_laws.proofs.Words.{eqb-true, false, false≢true, has_begun, heard_as, inl, inr, is_cut_off}
use Rattle.stream_laws.proofs.Words.{is_ensemble, is_flagged, is_made, is_swap, key_of, known_of, last_flags, list_any}
use Rattle.stream_laws.proofs.Words.{listener_after, lt-ltb, map, member_row, member_rows, nat_lt, no_swap, not}
use Rattle.stream_laws.proofs.Words.{not-false, notice_faults, refl, row_at_hand, rows, slice_get, subst, suc}
use Rattle.stream_laws.proofs.Words.{swap_findings, sym, three_or_more, times_announced, times_heard, true, unit_faults}
use Rattle.stream_laws.proofs.Words.{unwrap_or, wanted, zero, ℕ}
use Rattle.stream_check.proofs.PartCount.{one_of, in_none}
use Rattle.stream_check.specs.declared.finding.Fault.TheVariants as faults
use Rattle.stream_laws.proofs.Clean.{IsClean, all_left}
use Rattle.stream_laws.proofs.Kept.{first_holds, second_holds, next_kept, with_member, after_member, after_heard}
use Rattle.stream_laws.proofs.Kept.{rows_are, row_is, no_fault, first_fine, ensemble_made, plain_ensemble}
use Rattle.stream_laws.proofs.Pictures.{picture_with, found_kept, found_again}
use Rattle.stream_laws.proofs.Rows.{at_hand, notice_rows}
use Rattle.stream_laws.proofs.Tracking.{IsFormed, AllAnnounce, has_flagged, flagged_rows, alone_first, all_tracked}
use Rattle.stream_laws.proofs.Tracking.{all_counted}

-- the entry with this key is among these, with C/N 1 and as in the picture
pub record IsSaidAmong (next : Pictured) (items : List Item) (x : ℕ) : Type 0 where
  pub item : Item
  pub inside : Contains items item
  pub marked : item.next ≡ true
  pub member : is_ensemble item ≡ false
  pub small : item.raw.ext < 4
  pub key : key_of item.raw ≡ x
  pub found : entry_like item.raw next ≡ Some item.raw

abbrev pub RowIsSaid : Pictured → List Item → List ℕ → Type 0
RowIsSaid next items row = (x : ℕ) → Contains row x → IsSaidAmong next items x

abbrev pub RowsAreSaid : Pictured → List (List Item) → List (List ℕ) → Type 0
RowsAreSaid next [] [] = Unit {0}
RowsAreSaid next (is ∷ iss) (r ∷ rs) = RowIsSaid next is r × RowsAreSaid next iss rs
RowsAreSaid next _ _ = ⊥

-- the second picture has every entry of the first
abbrev pub Grows : Pictured → Pictured → Type 0
Grows p q = (y : Raw) → entry_like y p ≡ Some y → entry_like y q ≡ Some y

among_grown : (p q : Pictured) (items : List Item) (x : ℕ) → Grows p q → IsSaidAmong p items x → IsSaidAmong q items x
among_grown p q items x g s = record {
  item = s.item;
  inside = s.inside;
  marked = s.marked;
  member = s.member;
  small = s.small;
  key = s.key;
  found = g s.item.raw s.found;
}

among_more : (p : Pictured) (items more : List Item) (x : ℕ) → IsSaidAmong p items x → IsSaidAmong p (items ++ more) x
among_more p items more x s = record {
  item = s.item;
  inside = Contains-append_left items more s.item s.inside;
  marked = s.marked;
  member = s.member;
  small = s.small;
  key = s.key;
  found = s.found;
}

rows_grown : (p q : Pictured) (iss : List (List Item)) (rs : List (List ℕ)) → Grows p q → RowsAreSaid p iss rs
    → RowsAreSaid q iss rs
rows_grown p q [] [] g s = tt
rows_grown p q (is ∷ iss) (r ∷ rs) g s = (λ x c. among_grown p q is x g (s.0 x c), rows_grown p q iss rs g s.1)
rows_grown p q _ _ g s = absurd s

rows_longer : (p : Pictured) (iss : List (List Item)) (rs : List (List ℕ)) (is : List Item) (r : List ℕ)
    → RowsAreSaid p iss rs → RowIsSaid p is r → RowsAreSaid p (iss ++ is ∷ []) (rs ++ r ∷ [])
rows_longer p [] [] is r s one = (one, tt)
rows_longer p (y ∷ ys) (x ∷ xs) is r s one = (s.0, rows_longer p ys xs is r s.1 one)
rows_longer p _ _ is r s one = absurd s

pub record AreSaid (past : List Moment) : Type 0 where
  pub rows : RowsAreSaid (listener_after past).next (notice_rows past) (rows past)
  pub hand : RowIsSaid (listener_after past).next (at_hand past) (row_at_hand past)

-- with the same rows, and a picture that has every entry as before
said_further : (past now : List Moment) (more : List Item) → Grows (listener_after past).next (listener_after now).next
    → notice_rows now ≡ notice_rows past → rows now ≡ rows past
    → at_hand now ≡ at_hand past ++ more → row_at_hand now ≡ row_at_hand past → AreSaid past → AreSaid now
said_further past now more g iss rs hand row s = record {
  rows = subst (λ (xs : List (List Item)). RowsAreSaid (listener_after now).next xs (rows now)) (sym iss)
      (subst (λ (xs : List (List ℕ)). RowsAreSaid (listener_after now).next (notice_rows past) xs) (sym rs)
      (rows_grown (listener_after past).next (listener_after now).next (notice_rows past) (rows past) g s.rows));
  hand = λ x c.
      let before : Contains (row_at_hand past) x = subst (λ (r : List ℕ). Contains r x) row c in
      subst (λ (is : List Item). IsSaidAmong (listener_after now).next is x) (sym hand)
      (among_more (listener_after now).next (at_hand past) more x
      (among_grown (listener_after past).next (listener_after now).next (at_hand past) x g (s.hand x before)));
}

pub same_next : (p q : Pictured) → q ≡ p → Grows p q
same_next p q e y found = ap (entry_like y) e ∙ found

no_next : (t n : Bool) (raw : Raw) (l : Listening) → (t && n) ≡ false → (cond t (with_member n raw l) l).next ≡ l.next
no_next true true raw l e = absurd (false≢true (sym e))
no_next _ _ raw l e = refl

a_next : (t n : Bool) (raw : Raw) (l : Listening) → (t && n) ≡ true
    → (cond t (with_member n raw l) l).next ≡ picture_with raw l.next
a_next true true raw l e = refl
a_next _ _ raw l e = absurd (false≢true e)

last_in : (items : List Item) (i : Item) → Contains (items ++ i ∷ []) i
last_in items i = Contains-append_right items (i ∷ []) i (0, omega arith, refl)

member_said : (step period : ℕ) (past : List Moment) (i : Item) (b : Bool) → ((listener_after past).tuned && i.next) ≡ b
    → is_ensemble i ≡ false → i.raw.ext < 4 → IsClean step period (Said i ∷ past) → AreSaid past
    → AreSaid (Said i ∷ past)
member_said step period past i false is e small c s =
    let next : (listener_after (Said i ∷ past)).next ≡ (listener_after past).next = cc
    (after_member step period past i c e, no_next (listener_after past).tuned i.next i.raw (listener_after past) is) in
    said_further past (Said i ∷ past) (i ∷ [])
    (same_next (listener_after past).next (listener_after (Said i ∷ past)).next next)
    (ap (λ t. cond t [] (notice_rows past)) (no_swap past i e)) (member_rows past i e) refl
    (member_row past i e ∙ ap (λ t. row_at_hand past ++ cond t (key_of i.raw ∷ []) []) is
    ∙ append-nil (row_at_hand past)) s
member_said step period past i true is e small c s =
    let marked : i.next ≡ true = second_holds (listener_after past).tuned i.next is in
    let kept = next_kept step period past i e (first_holds (listener_after past).tuned i.next is) marked c in
    let next : (listener_after (Said i ∷ past)).next ≡ picture_with i.raw (listener_after past).next = cc
    (after_member step period past i c e, a_next (listener_after past).tuned i.next i.raw (listener_after past) is) in
    let g : Grows (listener_after past).next (listener_after (Said i ∷ past)).next =
    λ y found. ap (entry_like y) next ∙ found_again i.raw y (listener_after past).next kept.agrees found in
    let row = member_row past i e ∙ ap (λ t. row_at_hand past ++ cond t (key_of i.raw ∷ []) []) is in
    record {
      rows = subst (λ (xs : List (List Item)). RowsAreSaid (listener_after (Said i ∷ past)).next xs
          (rows (Said i ∷ past))) (sym (ap (λ t. cond t [] (notice_rows past)) (no_swap past i e)))
          (subst (λ (xs : List (List ℕ)). RowsAreSaid (listener_after (Said i ∷ past)).next (notice_rows past) xs)
          (sym (member_rows past i e))
          (rows_grown (listener_after past).next (listener_after (Said i ∷ past)).next (notice_rows past) (rows past) g
          s.rows));
      hand = λ x c.
          elim (Contains-append_cases (row_at_hand past) (key_of i.raw ∷ []) x
          (subst (λ (r : List ℕ). Contains r x) row c)) [
            | inl before ↦ among_more (listener_after (Said i ∷ past)).next (at_hand past) (i ∷ []) x
                (among_grown (listener_after past).next (listener_after (Said i ∷ past)).next (at_hand past) x g
                (s.hand x before))
            | inr now ↦ record {
              item = i;
              inside = last_in (at_hand past) i;
              marked = marked;
              member = e;
              small = small;
              key = sym (one_of (key_of i.raw) x now);
              found = ap (entry_like i.raw) next ∙ found_kept i.raw (listener_after past).next;
            }
          ];
    }

ensemble_said : (step period : ℕ) (past : List Moment) (i : Item) (b f : Bool) → is_swap past i ≡ b → is_flagged i ≡ f
    → is_ensemble i ≡ true → IsClean step period (Said i ∷ past) → AreSaid past → AreSaid (Said i ∷ past)
ensemble_said step period past i true f sw fl e c s = record {
  rows = rw (ap (λ t. cond t [] (notice_rows past)) sw) (rw (rows_are past i true sw) tt);
  hand = λ x c. absurd (in_none x (subst (λ (r : List ℕ). Contains r x) (row_is past i true e sw) c));
}
ensemble_said step period past i false f sw fl e c s =
    let next = ap (λ (l : Listening). l.next) (after_heard step period past i false f c e sw fl) ∙ as_before f in
    said_further past (Said i ∷ past) (i ∷ [])
    (same_next (listener_after past).next (listener_after (Said i ∷ past)).next next)
    (ap (λ t. cond t [] (notice_rows past)) sw) (rows_are past i false sw) refl (row_is past i false e sw) s
  where
    as_before : (g : Bool) → (heard_as false g (ensemble_of_item i) (listener_after past)).next
        ≡ (listener_after past).next
    as_before true = refl
    as_before false = refl

entry_said : (step period : ℕ) (past : List Moment) (i : Item) (b : Bool) → is_ensemble i ≡ b → i.raw.ext < 4
    → IsClean step period (Said i ∷ past) → AreSaid past → AreSaid (Said i ∷ past)
entry_said step period past i true e small c s = ensemble_said _ _ _ _ _ _ refl refl e c s
entry_said step period past i false e small c s = member_said _ _ _ _ _ refl e small c s

pub all_said : (step period : ℕ) (past : List Moment) → IsClean step period past → IsFormed past → AreSaid past
all_said step period [] c w = record { rows = tt; hand = λ x h. absurd (in_none x h) }
all_said step period (Said i ∷ past) c w = entry_said _ _ _ _ _ refl w.0 c (all_said step period past c.2 w.2)
all_said step period (Ended count ∷ past) c w =
    let s = all_said step period past c w in
    record { rows = ended (has_begun past) refl s; hand = λ x h. absurd (in_none x h) }
  where
    ended : (b : Bool) → has_begun past ≡ b → AreSaid past
        → RowsAreSaid (listener_after past).next (cond b (notice_rows past ++ at_hand past ∷ []) [])
        (cond b (rows past ++ row_at_hand past ∷ []) [])
    ended true is s = rows_longer (listener_after past).next (notice_rows past) (rows past) (at_hand past)
        (row_at_hand past) s.rows s.hand
    ended false is s = tt

-- ---- a swap

other_false : (c b : Bool) → c ≡ false → (not c && b) ≡ false → b ≡ false
other_false true b e h = absurd (false≢true (sym e))
other_false false b e h = h

at_least : (n m : ℕ) → nat_lt n m ≡ false → m ≤ n
at_least n m h = elim (cases_lt n m) [ inl lt ↦ absurd (false≢true (sym h ∙ lt-ltb n m lt)) | inr le ↦ le ]

three_times : (n : ℕ) → nat_lt (at_most 3 n) 3 ≡ false → 3 ≤ n
three_times n h = elim (cases_lt n 3) [
  | inl lt ↦ absurd (false≢true (sym h ∙ ap (λ t. nat_lt (cond t n 3) 3) (lt-ltb n 3 lt) ∙ lt-ltb n 3 lt))
  | inr le ↦ le
]

pub awaited_is : (aw : Option ℕ) (e : EnsembleInformation) (low : ℕ) → is_made aw e ≡ true → low ≡ unwrap_or aw 0
    → aw ≡ Some low
awaited_is None e low made is = absurd (false≢true made)
awaited_is (Some a) e low made is = ap Some (sym is)

-- the notice at the time of its swap
pub record IsMadeRight (past : List Moment) (count : ℕ) : Type 0 where
  pub awaited : (listener_after past).awaited ≡ Some (count % 250)
  pub times : 3 ≤ times_announced past
  pub heard : IsCutInThree (wanted past) (rows past)
  pub flags : last_flags past ≡ change_between (listener_after past).current (listener_after past).next

swap_rules : IsTheMost → (step period : ℕ) (past : List Moment) (e : EnsembleInformation)
    → AllByRecursion IsNoFault (swap_findings (known_of step period past) e) → is_cut_off past ≡ false
    → is_made (listener_after past).awaited e ≡ true → IsMadeRight past e.count
swap_rules most step period past e all whole made =
    let k : KnownBefore = known_of step period past in
    let low = first_fine _ _ _ all.1 in
    let one = first_fine _ _ _ (all_left IsNoFault (notice_faults k) (unit_faults k) low.1) in
    let two = first_fine (not k.is_cut_off && nat_lt k.heard 3) (faults.NextHeard k.heard) _ one.1 in
    let times : nat_lt (at_most 3 (times_announced past)) 3 ≡ false = other_false (is_cut_off past) _ whole one.0 in
    let heard : nat_lt (times_heard past) 3 ≡ false = other_false (is_cut_off past) _ whole two.0 in
    let three = no_fault (not k.is_cut_off && not (k.flags == changes k)) (faults.Flags k.flags (changes k)) two.1 in
    let flags = not-false (last_flags past == changes k) (other_false (is_cut_off past) _ whole three) in
    record {
      awaited = awaited_is (listener_after past).awaited e (e.count % 250) made
          (eqb-true (e.count % 250) (awaited_low k) (not-false (e.count % 250 == awaited_low k) low.0));
      times = three_times (times_announced past) times;
      heard = (three_or_more (wanted past) (times_heard past) (rows past) (most (wanted past) (rows past))).0
          (at_least (times_heard past) 3 heard);
      flags = eqb-true (last_flags past) (changes k) flags;
    }

-- and the frames of that notice
pub record IsNoticed (past : List Moment) (count : ℕ) : Type 0 where
  pub right : IsMadeRight past count
  pub alone : at_hand past ≡ []
  pub announced : AllByRecursion (AllAnnounce (last_flags past) (count % 250)) (notice_rows past)
  pub flagged : 3 ≤ flagged_rows (notice_rows past)
  pub said : RowsAreSaid (listener_after past).next (notice_rows past) (rows past)

pub swap_noticed : IsTheMost → (step period : ℕ) (past : List Moment) (i : Item) → IsClean step period (Said i ∷ past)
    → IsFormed (Said i ∷ past) → is_swap past i ≡ true → is_cut_off past ≡ false
    → IsNoticed past (ensemble_of_item i).count
swap_noticed most step period past i c w sw whole =
    let e : is_ensemble i ≡ true = first_holds (is_ensemble i) _ sw in
    let made : is_made (listener_after past).awaited (ensemble_of_item i) ≡ true = sym (ensemble_made past i e) ∙ sw in
    let rules = plain_ensemble step period past i c e in
    let right = swap_rules most step period past (ensemble_of_item i) (rules.swap made) whole made in
    let hand = alone_first step period past i c w e in
    let tracked = (all_tracked step period past c.2 w.2).announcing ((ensemble_of_item i).count % 250) right.awaited in
    record {
      right = right;
      alone = hand;
      announced = tracked.rows;
      flagged = omega (arith, all_counted step period past c.2 w.2, ap has_flagged hand, right.times);
      said = (all_said step period past c.2 w.2).rows;
    }

-- ---- three frames

pub record IsFlaggedAt {X : Type 0} (g : X → List Item) (n : ℕ) (fs : List X) : Type 0 where
  pub place : ℕ
  pub frame : X
  pub got : slice_get fs place ≡ Some frame
  pub has : list_any is_flagged (g frame) ≡ true
  pub rest : n ≤ flagged_rows (map g (drop (suc place) fs))

pub flagged_at : {X : Type 0} (g : X → List Item) (n : ℕ) (fs : List X) → suc n ≤ flagged_rows (map g fs)
    → IsFlaggedAt g n fs
flagged_at g n [] h = absurd (omega (arith, h))
flagged_at g n (f ∷ fs) h = elim (list_any is_flagged (g f))
    as (λ t. list_any is_flagged (g f) ≡ t → suc n ≤ cond t 1 0 + flagged_rows (map g fs) → IsFlaggedAt g n (f ∷ fs)) [
      | true ↦ λ e le. record { place = 0; frame = f; got = refl; has = e; rest = omega (arith, le) }
      | false ↦ λ e le.
          let later = flagged_at g n fs (omega (arith, le)) in
          record { place = suc later.place; frame = later.frame; got = later.got; has = later.has; rest = later.rest }
    ] refl h

pub get_later : {X : Type 0} (n : ℕ) (fs : List X) (q : ℕ) (x : X) → slice_get (drop n fs) q ≡ Some x
    → slice_get fs (n + q) ≡ Some x
get_later zero fs q x h = (let same : zero + q ≡ q = omega arith in ap (slice_get fs) same ∙ h)
get_later (suc n) [] q x h = absurd cc
get_later (suc n) (f ∷ fs) q x h =
    (let same : suc n + q ≡ suc (n + q) = omega arith in ap (slice_get (f ∷ fs)) same ∙ get_later n fs q x h)

pub get_map : {X Y : Type 0} (f : X → Y) (fs : List X) (q : ℕ) (x : X) → slice_get fs q ≡ Some x
    → slice_get (map f fs) q ≡ Some (f x)
get_map f [] q x h = absurd cc
get_map f (y ∷ ys) zero x h = (let same : y ≡ x = cc in ap (λ z. Some (f z)) same)
get_map f (y ∷ ys) (suc q) x h = get_map f ys q x h

-- ---- parts

pub record IsSplit {X : Type 0} (g : X → List Item) (next : Pictured) (fs : List X) (xs ys : List (List ℕ)) : Type
    0 where
  pub left : List X
  pub right : List X
  pub whole : fs ≡ left ++ right
  pub first : RowsAreSaid next (map g left) xs
  pub second : RowsAreSaid next (map g right) ys

pub split_rows : {X : Type 0} (g : X → List Item) (next : Pictured) (fs : List X) (xs ys : List (List ℕ))
    → RowsAreSaid next (map g fs) (xs ++ ys) → IsSplit g next fs xs ys
split_rows g next fs [] ys s = record { left = []; right = fs; whole = refl; first = tt; second = s }
split_rows g next [] (x ∷ xs) ys s = absurd s
split_rows g next (f ∷ fs) (x ∷ xs) ys s =
    let rest = split_rows g next fs xs ys s.1 in
    record {
      left = f ∷ rest.left;
      right = rest.right;
      whole = ap (λ zs. f ∷ zs) rest.whole;
      first = (s.0, rest.first);
      second = rest.second;
    }

pub in_part : {X : Type 0} (g : X → List Item) (next : Pictured) (fs : List X) (rs : List (List ℕ)) (x : ℕ)
    → RowsAreSaid next (map g fs) rs → Contains (concat rs) x
    → (frame : X) × Contains fs frame × IsSaidAmong next (g frame) x
in_part g next [] [] x s h = absurd (contains_none x h)
in_part g next (f ∷ fs) (r ∷ rs) x s h = elim (Contains-append_cases r (concat rs) x h) [
  | inl here ↦ (f, contains_first f fs, s.0 x here)
  | inr later ↦ (let there = in_part g next fs rs x s.1 later in
      (there.0, contains_later f fs there.0 there.1, there.2))
]
in_part g next _ _ x s h = absurd s
