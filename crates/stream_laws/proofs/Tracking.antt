-- The FIG 0/0 of a notice, where nothing is at fault.
use Rattle.stream_laws.proofs.Words.{[], ◌&&◌, ◌++◌, ◌+◌, ◌<◌, ◌||◌, ◌∙◌, ◌∷◌, ◌≡◌, ◌≤◌, AllByRecursion, Bool, Ended}
use Rattle.stream_laws.proofs.Words.{Item, List, Listening, Moment, None, Option, Said, Some, and_from, ap, arith}
use Rattle.stream_laws.proofs.Words.{began_early, cond, each_pushed, ensemble_of_item, false, false≢true, get_or}
use Rattle.stream_laws.proofs.Words.{has_begun, has_ensemble, has_flags, is_ensemble, is_flagged, is_swap, known_of}
use Rattle.stream_laws.proofs.Words.{last_flags, list_any, list_any-append, listener_after, member_began_early}
use Rattle.stream_laws.proofs.Words.{member_flags, member_has_begun, member_times, no_swap, not, occurrence_of, refl}
use Rattle.stream_laws.proofs.Words.{some_is, subst, sym, times_announced, true, unwrap_or, ℕ, none_some}
use Rattle.stream_laws.proofs.Clean.{IsClean}
use Rattle.stream_laws.proofs.Kept.{first_holds, second_holds, next_kept, awaited_member, after_heard, ensemble_made}
use Rattle.stream_laws.proofs.Kept.{ensemble_flags, begun_is, times_are, flags_are, IsPlainEnsemble, plain_ensemble}
use Rattle.stream_laws.proofs.Kept.{some_flags, occurrence_is, not_another, nothing_awaited, begun_flagged}
use Rattle.stream_laws.proofs.Rows.{at_hand, notice_rows, HasNone, none_at_hand}

-- the form of entries in FIBs: FIG 0/0 to 0/3, and a FIG 0/0 in the first FIG is the first entry of its frame
abbrev pub IsFormed : List Moment → Type 0
IsFormed [] = Unit {0}
IsFormed (Said i ∷ past) = (i.raw.ext < 4) × ((i.first && is_ensemble i) ≡ true → at_hand past ≡ []) × IsFormed past
IsFormed (Ended count ∷ past) = IsFormed past

-- if the entry is a FIG 0/0, it announces this
abbrev pub Announces : ℕ → ℕ → Item → Type 0
Announces flags low i = is_ensemble i ≡ true → ((ensemble_of_item i).change ≡ flags)
    × ((ensemble_of_item i).occurrence ≡ Some low)

abbrev pub AllAnnounce : ℕ → ℕ → List Item → Type 0
AllAnnounce flags low items = AllByRecursion (Announces flags low) items

pub record HasNotBegun (past : List Moment) : Type 0 where
  pub awaited : (listener_after past).awaited ≡ None
  pub times : times_announced past ≡ 0
  pub rows : notice_rows past ≡ []

pub record HasBegunAlone (past : List Moment) : Type 0 where
  pub early : began_early past ≡ true
  pub rows : AllByRecursion HasNone (notice_rows past)
  pub hand : HasNone (at_hand past)

pub record IsAnnouncing (past : List Moment) (low : ℕ) : Type 0 where
  pub begun : has_begun past ≡ true
  pub flags : 0 < last_flags past
  pub rows : AllByRecursion (AllAnnounce (last_flags past) low) (notice_rows past)
  pub hand : AllAnnounce (last_flags past) low (at_hand past)

-- a notice has not begun, or began with an entry and awaits its first FIG 0/0, or all its FIG 0/0 announce the same
pub record IsTracked (past : List Moment) : Type 0 where
  pub before : has_begun past ≡ false → HasNotBegun past
  pub alone : has_begun past ≡ true → (listener_after past).awaited ≡ None → HasBegunAlone past
  pub announcing : (low : ℕ) → (listener_after past).awaited ≡ Some low → IsAnnouncing past low

-- ---- an entry of FIG 0/1 to 0/3

or_cases : (a b : Bool) → (a || b) ≡ false → a ≡ false
or_cases true b h = absurd (false≢true (sym h))
or_cases false b h = refl

later_or : (a b : Bool) → (a || b) ≡ true → a ≡ false → b ≡ true
later_or true b h is = absurd (false≢true (sym is))
later_or false b h is = h

same_rows : (past : List Moment) (i : Item) → is_ensemble i ≡ false → notice_rows (Said i ∷ past) ≡ notice_rows past
same_rows past i e = ap (λ t. cond t [] (notice_rows past)) (no_swap past i e)

begun_alone : (step period : ℕ) (past : List Moment) (i : Item) → IsClean step period (Said i ∷ past)
    → is_ensemble i ≡ false → IsTracked past
    → has_begun (Said i ∷ past) ≡ true → (listener_after past).awaited ≡ None → (b : Bool) → has_begun past ≡ b
    → HasBegunAlone (Said i ∷ past)
begun_alone step period past i c e t is none true was =
    let before = t.alone was none in
    record {
      early = member_began_early past i e
          ∙ ap (λ b. cond (((listener_after past).tuned && i.next) && not b) (not (has_ensemble past))
          (began_early past)) was
          ∙ not_begun ((listener_after past).tuned && i.next) (not (has_ensemble past)) (began_early past)
          ∙ before.early;
      rows = subst (AllByRecursion HasNone) (sym (same_rows past i e)) before.rows;
      hand = each_pushed (λ (j : Item). is_ensemble j ≡ false) (at_hand past) i before.hand e;
    }
  where
    not_begun : (a x y : Bool) → cond (a && false) x y ≡ y
    not_begun true x y = refl
    not_begun false x y = refl
begun_alone step period past i c e t is none false was =
    let now = later_or (has_begun past) _ (sym (member_has_begun past i e) ∙ is) was in
    let tuned : (listener_after past).tuned ≡ true = first_holds (listener_after past).tuned i.next now in
    let next : i.next ≡ true = second_holds (listener_after past).tuned i.next now in
    let alone : has_ensemble past ≡ false = (next_kept step period past i e tuned next c).early was in
    record {
      early = member_began_early past i e
          ∙ ap (λ b. cond (b && not (has_begun past)) (not (has_ensemble past)) (began_early past)) now
          ∙ ap (λ b. cond (true && not b) (not (has_ensemble past)) (began_early past)) was
          ∙ ap not alone;
      rows = subst (AllByRecursion HasNone) (sym (same_rows past i e ∙ (t.before was).rows)) tt;
      hand = each_pushed (λ (j : Item). is_ensemble j ≡ false) (at_hand past) i (none_at_hand past alone) e;
    }

member_tracked : (step period : ℕ) (past : List Moment) (i : Item) → IsClean step period (Said i ∷ past)
    → is_ensemble i ≡ false → IsTracked past → IsTracked (Said i ∷ past)
member_tracked step period past i c e t =
    let same = awaited_member step period past i c e in
    record {
      before = λ is.
          let b = t.before (or_cases (has_begun past) _ (sym (member_has_begun past i e) ∙ is)) in
          record {
            awaited = same ∙ b.awaited;
            times = sym (member_times past i e) ∙ b.times;
            rows = same_rows past i e ∙ b.rows;
          };
      alone = λ is none. begun_alone step period past i c e t is (sym same ∙ none) (has_begun past) refl;
      announcing = λ low is.
          let a = t.announcing low (sym same ∙ is) in
          record {
            begun = member_has_begun past i e ∙ ap (λ b. b || ((listener_after past).tuned && i.next)) a.begun;
            flags = subst (λ (n : ℕ). 0 < n) (member_flags past i e) a.flags;
            rows = rw (← member_flags past i e) (rw (same_rows past i e) a.rows);
            hand = subst (λ (n : ℕ). AllAnnounce n low (at_hand (Said i ∷ past))) (member_flags past i e)
                (each_pushed (Announces (last_flags past) low) (at_hand past) i a.hand
                (λ is_one. absurd (false≢true (sym e ∙ is_one))));
          };
    }

-- ---- a FIG 0/0

none_announce : (flags low : ℕ) (items : List Item) → HasNone items → AllAnnounce flags low items
none_announce flags low [] none = tt
none_announce flags low (i ∷ is) none = (λ e. absurd (false≢true (sym none.0 ∙ e)), none_announce flags low is none.1)

rows_announce : (flags low : ℕ) (rs : List (List Item)) → AllByRecursion HasNone rs
    → AllByRecursion (AllAnnounce flags low) rs
rows_announce flags low [] none = tt
rows_announce flags low (r ∷ rs) none = (none_announce flags low r none.0, rows_announce flags low rs none.1)

-- those before it, if it makes no swap
rows_before : (step period : ℕ) (past : List Moment) (i : Item) → is_ensemble i ≡ true → is_swap past i ≡ false
    → has_flags (ensemble_of_item i) ≡ true → IsPlainEnsemble (known_of step period past) i.first (ensemble_of_item i)
    → IsTracked past
    → (b : Bool) → has_begun past ≡ b → (aw : Option ℕ) → (listener_after past).awaited ≡ aw
    → AllByRecursion (AllAnnounce (ensemble_of_item i).change (get_or i.raw.bytes 4 0)) (notice_rows past)
rows_before step period past i e sw f rules t false was aw is = rw (t.before was).rows tt
rows_before step period past i e sw f rules t true was None is = rows_announce _ _ _ (t.alone was is).rows
rows_before step period past i e sw f rules t true was (Some low) is =
    let same = not_another (listener_after past).awaited low (ensemble_of_item i).change (last_flags past)
    (occurrence_of (ensemble_of_item i)) is (rules.again (sym (ensemble_made past i e) ∙ sw)) in
    let low_is = ap (λ (o : Option ℕ). unwrap_or o 0) (occurrence_is i f) in
    rw same.0 (rw (← sym same.1 ∙ low_is) (t.announcing low is).rows)

swap_rows : (past : List Moment) (i : Item) (b : Bool) → is_swap past i ≡ b
    → notice_rows (Said i ∷ past) ≡ cond b [] (notice_rows past)
swap_rows past i b sw = ap (λ t. cond t [] (notice_rows past)) sw

-- with flags
flagged_tracked : (step period : ℕ) (past : List Moment) (i : Item) (b : Bool) → IsClean step period (Said i ∷ past)
    → is_ensemble i ≡ true → at_hand past ≡ [] → is_swap past i ≡ b → is_flagged i ≡ true
    → IsTracked past → IsTracked (Said i ∷ past)
flagged_tracked step period past i b c e hand sw fl t =
    let f : has_flags (ensemble_of_item i) ≡ true = sym (ensemble_flags i e) ∙ fl in
    let low : ℕ = get_or i.raw.bytes 4 0 in
    let rules = plain_ensemble step period past i c e in
    let begun : has_begun (Said i ∷ past) ≡ true = begun_flagged past i b e sw fl in
    let awaits : (listener_after (Said i ∷ past)).awaited ≡ Some low =
    ap (λ (l : Listening). l.awaited) (after_heard step period past i b true c e sw fl) ∙ occurrence_is i f in
    let flags : last_flags (Said i ∷ past) ≡ (ensemble_of_item i).change = flags_are past i true fl in
    record {
      before = λ is. absurd (false≢true (sym is ∙ begun));
      alone = λ is none. none_some low (listener_after (Said i ∷ past)).awaited none awaits;
      announcing = λ n is.
          let same : low ≡ n = some_is low n (sym awaits ∙ is) in
          record {
            begun = begun;
            flags = subst (λ (m : ℕ). 0 < m) (sym flags) (some_flags (ensemble_of_item i).change f);
            rows = rw flags (rw (← same) (rw (swap_rows past i b sw) (either b sw f rules)));
            hand = rw flags (rw (← same) (rw hand ((λ is_one. (refl, occurrence_is i f)), tt)));
          };
    }
  where
    either : (d : Bool) → is_swap past i ≡ d → has_flags (ensemble_of_item i) ≡ true
        → IsPlainEnsemble (known_of step period past) i.first (ensemble_of_item i)
        → AllByRecursion (AllAnnounce (ensemble_of_item i).change (get_or i.raw.bytes 4 0))
        (cond d [] (notice_rows past))
    either true s f rules = tt
    either false s f rules = rows_before step period past i e s f rules t (has_begun past) refl
        (listener_after past).awaited refl

-- without flags, where it makes the swap
swap_tracked : (step period : ℕ) (past : List Moment) (i : Item) → IsClean step period (Said i ∷ past)
    → is_ensemble i ≡ true → is_swap past i ≡ true → is_flagged i ≡ false → IsTracked (Said i ∷ past)
swap_tracked step period past i c e sw fl =
    let awaits = ap (λ (l : Listening). l.awaited) (after_heard step period past i true false c e sw fl) in
    record {
      before = λ is. record {
        awaited = awaits;
        times = times_are past i true false sw fl;
        rows = swap_rows past i true sw;
      };
      alone = λ is none. absurd (false≢true (sym (begun_is past i true false e sw fl) ∙ is));
      announcing = λ low is. none_some low (listener_after (Said i ∷ past)).awaited awaits is;
    }

-- without flags, where it makes no swap
quiet_tracked : (step period : ℕ) (past : List Moment) (i : Item) → IsClean step period (Said i ∷ past)
    → is_ensemble i ≡ true → is_swap past i ≡ false → is_flagged i ≡ false → IsTracked past → IsTracked (Said i ∷ past)
quiet_tracked step period past i c e sw fl t =
    let f : has_flags (ensemble_of_item i) ≡ false = sym (ensemble_flags i e) ∙ fl in
    let rules = plain_ensemble step period past i c e in
    let none : (listener_after past).awaited ≡ None = nothing_awaited _ _ (sym (ensemble_made past i e) ∙ sw) f in
    let begun = begun_is past i false false e sw fl ∙ same (has_begun past) in
    let awaits = ap (λ (l : Listening). l.awaited) (after_heard step period past i false false c e sw fl) ∙ none in
    record {
      before = λ is.
          let b = t.before (sym begun ∙ is) in
          record {
            awaited = awaits;
            times = times_are past i false false sw fl ∙ ap (λ n. n + 0) b.times;
            rows = swap_rows past i false sw ∙ b.rows;
          };
      alone = λ is free. absurd (false≢true (sym f ∙ rules.flagged (t.alone (sym begun ∙ is) none).early));
      announcing = λ low is. none_some low (listener_after (Said i ∷ past)).awaited awaits is;
    }
  where
    same : (x : Bool) → (x || false) ≡ x
    same true = refl
    same false = refl

ensemble_tracked : (step period : ℕ) (past : List Moment) (i : Item) (b f : Bool) → IsClean step period (Said i ∷ past)
    → is_ensemble i ≡ true → at_hand past ≡ [] → is_swap past i ≡ b → is_flagged i ≡ f
    → IsTracked past → IsTracked (Said i ∷ past)
ensemble_tracked step period past i b true c e hand sw fl t = flagged_tracked step period past i b c e hand sw fl t
ensemble_tracked step period past i true false c e hand sw fl t = swap_tracked step period past i c e sw fl
ensemble_tracked step period past i false false c e hand sw fl t = quiet_tracked step period past i c e sw fl t

pub alone_first : (step period : ℕ) (past : List Moment) (i : Item) → IsClean step period (Said i ∷ past)
    → IsFormed (Said i ∷ past) → is_ensemble i ≡ true → at_hand past ≡ []
alone_first step period past i c w e =
    w.1 (and_from i.first (is_ensemble i) (plain_ensemble step period past i c e).first_one e)

-- ---- along the past

entry_tracked : (step period : ℕ) (past : List Moment) (i : Item) (b : Bool) → is_ensemble i ≡ b
    → IsClean step period (Said i ∷ past) → IsFormed (Said i ∷ past) → IsTracked past → IsTracked (Said i ∷ past)
entry_tracked step period past i true e c w t =
    ensemble_tracked step _ past i _ _ c e (alone_first step _ past i c w e) refl refl t
entry_tracked step period past i false e c w t = member_tracked step period past i c e t

ended_rows : (count : ℕ) (past : List Moment) (b : Bool) → has_begun past ≡ b
    → notice_rows (Ended count ∷ past) ≡ cond b (notice_rows past ++ at_hand past ∷ []) []
ended_rows count past b is = ap (λ t. cond t (notice_rows past ++ at_hand past ∷ []) []) is

pub all_tracked : (step period : ℕ) (past : List Moment) → IsClean step period past → IsFormed past → IsTracked past
all_tracked step period [] c w = record {
  before = λ is. record { awaited = refl; times = refl; rows = refl };
  alone = λ is. absurd (false≢true is);
  announcing = λ low is. absurd cc;
}
all_tracked step period (Said i ∷ past) c w = entry_tracked _ _ _ _ _ refl c w (all_tracked step period past c.2 w.2)
all_tracked step period (Ended count ∷ past) c w =
    let t = all_tracked step period past c w in
    record {
      before = λ is. let b = t.before is in
          record { awaited = b.awaited; times = b.times; rows = ended_rows count past false is };
      alone = λ is none.
          let a = t.alone is none in
          record {
            early = a.early;
            rows =
                subst (AllByRecursion HasNone) (sym (ended_rows count past true is))
                (each_pushed HasNone (notice_rows past) (at_hand past) a.rows a.hand);
            hand = tt;
          };
      announcing = λ low is.
          let a = t.announcing low is in
          record {
            begun = a.begun;
            flags = a.flags;
            rows = subst (AllByRecursion (AllAnnounce (last_flags past) low)) (sym (ended_rows count past true a.begun))
                (each_pushed (AllAnnounce (last_flags past) low) (notice_rows past) (at_hand past) a.rows a.hand);
            hand = tt;
          };
    }

-- ---- the number of its frames with a flagged one

abbrev pub has_flagged : List Item → ℕ
has_flagged items = cond (list_any is_flagged items) 1 0

abbrev pub flagged_rows : List (List Item) → ℕ
flagged_rows [] = 0
flagged_rows (r ∷ rs) = has_flagged r + flagged_rows rs

rows_more : (rs : List (List Item)) (r : List Item) → flagged_rows (rs ++ r ∷ []) ≡ flagged_rows rs + has_flagged r
rows_more [] r = omega arith
rows_more (x ∷ xs) r = ap (λ n. has_flagged x + n) (rows_more xs r) ∙ omega arith

hand_more : (items : List Item) (i : Item) → has_flagged items ≤ has_flagged (items ++ i ∷ [])
hand_more items i = subst (λ (b : Bool). has_flagged items ≤ cond b 1 0)
    (sym (list_any-append is_flagged items (i ∷ []))) (more (list_any is_flagged items) (list_any is_flagged (i ∷ [])))
  where
    more : (a b : Bool) → cond a 1 0 ≤ cond (a || b) 1 0
    more true b = omega arith
    more false true = omega arith
    more false false = omega arith

one_flagged : (past : List Moment) (i : Item) → at_hand past ≡ [] → is_flagged i ≡ true
    → has_flagged (at_hand (Said i ∷ past)) ≡ 1
one_flagged past i hand fl = ap (λ r. has_flagged (r ++ i ∷ [])) hand ∙ ap (λ b. cond (b || false) 1 0) fl

abbrev pub IsCounted : List Moment → Type 0
IsCounted past = times_announced past ≤ flagged_rows (notice_rows past) + has_flagged (at_hand past)

entry_counted : (step period : ℕ) (past : List Moment) (i : Item) (b f : Bool) → is_swap past i ≡ b → is_flagged i ≡ f
    → (f ≡ true → at_hand past ≡ []) → IsCounted past → IsCounted (Said i ∷ past)
entry_counted step period past i b true sw fl hand h =
    let empty = hand refl in
    let now : has_flagged (at_hand (Said i ∷ past)) ≡ 1 = one_flagged past i empty fl in
    let was : has_flagged (at_hand past) ≡ 0 = ap has_flagged empty in
    let rows : notice_rows (Said i ∷ past) ≡ cond b [] (notice_rows past) = swap_rows past i b sw in
    let times = times_are past i b true sw fl in
    by b times (ap flagged_rows rows) now was
  where
    by : (d : Bool) → times_announced (Said i ∷ past) ≡ cond d 1 (times_announced past + 1)
        → flagged_rows (notice_rows (Said i ∷ past)) ≡ flagged_rows (cond d [] (notice_rows past))
        → has_flagged (at_hand (Said i ∷ past)) ≡ 1 → has_flagged (at_hand past) ≡ 0 → IsCounted (Said i ∷ past)
    by true times rows now was = omega (arith, times, rows, now, was)
    by false times rows now was = omega (arith, times, rows, now, was, h)
entry_counted step period past i true false sw fl hand h =
    omega (arith, times_are past i true false sw fl)
entry_counted step period past i false false sw fl hand h =
    let times : times_announced (Said i ∷ past) ≡ times_announced past + 0 = times_are past i false false sw fl in
    omega (arith, times, ap flagged_rows (swap_rows past i false sw), hand_more (at_hand past) i, h)

flagged_first : (step period : ℕ) (past : List Moment) (i : Item) → IsClean step period (Said i ∷ past)
    → IsFormed (Said i ∷ past) → is_flagged i ≡ true → at_hand past ≡ []
flagged_first step period past i c w fl = alone_first step period past i c w (first_holds (is_ensemble i) _ fl)

pub all_counted : (step period : ℕ) (past : List Moment) → IsClean step period past → IsFormed past → IsCounted past
all_counted step period [] c w = omega arith
all_counted step period (Said i ∷ past) c w =
    entry_counted step period past i (is_swap past i) (is_flagged i) refl refl
    (λ fl. flagged_first step period past i c w fl) (all_counted step period past c.2 w.2)
all_counted step period (Ended count ∷ past) c w =
    ended (has_begun past) refl (all_counted step period past c w)
  where
    ended : (b : Bool) → has_begun past ≡ b → IsCounted past → IsCounted (Ended count ∷ past)
    ended true is h =
        omega (arith, ap flagged_rows (ended_rows count past true is) ∙ rows_more (notice_rows past) (at_hand past), h)
    ended false is h =
        omega (arith, ((all_tracked step period past c w).before is).times)
