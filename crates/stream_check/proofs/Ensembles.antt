-- After a FIG 0/0 the state still agrees with the past of the stream.
use Rattle.stream_check.proofs.Words.{[], ◌%◌, ◌&&◌, ◌+◌, ◌==◌, ◌||◌, ◌∙◌, ◌∷◌, ◌≡◌, ◌≤◌, Bool, CheckerState}
use Rattle.stream_check.proofs.Words.{Each, EnsembleInformation, HasNotice, IsLastHeard, IsStamped, Item, Knows, List}
use Rattle.stream_check.proofs.Words.{Listening, Moment, None, Option, Said, Some, ap, append-nil, arith, at_ensemble}
use Rattle.stream_check.proofs.Words.{at_most, awaiting, began_early, begins_notice, cases_lt, cond, eid_after, eid_of}
use Rattle.stream_check.proofs.Words.{ensemble_of_item, false, false≢true, frames_ended}
use Rattle.stream_check.proofs.Words.{has_begun, has_ensemble, has_flags, inl, inr, is_cut_off, is_ensemble, is_flagged}
use Rattle.stream_check.proofs.Words.{is_made, is_swap, key_of, known_in, last_eid, last_flags, last_heard}
use Rattle.stream_check.proofs.Words.{le-ltb, length, listener_after, listener_in, listening, lt-ltb, makes_swap}
use Rattle.stream_check.proofs.Words.{not, refl, row_at_hand, rows, settles_at, subst, swapped, sym}
use Rattle.stream_check.proofs.Words.{times_announced, true, with_ensemble, with_swap, ℕ}
use Rattle.stream_check.proofs.Notice.{notice_none, notice_begins, each_in}
use Rattle.stream_check.proofs.Members.{or_false, or_true, ensemble_swap, ensemble_flagged, ensemble_placed}
use Rattle.stream_check.proofs.Members.{ensemble_no_member, ensemble_heard, after_is}
use Rattle.stream_check.proofs.Knowing.{later_second}

-- ---- the past with a FIG 0/0

not_is : (a b : Bool) → not a ≡ b → a ≡ not b
not_is true b e = ap not e
not_is false b e = ap not e

eid_is : (step : ℕ) (i : Item) (o : Option ℕ) → is_ensemble i ≡ true
    → eid_after (i.first && ((ensemble_of_item i).count % step == 0)) (ensemble_of_item i) o ≡ eid_of step i o
eid_is step i None e = sym (ap (λ t. cond t (Some (ensemble_of_item i).eid) None) e)
eid_is step i (Some eid) e = rw (← ensemble_placed step i e) refl

begins_is : (past : List Moment) (i : Item) (f : Bool) → is_ensemble i ≡ true → is_flagged i ≡ f
    → begins_notice past i ≡ f
begins_is past i f e fl = cc (fl, ensemble_no_member past i e, or_false f)

begun_is : (past : List Moment) (i : Item) (b f : Bool) → is_ensemble i ≡ true → is_swap past i ≡ b → is_flagged i ≡ f
    → has_begun (Said i ∷ past) ≡ cond b f (has_begun past || f)
begun_is past i b f e sw fl = cc (sw, fl, begins_is past i f e fl)

early_is : (past : List Moment) (i : Item) → is_ensemble i ≡ true → began_early (Said i ∷ past) ≡ false
early_is past i e = rw (e) refl

has_is : (past : List Moment) (i : Item) → is_ensemble i ≡ true → has_ensemble (Said i ∷ past) ≡ true
has_is past i e = ap (λ t. t || has_ensemble past) e

cut_is : (past : List Moment) (i : Item) (b f : Bool) → is_ensemble i ≡ true → is_swap past i ≡ b → is_flagged i ≡ f
    → is_cut_off (Said i ∷ past) ≡ cond b false (cond (not (listener_after past).tuned) f (is_cut_off past))
cut_is past i b f e sw fl = cc (sw, e, fl)

times_are : (past : List Moment) (i : Item) (b f : Bool) → is_swap past i ≡ b → is_flagged i ≡ f
    → times_announced (Said i ∷ past) ≡ cond b (cond f 1 0) (times_announced past + cond f 1 0)
times_are past i b f sw fl = rw (sw, fl) refl

settles_is : (period : ℕ) (past : List Moment) (i : Item) (b : Bool) → is_swap past i ≡ b
    → settles_at period (Said i ∷ past) ≡ cond b (cond (is_cut_off past) (frames_ended past + period) 0)
    (settles_at period past)
settles_is period past i b sw = rw (sw) refl

flags_are : (past : List Moment) (i : Item) (f : Bool) → is_flagged i ≡ f
    → last_flags (Said i ∷ past) ≡ cond f (ensemble_of_item i).change (last_flags past)
flags_are past i f fl = rw (fl) refl

rows_are : (past : List Moment) (i : Item) (b : Bool) → is_swap past i ≡ b
    → rows (Said i ∷ past) ≡ cond b [] (rows past)
rows_are past i b sw = rw (sw) refl

row_is : (past : List Moment) (i : Item) (b : Bool) → is_ensemble i ≡ true → is_swap past i ≡ b
    → row_at_hand (Said i ∷ past) ≡ cond b [] (row_at_hand past)
row_is past i b e sw = rw (sw, ensemble_no_member past i e, append-nil (row_at_hand past)) refl

last_is : (key : ℕ) (past : List Moment) (i : Item) (b : Bool) → is_ensemble i ≡ true → is_swap past i ≡ b
    → last_heard key (Said i ∷ past) ≡ cond b (frames_ended past + 1) (last_heard key past)
last_is key past i b e sw = cc (sw, ensemble_no_member past i e, or_false b)

-- ---- what a listener knows after a FIG 0/0

abbrev pub heard_as : Bool → Bool → EnsembleInformation → Listening → Listening
heard_as b f e l = cond f (record (record (cond b (swapped l) l) { tuned = true }) { awaited = e.occurrence })
    (record (cond b (swapped l) l) { tuned = true })

turned : (t : Bool) (X : Type 0) (x y : X) → cond (not t) y x ≡ cond t x y
turned true X x y = refl
turned false X x y = refl

pub heard_is : (e : EnsembleInformation) (l : Listening) (b f : Bool) → is_made l.awaited e ≡ b → has_flags e ≡ f
    → at_ensemble e l ≡ heard_as b f e l
heard_is e l b f made fl =
    ap (λ t. awaiting e (record (cond t (swapped l) l) { tuned = true })) made
    ∙ ap (λ t. cond t (record (cond b (swapped l) l) { tuned = true })
    (record (record (cond b (swapped l) l) { tuned = true }) { awaited = e.occurrence }))
    (not_is (e.change == 0) f fl)
    ∙ turned f Listening (record (record (cond b (swapped l) l) { tuned = true }) { awaited = e.occurrence })
    (record (cond b (swapped l) l) { tuned = true })

-- ---- counting up to three

at_most_more : (n : ℕ) → at_most 3 (at_most 3 n + 1) ≡ at_most 3 (n + 1)
at_most_more n = elim (cases_lt n 3) [
  | inl lt ↦ rw (lt-ltb n 3 lt) refl
  | inr ge ↦ ap (λ t. at_most 3 (cond t n 3 + 1)) (le-ltb n 3 ge)
      ∙ sym (ap (λ t. cond t (n + 1) 3) (le-ltb (n + 1) 3 (omega (arith, ge))))
]

none_more : (n : ℕ) → n ≡ n + 0
none_more n = omega arith

-- ---- each case

abbrev pub noted : Bool → Bool → Bool → EnsembleInformation → CheckerState → CheckerState
noted b f first e m =
    record (cond f (record (cond b (with_swap m) m) {
      is_cut_off = (cond b (with_swap m) m).is_cut_off || not (cond b (with_swap m) m).tuned;
      awaited = e.occurrence;
      flags = e.change;
      times = at_most 3 ((cond b (with_swap m) m).times + 1);
      has_begun = true;
    })
    (cond b (with_swap m) m)) {
      eid = eid_after (first && (e.count % (cond b (with_swap m) m).step == 0)) e (cond b (with_swap m) m).eid;
      began_early = false;
      has_ensemble = true;
      tuned = true;
    }

made_tuned : (b : Bool) (m : CheckerState) (e : EnsembleInformation) → (m.tuned ≡ false → m.awaited ≡ None)
    → is_made m.awaited e ≡ true → b ≡ m.tuned → m.tuned ≡ true
made_tuned true m e un made is = sym is
made_tuned false m e un made is = absurd (false≢true (sym (ap (λ o. is_made o e) (un (sym is))) ∙ made))

cut_kept : (t f c : Bool) → (t ≡ false → c ≡ false) → cond f (c || not t) c ≡ cond (not t) f c
cut_kept true true c h = or_false c
cut_kept true false c h = refl
cut_kept false true c h = or_true c
cut_kept false false c h = h refl

-- what all cases have in common
record Same (step period : ℕ) (past : List Moment) (i : Item) (m : CheckerState) (b f : Bool) : Type 0 where
  ens : is_ensemble i ≡ true
  sw : is_swap past i ≡ b
  fl : is_flagged i ≡ f
  made : is_made m.awaited (ensemble_of_item i) ≡ b
  flagged : has_flags (ensemble_of_item i) ≡ f
  eid : eid_after (i.first && ((ensemble_of_item i).count % m.step == 0)) (ensemble_of_item i) m.eid
      ≡ last_eid step (Said i ∷ past)
  heard : listening (Said i ∷ past) ≡ Some (heard_as b f (ensemble_of_item i) (listener_in m))
  tuned : (listener_after past).tuned ≡ m.tuned

swapped_last : (past : List Moment) (i : Item) (m : CheckerState) (step period : ℕ) → is_ensemble i ≡ true
    → is_swap past i ≡ true → Knows step period past m → Each (IsLastHeard (Said i ∷ past) (m.frames + 1)) m.next
swapped_last past i m step period e sw k =
    each_in (IsStamped (rows past) (row_at_hand past)) (IsLastHeard (Said i ∷ past) (m.frames + 1)) m.next
    (λ h s.
    let below : h.at ≤ m.frames + 1 = omega (arith, s.0, k.few, k.frames) in
    later_second h.at _ below ∙ ap (λ n. n + 1) k.frames ∙ sym (last_is _ past i true e sw)) k.notice.stamps

-- with a swap
case_swap : (f : Bool) (step period : ℕ) (past : List Moment) (i : Item) (m : CheckerState)
    → Same step period past i m true f → Knows step period past m
    → Knows step period (Said i ∷ past) (noted true f i.first (ensemble_of_item i) m)
case_swap true step period past i m s k =
    record {
      mode = k.mode;
      page_index = k.page_index;
      heard = s.heard;
      frames = k.frames;
      due = k.due;
      eid = s.eid;
      has_ensemble = sym (has_is past i s.ens);
      has_begun = sym (begun_is past i true true s.ens s.sw s.fl);
      began_early = sym (early_is past i s.ens);
      is_cut_off = ap not (made_tuned m.tuned m (ensemble_of_item i) (λ u. (k.untuned u).0) s.made refl)
          ∙ sym (cut_is past i true true s.ens s.sw s.fl);
      flags = sym (flags_are past i true s.fl);
      times = sym (ap (at_most 3) (times_are past i true true s.sw s.fl));
      settles_at = ap (λ t. cond t (m.frames + m.period) 0) k.is_cut_off
          ∙ ap (λ n. cond (is_cut_off past) (n + m.period) 0) k.frames
          ∙ ap (λ n. cond (is_cut_off past) (frames_ended past + n) 0) k.page_index
          ∙ sym (settles_is period past i true s.sw);
      untuned = λ u. absurd (false≢true (sym u));
      few = rw (rows_are past i true s.sw) (omega arith);
      swapped = omega (arith, k.frames);
      kinds = (k.kinds.1, (tt, (tt, tt)));
      last = swapped_last past i m step period s.ens s.sw k;
      notice = rw (rows_are past i true s.sw) (rw (row_is past i true s.ens s.sw) (notice_none true));
    }
case_swap false step period past i m s k =
    record {
      mode = k.mode;
      page_index = k.page_index;
      heard = s.heard;
      frames = k.frames;
      due = k.due;
      eid = s.eid;
      has_ensemble = sym (has_is past i s.ens);
      has_begun = sym (begun_is past i true false s.ens s.sw s.fl);
      began_early = sym (early_is past i s.ens);
      is_cut_off = sym (cut_is past i true false s.ens s.sw s.fl);
      flags = k.flags ∙ sym (flags_are past i false s.fl);
      times = sym (ap (at_most 3) (times_are past i true false s.sw s.fl));
      settles_at = ap (λ t. cond t (m.frames + m.period) 0) k.is_cut_off
          ∙ ap (λ n. cond (is_cut_off past) (n + m.period) 0) k.frames
          ∙ ap (λ n. cond (is_cut_off past) (frames_ended past + n) 0) k.page_index
          ∙ sym (settles_is period past i true s.sw);
      untuned = λ u. absurd (false≢true (sym u));
      few = subst (λ (rs : List (List ℕ)). length rs ≤ frames_ended past) (sym (rows_are past i true s.sw))
          (omega arith);
      swapped = omega (arith, k.frames);
      kinds = (k.kinds.1, (tt, (tt, tt)));
      last = swapped_last past i m step period s.ens s.sw k;
      notice = rw (rows_are past i true s.sw) (rw (row_is past i true s.ens s.sw) (notice_none false));
    }

-- without a swap
case_stay : (f : Bool) (step period : ℕ) (past : List Moment) (i : Item) (m : CheckerState)
    → Same step period past i m false f → Knows step period past m
    → Knows step period (Said i ∷ past) (noted false f i.first (ensemble_of_item i) m)
case_stay true step period past i m s k =
    record {
      mode = k.mode;
      page_index = k.page_index;
      heard = s.heard;
      frames = k.frames;
      due = k.due;
      eid = s.eid;
      has_ensemble = sym (has_is past i s.ens);
      has_begun = sym (begun_is past i false true s.ens s.sw s.fl ∙ or_true (has_begun past));
      began_early = sym (early_is past i s.ens);
      is_cut_off = cut_kept _ true _ (λ u. (k.untuned u).1) ∙ ap (λ c. cond (not m.tuned) true c) k.is_cut_off ∙ sym
          (cut_is past i false true s.ens s.sw s.fl ∙ ap (λ t. cond (not t) true (is_cut_off past)) s.tuned);
      flags = sym (flags_are past i true s.fl);
      times = ap (λ n. at_most 3 (n + 1)) k.times ∙ at_most_more (times_announced past)
          ∙ sym (ap (at_most 3) (times_are past i false true s.sw s.fl));
      settles_at = k.settles_at ∙ sym (settles_is period past i false s.sw);
      untuned = λ u. absurd (false≢true (sym u));
      few = rw (rows_are past i false s.sw) k.few;
      swapped = k.swapped;
      kinds = k.kinds;
      last = each_in _ _ _ (λ h is. is ∙ sym (last_is _ past i false s.ens s.sw)) k.last;
      notice = subst (λ (rs : List (List ℕ)). HasNotice rs (row_at_hand (Said i ∷ past)) m.rows m.since m.parts m.next
          true) (sym (rows_are past i false s.sw))
          (subst (λ (r : List ℕ). HasNotice (rows past) r m.rows m.since m.parts m.next true)
          (sym (row_is past i false s.ens s.sw))
          (notice_begins (rows past) (row_at_hand past) m.rows m.since m.parts m.next m.has_begun k.notice));
    }
case_stay false step period past i m s k =
    record {
      mode = k.mode;
      page_index = k.page_index;
      heard = s.heard;
      frames = k.frames;
      due = k.due;
      eid = s.eid;
      has_ensemble = sym (has_is past i s.ens);
      has_begun = k.has_begun ∙ sym (begun_is past i false false s.ens s.sw s.fl ∙ or_false (has_begun past));
      began_early = sym (early_is past i s.ens);
      is_cut_off = cut_kept _ false _ (λ u. (k.untuned u).1) ∙ ap (λ c. cond (not m.tuned) false c) k.is_cut_off ∙ sym
          (cut_is past i false false s.ens s.sw s.fl ∙ ap (λ t. cond (not t) false (is_cut_off past)) s.tuned);
      flags = k.flags ∙ sym (flags_are past i false s.fl);
      times = k.times ∙ ap (at_most 3) (none_more (times_announced past))
          ∙ sym (ap (at_most 3) (times_are past i false false s.sw s.fl));
      settles_at = k.settles_at ∙ sym (settles_is period past i false s.sw);
      untuned = λ u. absurd (false≢true (sym u));
      few = rw (rows_are past i false s.sw) k.few;
      swapped = k.swapped;
      kinds = k.kinds;
      last = each_in _ _ _ (λ h is. is ∙ sym (last_is (key_of h.raw) past i false s.ens s.sw)) k.last;
      notice = rw (rows_are past i false s.sw) (rw (row_is past i false s.ens s.sw) k.notice);
    }

pub knows_ensemble : (step period : ℕ) (past : List Moment) (m : CheckerState) (i : Item) → is_ensemble i ≡ true
    → Knows step period past m
    → Knows step period (Said i ∷ past)
    (with_ensemble i.first (ensemble_of_item i)
    (cond (makes_swap (known_in m) (ensemble_of_item i)) (with_swap m) m))
knows_ensemble step period past m i e k =
    cases (makes_swap (known_in m) (ensemble_of_item i)) (has_flags (ensemble_of_item i)) refl refl
  where
    same : (b f : Bool) → is_made m.awaited (ensemble_of_item i) ≡ b → has_flags (ensemble_of_item i) ≡ f
        → Same step period past i m b f
    same b f made fl = record {
      ens = e;
      sw = ensemble_swap past i (listener_in m) e k.heard ∙ made;
      fl = ensemble_flagged i e ∙ fl;
      made = made;
      flagged = fl;
      eid = ap (λ n. eid_after (i.first && ((ensemble_of_item i).count % n == 0)) (ensemble_of_item i) m.eid) k.mode
          ∙ ap (λ o. eid_after (i.first && ((ensemble_of_item i).count % step == 0)) (ensemble_of_item i) o) k.eid
          ∙ eid_is step i (last_eid step past) e;
      heard = ensemble_heard past i (listener_in m) e k.heard
          ∙ ap (λ l. Some l) (heard_is (ensemble_of_item i) (listener_in m) b f made fl);
      tuned = rw (after_is past (listener_in m) k.heard) refl;
    }

    cases : (b f : Bool) → makes_swap (known_in m) (ensemble_of_item i) ≡ b → has_flags (ensemble_of_item i) ≡ f
        → Knows step period (Said i ∷ past)
        (with_ensemble i.first (ensemble_of_item i)
        (cond (makes_swap (known_in m) (ensemble_of_item i)) (with_swap m) m))
    cases true f made fl =
        subst (λ (t : Bool). Knows step period (Said i ∷ past)
        (with_ensemble i.first (ensemble_of_item i) (cond t (with_swap m) m))) (sym made)
        (subst (λ (t : Bool). Knows step period (Said i ∷ past)
        (record (cond t (record (with_swap m) {
          is_cut_off = (with_swap m).is_cut_off || not (with_swap m).tuned;
          awaited = (ensemble_of_item i).occurrence;
          flags = (ensemble_of_item i).change;
          times = at_most 3 ((with_swap m).times + 1);
          has_begun = true;
        })
        (with_swap m)) {
          eid = eid_after (i.first && ((ensemble_of_item i).count % (with_swap m).step == 0)) (ensemble_of_item i)
              (with_swap m).eid;
          began_early = false;
          has_ensemble = true;
          tuned = true;
        })) (sym fl) (case_swap f step period past i m (same true f made fl) k))
    cases false f made fl =
        subst (λ (t : Bool). Knows step period (Said i ∷ past)
        (with_ensemble i.first (ensemble_of_item i) (cond t (with_swap m) m))) (sym made)
        (subst (λ (t : Bool). Knows step period (Said i ∷ past)
        (record (cond t (record m {
          is_cut_off = m.is_cut_off || not m.tuned;
          awaited = (ensemble_of_item i).occurrence;
          flags = (ensemble_of_item i).change;
          times = at_most 3 (m.times + 1);
          has_begun = true;
        }) m) {
          eid = eid_after (i.first && ((ensemble_of_item i).count % m.step == 0)) (ensemble_of_item i) m.eid;
          began_early = false;
          has_ensemble = true;
          tuned = true;
        })) (sym fl) (case_stay f step period past i m (same false f made fl) k))
