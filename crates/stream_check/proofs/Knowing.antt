-- After an entry of FIG 0/1 to 0/3 the state still agrees with the past of the stream.
use Rattle.stream_check.proofs.Words.{[], ◌&&◌, ◌++◌, ◌+◌, ◌<◌, ◌==◌, ◌||◌, ◌∙◌, ◌∷◌, ◌≡◌, ◌≤◌, Bool, CheckerState}
use Rattle.stream_check.proofs.Words.{HasNotice, Heard, IsLastHeard, Item, Knows, List, Moment, Said, Some}
use Rattle.stream_check.proofs.Words.{ap, append-nil, arith, at_most, began_early, cases_lt, cond, eq-eqb, false}
use Rattle.stream_check.proofs.Words.{false≢true, finds_no_room, frames_ended, has_begun, has_ensemble, inl, inr, into}
use Rattle.stream_check.proofs.Words.{is_absent, is_ensemble, key_of, last_heard, later, le-ltb, listener_after}
use Rattle.stream_check.proofs.Words.{listener_in, lookup_in, lt-ltb, ne_eqb, not, picture_kept, picture_of}
use Rattle.stream_check.proofs.Words.{picture_of_heard, pictured, refl, row_at_hand, rows, sym, true}
use Rattle.stream_check.proofs.Words.{with_current, with_next, ℕ}
use Rattle.stream_check.proofs.Tables.{pictured_kept}
use Rattle.stream_check.proofs.Keys.{picture_each, kinds_kept, known_has}
use Rattle.stream_check.proofs.Notice.{notice_known, notice_new, each_in}
use Rattle.stream_check.proofs.Members.{or_false, or_true, member_eid, member_has_ensemble, member_has_begun}
use Rattle.stream_check.proofs.Members.{member_began_early, member_flags, member_times, member_cut_off, member_settles}
use Rattle.stream_check.proofs.Members.{member_rows, member_row, member_last, member_heard, member_entry, after_is}

pub later_second : (a b : ℕ) → a ≤ b → later a b ≡ b
later_second a b le = elim (cases_lt a b) [
  | inl lt ↦ rw (lt-ltb a b lt) refl
  | inr ge ↦ (let same : a ≡ b = omega (arith, le, ge) in ap (λ t. cond t b a) (le-ltb a b ge) ∙ same)
]

pub later_first : (a b : ℕ) → b ≤ a → later a b ≡ a
later_first a b le = rw (le-ltb a b le) refl

tuned_is : (step period : ℕ) (past : List Moment) (m : CheckerState) → Knows step period past m
    → (listener_after past).tuned ≡ m.tuned
tuned_is step period past m k = rw (after_is past (listener_in m) k.heard) refl

-- before the first FIG 0/0 it is ignored
pub knows_passed : (step period : ℕ) (past : List Moment) (m : CheckerState) (i : Item) → is_ensemble i ≡ false
    → m.tuned ≡ false → Knows step period past m → Knows step period (Said i ∷ past) m
knows_passed step period past m i e untuned k =
    let t : (listener_after past).tuned ≡ false = tuned_is step period past m k ∙ untuned in
    let same_row : row_at_hand (Said i ∷ past) ≡ row_at_hand past =
    cc (member_row past i e, t, append-nil (row_at_hand past)) in
    record {
      mode = k.mode;
      page_index = k.page_index;
      heard = member_heard past i (listener_in m) k.heard ∙ member_entry i.next i.raw (listener_in m) e
          ∙ ap (λ b. cond b (into i.next (listener_in m) (pictured i.raw (picture_of i.next (listener_in m))))
          (Some (listener_in m))) untuned;
      frames = k.frames;
      due = k.due;
      eid = k.eid ∙ member_eid step past i e;
      has_ensemble = k.has_ensemble ∙ member_has_ensemble past i e;
      has_begun = k.has_begun ∙ sym (member_has_begun past i e ∙ ap (λ b. has_begun past || (b && i.next)) t
          ∙ or_false (has_begun past));
      began_early = k.began_early
          ∙ sym (member_began_early past i e
          ∙ ap (λ b. cond ((b && i.next) && not (has_begun past)) (not (has_ensemble past)) (began_early past)) t);
      is_cut_off = k.is_cut_off ∙ member_cut_off past i e;
      flags = k.flags ∙ member_flags past i e;
      times = k.times ∙ ap (at_most 3) (member_times past i e);
      settles_at = k.settles_at ∙ member_settles period past i e;
      untuned = k.untuned;
      few = rw (member_rows past i e) k.few;
      swapped = k.swapped;
      kinds = k.kinds;
      last = each_in (IsLastHeard past m.swapped) (IsLastHeard (Said i ∷ past) m.swapped) m.current
          (λ h is. is ∙ sym (member_last (key_of h.raw) past i e
          ∙ ap (λ b. cond (b && (not i.next && (key_of i.raw == key_of h.raw))) (frames_ended past + 1)
          (last_heard (key_of h.raw) past)) t)) k.last;
      notice = rw (member_rows past i e) (rw same_row k.notice);
    }

-- an entry of the current configuration
pub knows_current : (step period : ℕ) (past : List Moment) (m : CheckerState) (i : Item) → is_ensemble i ≡ false
    → i.raw.ext < 4 → 0 < i.raw.ext → m.tuned ≡ true → i.next ≡ false
    → finds_no_room (lookup_in i.raw (picture_of_heard m.current)) ≡ false → Knows step period past m
    → Knows step period (Said i ∷ past) (with_current i.raw m)
knows_current step period past m i e few some tuned nx room k =
    let t : (listener_after past).tuned ≡ true = tuned_is step period past m k ∙ tuned in
    let same_row : row_at_hand (Said i ∷ past) ≡ row_at_hand past =
    cc (member_row past i e, t, nx, append-nil (row_at_hand past)) in
    let last_is : (key : ℕ) → last_heard key (Said i ∷ past)
    ≡ cond (key_of i.raw == key) (frames_ended past + 1) (last_heard key past) = λ key.
    member_last key past i e ∙ ap (λ b. cond (b && (not i.next && (key_of i.raw == key))) (frames_ended past + 1)
    (last_heard key past)) t
    ∙ ap (λ b. cond (true && (not b && (key_of i.raw == key))) (frames_ended past + 1) (last_heard key past)) nx in
    record {
      mode = k.mode;
      page_index = k.page_index;
      heard = member_heard past i (listener_in m) k.heard ∙ member_entry i.next i.raw (listener_in m) e
          ∙ ap (λ b. cond b (into i.next (listener_in m) (pictured i.raw (picture_of i.next (listener_in m))))
          (Some (listener_in m))) tuned
          ∙ ap (λ b. into b (listener_in m) (pictured i.raw (picture_of b (listener_in m)))) nx
          ∙ ap (into false (listener_in m)) (pictured_kept (record { raw = i.raw; at = m.frames + 1 }) m.current room);
      frames = k.frames;
      due = k.due;
      eid = k.eid ∙ member_eid step past i e;
      has_ensemble = k.has_ensemble ∙ member_has_ensemble past i e;
      has_begun = k.has_begun ∙ sym (member_has_begun past i e ∙ ap (λ b. has_begun past || (b && i.next)) t
          ∙ ap (λ b. has_begun past || (true && b)) nx ∙ or_false (has_begun past));
      began_early = k.began_early
          ∙ sym (member_began_early past i e
          ∙ ap (λ b. cond ((b && i.next) && not (has_begun past)) (not (has_ensemble past)) (began_early past)) t
          ∙ ap (λ b. cond ((true && b) && not (has_begun past)) (not (has_ensemble past)) (began_early past)) nx);
      is_cut_off = k.is_cut_off ∙ member_cut_off past i e;
      flags = k.flags ∙ member_flags past i e;
      times = k.times ∙ ap (at_most 3) (member_times past i e);
      settles_at = k.settles_at ∙ member_settles period past i e;
      untuned = λ no_tune. absurd (false≢true (sym no_tune ∙ tuned));
      few = rw (member_rows past i e) k.few;
      swapped = k.swapped;
      kinds = (kinds_kept (record { raw = i.raw; at = m.frames + 1 }) m.current some few k.kinds.0, k.kinds.1);
      last = picture_each (IsLastHeard past m.swapped) (IsLastHeard (Said i ∷ past) m.swapped)
          (record { raw = i.raw; at = m.frames + 1 }) m.current some few k.kinds.0
          (later_first (m.frames + 1) m.swapped (omega (arith, k.swapped, k.frames)) ∙ ap (λ n. n + 1) k.frames
          ∙ sym (last_is (key_of i.raw) ∙ ap (λ b. cond b (frames_ended past + 1) (last_heard (key_of i.raw) past))
          (eq-eqb (key_of i.raw) (key_of i.raw) refl)))
          (λ x other is. is ∙ sym (last_is (key_of x.raw)
          ∙ ap (λ b. cond b (frames_ended past + 1) (last_heard (key_of x.raw) past))
          (ne_eqb (key_of i.raw) (key_of x.raw) (λ same. other (sym same)))))
          k.last;
      notice = rw (member_rows past i e) (rw same_row k.notice);
    }

early : (b x y : Bool) → cond b x y ≡ cond (true && not b) y x
early true x y = refl
early false x y = refl

-- an entry of the next configuration
pub knows_next : (step period : ℕ) (past : List Moment) (m : CheckerState) (i : Item) → is_ensemble i ≡ false
    → i.raw.ext < 4 → 0 < i.raw.ext → m.tuned ≡ true → i.next ≡ true
    → finds_no_room (lookup_in i.raw (picture_of_heard m.next)) ≡ false → Knows step period past m
    → Knows step period (Said i ∷ past) (with_next i.raw m)
knows_next step period past m i e few some tuned nx room k =
    let h : Heard = record { raw = i.raw; at = m.rows + 1 } in
    let t : (listener_after past).tuned ≡ true = tuned_is step period past m k ∙ tuned in
    let row_is : row_at_hand (Said i ∷ past) ≡ row_at_hand past ++ key_of i.raw ∷ [] =
    cc (member_row past i e, t, nx) in
    let last_is : (key : ℕ) → last_heard key (Said i ∷ past) ≡ last_heard key past = λ key.
    member_last key past i e ∙ ap (λ b. cond (b && (not i.next && (key_of i.raw == key))) (frames_ended past + 1)
    (last_heard key past)) t
    ∙ ap (λ b. cond (true && (not b && (key_of i.raw == key))) (frames_ended past + 1) (last_heard key past)) nx in
    record {
      mode = k.mode;
      page_index = k.page_index;
      heard = member_heard past i (listener_in m) k.heard ∙ member_entry i.next i.raw (listener_in m) e
          ∙ ap (λ b. cond b (into i.next (listener_in m) (pictured i.raw (picture_of i.next (listener_in m))))
          (Some (listener_in m))) tuned
          ∙ ap (λ b. into b (listener_in m) (pictured i.raw (picture_of b (listener_in m)))) nx
          ∙ ap (into true (listener_in m)) (pictured_kept (record { raw = i.raw; at = m.rows + 1 }) m.next room);
      frames = k.frames;
      due = k.due;
      eid = k.eid ∙ member_eid step past i e;
      has_ensemble = k.has_ensemble ∙ member_has_ensemble past i e;
      has_begun = sym (member_has_begun past i e ∙ ap (λ b. has_begun past || (b && i.next)) t
          ∙ ap (λ b. has_begun past || (true && b)) nx ∙ or_true (has_begun past));
      began_early = ap (λ b. cond b m.began_early (not m.has_ensemble)) k.has_begun
          ∙ ap (λ b. cond (has_begun past) b (not m.has_ensemble)) k.began_early
          ∙ ap (λ b. cond (has_begun past) (began_early past) (not b)) k.has_ensemble
          ∙ early (has_begun past) (began_early past) (not (has_ensemble past))
          ∙ sym (member_began_early past i e
          ∙ ap (λ b. cond ((b && i.next) && not (has_begun past)) (not (has_ensemble past)) (began_early past)) t
          ∙ ap (λ b. cond ((true && b) && not (has_begun past)) (not (has_ensemble past)) (began_early past)) nx);
      is_cut_off = k.is_cut_off ∙ member_cut_off past i e;
      flags = k.flags ∙ member_flags past i e;
      times = k.times ∙ ap (at_most 3) (member_times past i e);
      settles_at = k.settles_at ∙ member_settles period past i e;
      untuned = λ no_tune. absurd (false≢true (sym no_tune ∙ tuned));
      few = rw (member_rows past i e) k.few;
      swapped = k.swapped;
      kinds = (k.kinds.0, kinds_kept (record { raw = i.raw; at = m.rows + 1 }) m.next some few k.kinds.1);
      last = each_in _ _ _ (λ x is. is ∙ sym (last_is _)) k.last;
      notice =
          rw (member_rows past i e) (rw row_is (noticed (is_absent (lookup_in i.raw (picture_of_heard m.next))) refl));
    }
  where
    noticed : (a : Bool) → is_absent (lookup_in i.raw (picture_of_heard m.next)) ≡ a
        → HasNotice (rows past) (row_at_hand past ++ key_of i.raw ∷ []) m.rows (cond a 0 m.since) (cond a 0 m.parts)
        (picture_kept (record { raw = i.raw; at = m.rows + 1 }) m.next) true
    noticed true is = notice_new (rows past) (row_at_hand past) m.rows m.since m.parts m.next m.has_begun
        (record { raw = i.raw; at = m.rows + 1 }) some few k.kinds.1 room is refl k.notice
    noticed false is = notice_known (rows past) (row_at_hand past) m.rows m.since m.parts m.next m.has_begun
        (record { raw = i.raw; at = m.rows + 1 }) some few k.kinds.1 room is refl
        (known_has (record { raw = i.raw; at = m.rows + 1 }) m.next some few k.kinds.1 room is) k.notice
