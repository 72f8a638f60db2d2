-- How an entry of FIG 0/1 to 0/3 affects the past of a stream.
use Rattle.stream_check.proofs.Words.{[], ◌%◌, ◌&&◌, ◌++◌, ◌+◌, ◌==◌, ◌||◌, ◌∷◌, ◌≡◌, Bool, Item, List, Listening}
use Rattle.stream_check.proofs.Words.{Moment, None, Option, Raw, Said, Some, ap, arith, at_ensemble, began_early}
use Rattle.stream_check.proofs.Words.{begins_notice, cond, eid_of, ensemble_of_item, false, flag_count, frames_ended}
use Rattle.stream_check.proofs.Words.{has_begun, has_ensemble, hear_entry, into, is_cut_off, is_ensemble, is_flagged}
use Rattle.stream_check.proofs.Words.{is_in_place, is_made, is_member, is_swap, key_of, last_eid, last_flags}
use Rattle.stream_check.proofs.Words.{last_heard, listener, listener_after, listening, not, picture_of, pictured, refl}
use Rattle.stream_check.proofs.Words.{row_at_hand, rows, settles_at, sym, times_announced, true, where_heard, ℕ}

pub and_false : (a : Bool) → (a && false) ≡ false
and_false true = refl
and_false false = refl

pub or_false : (a : Bool) → (a || false) ≡ a
or_false true = refl
or_false false = refl

pub or_true : (a : Bool) → (a || true) ≡ true
or_true true = refl
or_true false = refl

-- ---- an entry other than FIG 0/0

pub no_swap : (past : List Moment) (i : Item) → is_ensemble i ≡ false → is_swap past i ≡ false
no_swap past i e = rw (e) refl

pub no_flags : (i : Item) → is_ensemble i ≡ false → is_flagged i ≡ false
no_flags i e = rw (e) refl

pub not_placed : (step : ℕ) (i : Item) → is_ensemble i ≡ false → is_in_place step i ≡ false
not_placed step i e = rw (e) (and_false i.first)

eid_same : (step : ℕ) (i : Item) (o : Option ℕ) → is_ensemble i ≡ false → eid_of step i o ≡ o
eid_same step i None e = rw (e) refl
eid_same step i (Some eid) e = rw (not_placed step i e) refl

pub member_eid : (step : ℕ) (past : List Moment) (i : Item) → is_ensemble i ≡ false
    → last_eid step past ≡ last_eid step (Said i ∷ past)
member_eid step past i e = sym (eid_same step i (last_eid step past) e)

pub member_has_ensemble : (past : List Moment) (i : Item) → is_ensemble i ≡ false
    → has_ensemble past ≡ has_ensemble (Said i ∷ past)
member_has_ensemble past i e = sym (ap (λ t. t || has_ensemble past) e)

pub member_begins : (past : List Moment) (i : Item) → is_ensemble i ≡ false
    → begins_notice past i ≡ ((listener_after past).tuned && i.next)
member_begins past i e = cc (no_flags i e, e)

pub member_is : (past : List Moment) (i : Item) → is_ensemble i ≡ false → is_member past i ≡ (listener_after past).tuned
member_is past i e = rw (e) refl

pub member_has_begun : (past : List Moment) (i : Item) → is_ensemble i ≡ false
    → has_begun (Said i ∷ past) ≡ (has_begun past || ((listener_after past).tuned && i.next))
member_has_begun past i e = cc (no_swap past i e, member_begins past i e)

pub member_began_early : (past : List Moment) (i : Item) → is_ensemble i ≡ false
    → began_early (Said i ∷ past) ≡ cond (((listener_after past).tuned && i.next) && not (has_begun past))
    (not (has_ensemble past)) (began_early past)
member_began_early past i e = cc (e, member_begins past i e)

pub member_flags : (past : List Moment) (i : Item) → is_ensemble i ≡ false
    → last_flags past ≡ last_flags (Said i ∷ past)
member_flags past i e = sym (ap (λ t. cond t (ensemble_of_item i).change (last_flags past)) (no_flags i e))

pub member_times : (past : List Moment) (i : Item) → is_ensemble i ≡ false
    → times_announced past ≡ times_announced (Said i ∷ past)
member_times past i e =
    let none : flag_count i ≡ 0 = rw (no_flags i e) refl in
    rw (no_swap past i e) (omega (arith, none))

pub member_cut_off : (past : List Moment) (i : Item) → is_ensemble i ≡ false
    → is_cut_off past ≡ is_cut_off (Said i ∷ past)
member_cut_off past i e = sym (rw (no_swap past i e, e) refl)

pub member_settles : (period : ℕ) (past : List Moment) (i : Item) → is_ensemble i ≡ false
    → settles_at period past ≡ settles_at period (Said i ∷ past)
member_settles period past i e =
    sym (ap (λ t. cond t (cond (is_cut_off past) (frames_ended past + period) 0) (settles_at period past))
    (no_swap past i e))

pub member_rows : (past : List Moment) (i : Item) → is_ensemble i ≡ false → rows (Said i ∷ past) ≡ rows past
member_rows past i e = rw (no_swap past i e) refl

pub member_row : (past : List Moment) (i : Item) → is_ensemble i ≡ false
    → row_at_hand (Said i ∷ past) ≡ row_at_hand past ++ cond ((listener_after past).tuned && i.next) (key_of i.raw ∷ [])
    []
member_row past i e = rw (no_swap past i e, member_is past i e) refl

pub member_last : (key : ℕ) (past : List Moment) (i : Item) → is_ensemble i ≡ false
    → last_heard key (Said i ∷ past) ≡ cond ((listener_after past).tuned && (not i.next && (key_of i.raw == key)))
    (frames_ended past + 1) (last_heard key past)
member_last key past i e = cc (no_swap past i e, member_is past i e)

pub member_heard : (past : List Moment) (i : Item) (l : Listening) → listening past ≡ Some l
    → listening (Said i ∷ past) ≡ hear_entry i.next i.raw l
member_heard past i l h = ap (λ o. where_heard o (hear_entry i.next i.raw)) h

pub after_is : (past : List Moment) (l : Listening) → listening past ≡ Some l → listener_after past ≡ l
after_is past l h = ap listener h

-- ---- a FIG 0/0

pub ensemble_swap : (past : List Moment) (i : Item) (l : Listening) → is_ensemble i ≡ true → listening past ≡ Some l
    → is_swap past i ≡ is_made l.awaited (ensemble_of_item i)
ensemble_swap past i l e h = rw (e, after_is past l h) refl

pub ensemble_flagged : (i : Item) → is_ensemble i ≡ true → is_flagged i ≡ not ((ensemble_of_item i).change == 0)
ensemble_flagged i e = rw (e) refl

pub ensemble_placed : (step : ℕ) (i : Item) → is_ensemble i ≡ true
    → is_in_place step i ≡ (i.first && ((ensemble_of_item i).count % step == 0))
ensemble_placed step i e = rw (e) refl

pub ensemble_no_member : (past : List Moment) (i : Item) → is_ensemble i ≡ true → is_member past i ≡ false
ensemble_no_member past i e = rw (e) refl

pub ensemble_heard : (past : List Moment) (i : Item) (l : Listening) → is_ensemble i ≡ true → listening past ≡ Some l
    → listening (Said i ∷ past) ≡ Some (at_ensemble (ensemble_of_item i) l)
ensemble_heard past i l e h = cc (member_heard past i l h, e)

pub member_entry : (next : Bool) (raw : Raw) (l : Listening) → (raw.ext == 0) ≡ false
    → hear_entry next raw l ≡ cond l.tuned (into next l (pictured raw (picture_of next l))) (Some l)
member_entry next raw l e = rw (e) refl
