-- Without a fault, each swap comes as announced; and the notice of each was heard from its beginning, except for the
-- first one of a stream whose first FIG 0/0 is flagged.
use Rattle.stream_laws.proofs.Words.{[], ◌%◌, ◌&&◌, ◌++◌, ◌+◌, ◌<◌, ◌==◌, ◌∙◌, ◌∷◌, ◌≡◌, ◌⊎◌, AllByRecursion}
use Rattle.stream_laws.proofs.Words.{AreFibBytes, BeginsUnflagged, Bool, CountsAreHeld, Ended, EnsembleInformation, Fib}
use Rattle.stream_laws.proofs.Words.{Fig, IsSaidIn, IsTheMost, Item, KnownBefore, List, Listening, Moment, None, Open}
use Rattle.stream_laws.proofs.Words.{Option, Other, Raw, Said, Some, WholeNoticesAreHeld, after_frames, ap, arith}
use Rattle.stream_laws.proofs.Words.{awaited_low, cond, ensemble_in, ensemble_of_item, entries_in, eq-eqb, eqb-true}
use Rattle.stream_laws.proofs.Words.{false, false≢true, fib_items, fibs_items, fig_items, figs_items, first_in}
use Rattle.stream_laws.proofs.Words.{first_in_figs, first_of_frame, first_or, first_raw, flat_map, frame_items}
use Rattle.stream_laws.proofs.Words.{frames_ended, heard_as, inl, inr, is_cut_off, is_ensemble, is_flagged, is_made}
use Rattle.stream_laws.proofs.Words.{is_next, is_swap, items_of, known_of, last_flags, last_of, last_swap, length}
use Rattle.stream_laws.proofs.Words.{listener_after, no_swap, not, not-false, not-true, notice_faults, past_after_frame}
use Rattle.stream_laws.proofs.Words.{read_frames, refl, rows, said, said_append, sym, take, true, unit_faults, ℕ}
use Rattle.stream_check.specs.declared.finding.Fault.TheVariants as faults
use Rattle.stream_laws.proofs.Clean.{IsClean, entry_clean, after_entry, frames_twice}
use Rattle.stream_laws.proofs.Kept.{first_holds, second_holds, first_fine, with_member, after_member, after_heard}
use Rattle.stream_laws.proofs.Kept.{ensemble_made, plain_ensemble}
use Rattle.stream_laws.proofs.Tracking.{IsFormed, alone_first, all_tracked}
use Rattle.stream_laws.proofs.Formed.{all_formed}
use Rattle.stream_laws.proofs.Bytes.{FibLaws, each_take}
use Rattle.stream_laws.proofs.Swapping.{awaited_is}
use Rattle.stream_laws.proofs.Announced.{notice_is, each_drop, formed_handed, changes_are_announced, notice_header}

-- ---- the first FIG 0/0 of all that was sent

abbrev said_by : Item → Option EnsembleInformation
said_by i = cond (is_ensemble i) (Some (ensemble_of_item i)) None

abbrev oldest : List Moment → Option EnsembleInformation
oldest [] = None
oldest (Said i ∷ past) = first_or (oldest past) (said_by i)
oldest (Ended count ∷ past) = oldest past

or_twice : (a b c : Option EnsembleInformation) → first_or (first_or a b) c ≡ first_or a (first_or b c)
or_twice None b c = refl
or_twice (Some e) b c = refl

or_none : (a : Option EnsembleInformation) → first_or a None ≡ a
or_none None = refl
or_none (Some e) = refl

raws_oldest : (first next : Bool) (raws : List Raw) (past : List Moment)
    → oldest (said (items_of first next raws) past) ≡ first_or (oldest past) (first_raw raws)
raws_oldest first next [] past = sym (or_none (oldest past))
raws_oldest first next (raw ∷ raws) past =
    let i : Item = record { first = first; next = next; raw = raw } in
    raws_oldest first next raws (Said i ∷ past) ∙ or_twice (oldest past) (said_by i) (first_raw raws)
    ∙ ap (first_or (oldest past)) (either (raw.ext == 0))
  where
    either : (b : Bool) → first_or (cond b (Some (ensemble_in raw)) None) (first_raw raws)
        ≡ cond b (Some (ensemble_in raw)) (first_raw raws)
    either true = refl
    either false = refl

fig_oldest : (first : Bool) (f : Fig) (past : List Moment)
    → oldest (said (fig_items first f) past) ≡ first_or (oldest past) (first_raw (entries_in f))
fig_oldest first (Open second es) past = raws_oldest first (is_next second) (entries_in (Open second es)) past
fig_oldest first (Other given) past = sym (or_none (oldest past))

figs_oldest : (first : Bool) (fs : List Fig) (past : List Moment)
    → oldest (said (figs_items first fs) past) ≡ first_or (oldest past) (first_in_figs fs)
figs_oldest first [] past = sym (or_none (oldest past))
figs_oldest first (f ∷ fs) past =
    ap oldest (said_append (fig_items first f) (figs_items false fs) past)
    ∙ figs_oldest false fs (said (fig_items first f) past)
    ∙ ap (λ o. first_or o (first_in_figs fs)) (fig_oldest first f past)
    ∙ or_twice (oldest past) (first_raw (entries_in f)) (first_in_figs fs)

fib_oldest : (first : Bool) (fib : Fib) (past : List Moment)
    → oldest (said (fib_items first fib) past) ≡ first_or (oldest past) (first_in fib)
fib_oldest first None past = sym (or_none (oldest past))
fib_oldest first (Some figs) past = figs_oldest first figs past

fibs_oldest : (first : Bool) (fibs : List Fib) (past : List Moment)
    → oldest (said (fibs_items first fibs) past) ≡ first_or (oldest past) (first_of_frame fibs)
fibs_oldest first [] past = sym (or_none (oldest past))
fibs_oldest first (f ∷ fs) past =
    ap oldest (said_append (fib_items first f) (fibs_items false fs) past)
    ∙ fibs_oldest false fs (said (fib_items first f) past)
    ∙ ap (λ o. first_or o (first_of_frame fs)) (fib_oldest first f past)
    ∙ or_twice (oldest past) (first_in f) (first_of_frame fs)

first_more : (xs ys : List Fib) → first_of_frame (xs ++ ys) ≡ first_or (first_of_frame xs) (first_of_frame ys)
first_more [] ys = refl
first_more (x ∷ xs) ys = cc (first_more xs ys, or_twice (first_in x) (first_of_frame xs) (first_of_frame ys))

frames_oldest : (step : ℕ) (frames : List (List Fib)) (past : List Moment)
    → oldest (after_frames step past frames) ≡ first_or (oldest past)
    (first_of_frame (flat_map (λ frame. frame) frames))
frames_oldest step [] past = sym (or_none (oldest past))
frames_oldest step (frame ∷ frames) past =
    frames_oldest step frames (past_after_frame step past frame)
    ∙ ap (λ o. first_or o (first_of_frame (flat_map (λ f. f) frames))) (fibs_oldest true frame past)
    ∙ or_twice (oldest past) (first_of_frame frame) (first_of_frame (flat_map (λ f. f) frames))
    ∙ ap (first_or (oldest past)) (sym (first_more frame (flat_map (λ f. f) frames)))

-- it stays the first
said_first : (e : EnsembleInformation) (items : List Item) (past : List Moment) → oldest past ≡ Some e
    → oldest (said items past) ≡ Some e
said_first e [] past h = h
said_first e (i ∷ is) past h = said_first e is (Said i ∷ past) (ap (λ o. first_or o (said_by i)) h)

frames_first : (e : EnsembleInformation) (step : ℕ) (frames : List (List Fib)) (past : List Moment)
    → oldest past ≡ Some e → oldest (after_frames step past frames) ≡ Some e
frames_first e step [] past h = h
frames_first e step (frame ∷ frames) past h =
    frames_first e step frames (past_after_frame step past frame) (said_first e (frame_items frame) past h)

first_of_stream : (e : EnsembleInformation) (step : ℕ) (frames : List (List Fib)) (past : List Moment) (i : Item)
    (s : IsSaidIn step frames past i) → oldest past ≡ Some e
    → first_of_frame (flat_map (λ frame. frame) frames) ≡ Some e
first_of_stream e step frames past i s h =
    let start : List Moment = after_frames step [] s.before in
    let items : oldest (said (frame_items s.frame) start) ≡ Some e =
    ap (λ is. oldest (said is start)) s.items_are ∙ ap oldest (said_append s.front (i ∷ s.back) start)
    ∙ said_first e (i ∷ s.back) (said s.front start) (ap oldest (sym s.past_is) ∙ h) in
    let whole : oldest (after_frames step [] (s.before ++ s.frame ∷ s.after)) ≡ Some e =
    ap oldest (frames_twice step s.before _ []) ∙ frames_first e step s.after _ items in
    sym (frames_oldest step frames []) ∙ ap (λ fs. oldest (after_frames step [] fs)) s.frames_are ∙ whole

-- ---- when the beginning of a notice was not heard

tuned_member : (t n : Bool) (raw : Raw) (l : Listening) → (cond t (with_member n raw l) l).tuned ≡ l.tuned
tuned_member true true raw l = refl
tuned_member true false raw l = refl
tuned_member false n raw l = refl

tuned_ensemble : (b f : Bool) (e : EnsembleInformation) (l : Listening) → (heard_as b f e l).tuned ≡ true
tuned_ensemble true true e l = refl
tuned_ensemble true false e l = refl
tuned_ensemble false true e l = refl
tuned_ensemble false false e l = refl

record HadNone (past : List Moment) : Type 0 where
  first : oldest past ≡ None
  swap : last_swap past ≡ 0

same_swap : (past : List Moment) (i : Item) → is_swap past i ≡ false → last_swap (Said i ∷ past) ≡ last_swap past
same_swap past i sw = ap (λ t. cond t (frames_ended past + 1) (last_swap past)) sw

had_none : (step period : ℕ) (past : List Moment) → IsClean step period past → (listener_after past).tuned ≡ false
    → HadNone past
had_none step period [] c t = record { first = refl; swap = refl }
had_none step period (Ended count ∷ past) c t =
    (let h = had_none step period past c t in record { first = h.first; swap = h.swap })
had_none step period (Said i ∷ past) c t = by (is_ensemble i) refl (had_none step period past c.2)
  where
    by : (b : Bool) → is_ensemble i ≡ b → ((listener_after past).tuned ≡ false → HadNone past) → HadNone (Said i ∷ past)
    by true e before = absurd (false≢true (sym t ∙ ap (λ (l : Listening). l.tuned)
        (after_heard step period past i (is_swap past i) (is_flagged i) c e refl refl)
        ∙ tuned_ensemble (is_swap past i) (is_flagged i) (ensemble_of_item i) (listener_after past)))
    by false e before =
        let same : (listener_after past).tuned ≡ false =
        sym (tuned_member _ _ i.raw _) ∙ sym (ap (λ (l : Listening). l.tuned) (after_member step _ past i c e)) ∙ t in
        let h = before same in
        record {
          first = ap (λ t. first_or (oldest past) (cond t (Some (ensemble_of_item i)) None)) e
              ∙ ap (λ o. first_or o None) h.first;
          swap = same_swap past i (no_swap past i e) ∙ h.swap;
        }

-- the first FIG 0/0 is flagged, and no swap was made
record WasMissed (past : List Moment) : Type 0 where
  information : EnsembleInformation
  first : oldest past ≡ Some information
  flagged : (information.change == 0) ≡ false
  swap : last_swap past ≡ 0

was_missed : (step period : ℕ) (past : List Moment) → IsClean step period past → is_cut_off past ≡ true → WasMissed past
was_missed step period [] c cut = absurd (false≢true cut)
was_missed step period (Ended count ∷ past) c cut =
    (let m = was_missed step period past c cut in
    record { information = m.information; first = m.first; flagged = m.flagged; swap = m.swap })
was_missed step period (Said i ∷ past) c cut =
    by (is_swap past i) refl (is_ensemble i && not (listener_after past).tuned) refl cut
    (was_missed step period past c.2)
  where
    by : (b : Bool) → is_swap past i ≡ b → (d : Bool) → (is_ensemble i && not (listener_after past).tuned) ≡ d
        → cond b false (cond d (is_flagged i) (is_cut_off past)) ≡ true
        → (is_cut_off past ≡ true → WasMissed past) → WasMissed (Said i ∷ past)
    by true sw d first h before = absurd (false≢true h)
    by false sw true first h before =
        let e = first_holds (is_ensemble i) (not (listener_after past).tuned) first in
        let none = had_none step _ past c.2 (not-true (listener_after past).tuned (second_holds _ _ first)) in
        record {
          information = ensemble_of_item i;
          first = ap (λ o. first_or o (said_by i)) none.first ∙ ap (λ t. cond t (Some (ensemble_of_item i)) None) e;
          flagged = not-true ((ensemble_of_item i).change == 0) (second_holds _ _ h);
          swap = same_swap past i sw ∙ none.swap;
        }
    by false sw false first h before =
        let m = before h in
        record {
          information = m.information;
          first = ap (λ o. first_or o (said_by i)) m.first;
          flagged = m.flagged;
          swap = same_swap past i sw ∙ m.swap;
        }

heard_whole : (step period : ℕ) (frames : List (List Fib)) (past : List Moment) (i : Item) → IsClean step period past
    → IsSaidIn step frames past i → BeginsUnflagged frames ⊎ (0 < last_swap past) → is_cut_off past ≡ false
heard_whole step period frames past i c s which = by (is_cut_off past) refl
  where
    missed : WasMissed past → ⊥
    missed m = elim which [
      | inl bare ↦ false≢true (sym m.flagged ∙ eq-eqb m.information.change 0
          (bare m.information (first_of_stream m.information step frames past i s m.first)))
      | inr made ↦ (let none = m.swap in omega (arith, made, none))
    ]

    by : (b : Bool) → is_cut_off past ≡ b → b ≡ false
    by true cut = absurd (missed (was_missed step period past c cut))
    by false cut = refl

pub whole_notices_are_held : FibLaws → IsTheMost → WholeNoticesAreHeld
whole_notices_are_held laws most r size step period frames past i bytes faultless s sw which =
    let clean = entry_clean size step period (read_frames r frames) past i faultless s in
    changes_are_announced laws most r size step period frames past i bytes faultless s sw
    (heard_whole step period (read_frames r frames) past i clean.2 s which)

-- ---- the count of a swap

awaited_at : (step period : ℕ) (past : List Moment) (i : Item) → IsClean step period (Said i ∷ past)
    → is_swap past i ≡ true → (listener_after past).awaited ≡ Some ((ensemble_of_item i).count % 250)
awaited_at step period past i c sw =
    let k : KnownBefore = known_of step period past in
    let e : is_ensemble i ≡ true = first_holds (is_ensemble i) _ sw in
    let made : is_made (listener_after past).awaited (ensemble_of_item i) ≡ true = sym (ensemble_made past i e) ∙ sw in
    let low = first_fine (not ((ensemble_of_item i).count % 250 == awaited_low k)) (faults.AnnouncedFor (awaited_low k))
    (notice_faults k ++ unit_faults k) ((plain_ensemble step period past i c e).swap made).1 in
    awaited_is (listener_after past).awaited (ensemble_of_item i) ((ensemble_of_item i).count % 250) made
    (eqb-true ((ensemble_of_item i).count % 250) (awaited_low k)
    (not-false ((ensemble_of_item i).count % 250 == awaited_low k) low.0))

pub counts_are_held : FibLaws → CountsAreHeld
counts_are_held laws r size step period frames past i bytes faultless s sw frame next e inside heard =
    let clean = entry_clean size step period (read_frames r frames) past i faultless s in
    let formed = after_entry IsFormed formed_handed step (read_frames r frames) past i s (all_formed r step frames) in
    let is_one : is_ensemble i ≡ true = first_holds (is_ensemble i) _ sw in
    let low : ℕ = (ensemble_of_item i).count % 250 in
    let a = (all_tracked step period past clean.2 formed.2).announcing low (awaited_at step period past i clean sw) in
    let notice : List (List (List ℕ)) = last_of (length (rows past)) (take (frames_ended past) frames) in
    let all : AllByRecursion AreFibBytes notice =
    each_drop _ _ _ (each_take AreFibBytes (frames_ended past) frames bytes) in
    let are = notice_is r step frames past i s (alone_first step period past i clean formed is_one) in
    let says = notice_header laws r notice all (last_flags past) low (rw are a.rows) frame next e inside heard in
    let flags = says.0 in
    (omega (arith, flags), flags, says.1)
