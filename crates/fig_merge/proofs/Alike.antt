-- What a listener and the checker know of filled FIBs is what they know of the plan's.
use Rattle.fig_merge.proofs.Words.{[], ◌%◌, ◌&&◌, ◌++◌, ◌+◌, ◌==◌, ◌∙◌, ◌∷◌, ◌≡◌, AllAreFilled, AllByRecursion}
use Rattle.fig_merge.proofs.Words.{AreFilled, AreFilledFrames, AreFrames, BeginsAnew, Bool, Ended, Fib, Fig, Fill}
use Rattle.fig_merge.proofs.Words.{FilledIsFramedAlike, FilledIsHeardAlike, FilledIsRead, HoldsFirst, IsFib, IsMerging}
use Rattle.fig_merge.proofs.Words.{IsOneFrame, Item, Judge, List, Merging, Moment, None, Open, Option, Other, Raw}
use Rattle.fig_merge.proofs.Words.{Reading, Reads, Some, Step, Take, What, after_fill, after_step, after_take, agreeing}
use Rattle.fig_merge.proofs.Words.{agrees_with, ap, append_assoc, ap₂, arith, at_ensemble, begins_with_ensemble}
use Rattle.fig_merge.proofs.Words.{carried_by, carried_in, cond, count_due, count_in, count_of_frame, damaged_in, due}
use Rattle.fig_merge.proofs.Words.{ensemble_in, entries_in, false, false≢true, fib_items, fibs_in, fibs_items}
use Rattle.fig_merge.proofs.Words.{figs_items, filled_fib, first_in, first_in_figs, first_line, first_of_frame}
use Rattle.fig_merge.proofs.Words.{first_opening, first_or, first_raw, flat_map, frame_findings, hear_entries, hear_fib}
use Rattle.fig_merge.proofs.Words.{hear_figs, heard_or, hearing_fib, hearing_fibs, holds_ensemble, is_damaged}
use Rattle.fig_merge.proofs.Words.{is_next, is_there, lacks_opening, length, limited, list_all, ltb, map, merged, most}
use Rattle.fig_merge.proofs.Words.{not, nothing_taken, one_fib, opening, opening_in_figs, past_after_frame}
use Rattle.fig_merge.proofs.Words.{placed_count, refl, room_of, said, sent_in, subst, suc, sym, taken_of, true}
use Rattle.fig_merge.proofs.Words.{turns_in, untuned, waits, when, where_heard, with_carried, with_fig, with_figs, ℕ}
use Rattle.mux_types.specs.Entries.{EnsembleInformation}
use Rattle.stream_check.specs.Listening.{Listening}
use Rattle.stream_check.specs.declared.finding.Fault.TheVariants as faults
use Rattle.stream_check.specs.declared.finding.StreamEvent.TheVariants as events
use Rattle.stream_check.specs.declared.finding.What.TheVariants as whats
use Rattle.fig_merge.proofs.Passing.{filled_is, all_agree}
use Rattle.fig_merge.proofs.Carried.{merging_step}

-- ---- the filled FIB has one reading
abbrev some : List Fig → Fib
some figs = Some figs

read_is : (bytes : List ℕ) (figs : List Fig) → IsFib bytes figs → (fib : Fib) → Reads bytes fib → fib ≡ Some figs
read_is bytes figs is None damaged = absurd (damaged figs is)
read_is bytes figs is (Some others) read = ap some (one_fib bytes others figs read is)

none_is : (bytes : List ℕ) → Reads bytes None → (fib : Fib) → Reads bytes fib → fib ≡ None
none_is bytes damaged None read = refl
none_is bytes damaged (Some figs) read = absurd (damaged figs read)

read_filled : (r : Reading) (bytes : List ℕ) (m : Merging) (fib : Fib) → Reads bytes fib → IsMerging m
    → r.read (merged bytes fib m) ≡ with_carried fib (carried_by fib m)
read_filled r bytes m None damaged h = none_is bytes damaged (r.read bytes) (r.right bytes)
read_filled r bytes m (Some figs) is h =
    let new = filled_fib figs m.heard m.waiting in
    read_is new (figs ++ map Other (carried_in (agrees_with figs m.heard) (room_of figs) m.waiting))
    (filled_is bytes figs m.heard m.waiting is h.passed_over) (r.read new) (r.right new)

pub filled_read : FilledIsRead
filled_read r bytes m h = read_filled r bytes m (r.read bytes) (r.right bytes) h

-- ---- a listener
where_alike : (heard : Option Listening) (one other : Listening → Option Listening)
    → ((l : Listening) → one l ≡ other l)
    → where_heard heard one ≡ where_heard heard other
where_alike None one other same = refl
where_alike (Some l) one other same = same l

heard_others : (figs : List Fig) (carried : List (List ℕ)) (l : Listening)
    → hear_figs (figs ++ map Other carried) l ≡ hear_figs figs l
heard_others [] [] l = refl
heard_others [] (c ∷ cs) l = heard_others [] cs l
heard_others (f ∷ fs) carried l = where_alike _ _ _ (heard_others fs carried)

heard_alike : (fib : Fib) (carried : List (List ℕ)) (l : Listening)
    → hear_fib (with_carried fib carried) l ≡ hear_fib fib l
heard_alike None carried l = refl
heard_alike (Some figs) carried l = heard_others figs carried l

pub filled_heard : FilledIsHeardAlike
filled_heard r bytes m l h = rw (filled_read r bytes m h) (heard_alike (r.read bytes) (carried_by (r.read bytes) m) l)

-- ---- what the merger has heard
with_heard : (fig : List ℕ) (m : Merging) → (with_fig fig m).heard ≡ m.heard
with_heard fig m = by (waits fig m.waiting) (ltb (length m.waiting) most)
  where
    by : (there room : Bool) → (cond there m (cond room (record m { waiting = m.waiting ++ fig ∷ [] })
        (record m { dropped = limited (m.dropped + 1) }))).heard ≡ m.heard
    by true room = refl
    by false true = refl
    by false false = refl

figs_heard : (figs : List (List ℕ)) (m : Merging) → (with_figs figs m).heard ≡ m.heard
figs_heard [] m = refl
figs_heard (fig ∷ figs) m = figs_heard figs (with_fig fig m) ∙ with_heard fig m

pub take_heard : (fib : Fib) (m : Merging) → (after_take fib m).heard ≡ m.heard
take_heard None m = refl
take_heard (Some figs) m = figs_heard (taken_of figs) m

pub fill_heard : (fib : Fib) (m : Merging) → (after_fill fib m).heard ≡ hearing_fib fib m.heard
fill_heard None m = refl
fill_heard (Some figs) m = refl

all_true : (p : List ℕ → Bool) (xs : List (List ℕ)) → AllByRecursion (λ x. p x ≡ true) xs → list_all p xs ≡ true
all_true p [] all = refl
all_true p (x ∷ xs) all = ap₂ (λ (a b : Bool). a && b) all.0 (all_true p xs all.1)

pub carried_agree : (fib : Fib) (m : Merging) → agreeing m.heard fib (carried_by fib m) ≡ true
carried_agree None m = refl
carried_agree (Some figs) m =
    let ok = agrees_with figs m.heard in
    all_true ok (carried_in ok (room_of figs) m.waiting) (all_agree ok (turns_in ok (room_of figs) m.waiting))

-- ---- all FIBs that are filled
pub filled_from : (r : Reading) (steps : List Step) (m : Merging) → IsMerging m
    → AreFilled agreeing m.heard (fibs_in r steps) (map r.read (sent_in r steps m))
filled_from r [] m h = refl
filled_from r (Take fib ∷ ss) m h =
    let later = after_step r (Take fib) m in
    subst (λ (l : Listening). AreFilled agreeing l (fibs_in r ss) (map r.read (sent_in r ss later)))
    (take_heard (r.read fib) m) (filled_from r ss later (merging_step r (Take fib) m h))
filled_from r (Fill fib ∷ ss) m h =
    let later = after_step r (Fill fib) m in
    let sent = map r.read (sent_in r ss later) in (
      carried_by (r.read fib) m,
      sent,
      rw (filled_read r fib m h) refl,
      carried_agree (r.read fib) m,
      subst (λ (l : Listening). AreFilled agreeing l (fibs_in r ss) sent) (fill_heard (r.read fib) m)
          (filled_from r ss later (merging_step r (Fill fib) m h)),
    )

pub all_filled : AllAreFilled
all_filled r steps = filled_from r steps nothing_taken (record { few = omega arith; passed_over = tt })

-- ---- what the checker sees of a FIB
damaged_alike : (fib : Fib) (carried : List (List ℕ)) → is_damaged (with_carried fib carried) ≡ is_damaged fib
damaged_alike None carried = refl
damaged_alike (Some figs) carried = refl

first_others : (figs : List Fig) (carried : List (List ℕ))
    → first_in_figs (figs ++ map Other carried) ≡ first_in_figs figs
first_others [] [] = refl
first_others [] (c ∷ cs) = first_others [] cs
first_others (f ∷ fs) carried = ap (first_or (first_raw (entries_in f))) (first_others fs carried)

first_alike : (fib : Fib) (carried : List (List ℕ)) → first_in (with_carried fib carried) ≡ first_in fib
first_alike None carried = refl
first_alike (Some figs) carried = first_others figs carried

opening_others : (figs : List Fig) (carried : List (List ℕ))
    → opening_in_figs (figs ++ map Other carried) ≡ opening_in_figs figs
opening_others [] [] = refl
opening_others [] (c ∷ cs) = refl
opening_others (f ∷ fs) carried = refl

opening_alike : (fib : Fib) (carried : List (List ℕ)) → opening (with_carried fib carried) ≡ opening fib
opening_alike None carried = refl
opening_alike (Some figs) carried = opening_others figs carried

begins_alike : (fib : Fib) (carried : List (List ℕ)) → begins_with_ensemble (with_carried fib carried)
    ≡ begins_with_ensemble fib
begins_alike fib carried = ap is_there (opening_alike fib carried)

holds_alike : (fib : Fib) (carried : List (List ℕ)) → holds_ensemble (with_carried fib carried) ≡ holds_ensemble fib
holds_alike fib carried = ap is_there (first_alike fib carried)

items_others : (first : Bool) (figs : List Fig) (carried : List (List ℕ))
    → figs_items first (figs ++ map Other carried) ≡ figs_items first figs
items_others first [] [] = refl
items_others first [] (c ∷ cs) = items_others false [] cs
items_others first (f ∷ fs) carried = rw (items_others false fs carried) refl

items_alike : (first : Bool) (fib : Fib) (carried : List (List ℕ))
    → fib_items first (with_carried fib carried) ≡ fib_items first fib
items_alike first None carried = refl
items_alike first (Some figs) carried = items_others first figs carried

-- ---- of a frame
pub record IsAlike (before after : List Fib) : Type 0 where
  pub long : length after ≡ length before
  pub damaged : damaged_in after ≡ damaged_in before
  pub first : first_of_frame after ≡ first_of_frame before
  pub opens : first_opening after ≡ first_opening before
  pub lacks : lacks_opening after ≡ lacks_opening before
  pub items : (b : Bool) → fibs_items b after ≡ fibs_items b before

pub frame_alike : (may : Judge) (l : Listening) (frame sent : List Fib) → AreFilled may l frame sent
    → IsAlike frame sent
frame_alike may l [] sent h =
    rw h (record { long = refl; damaged = refl; first = refl; opens = refl; lacks = refl; items = λ b. refl })
frame_alike may l (fib ∷ fibs) sent h =
    let rest = frame_alike may (hearing_fib fib l) fibs h.1 h.4 in
    let broken = damaged_alike fib h.0 in
    subst (λ (xs : List Fib). IsAlike (fib ∷ fibs) xs) (sym h.2) (record {
      long = ap suc rest.long;
      damaged = ap₂ (λ (d : Bool) (n : ℕ). cond d 1 0 + n) broken rest.damaged;
      first = ap₂ first_or (first_alike fib h.0) rest.first;
      opens = opening_alike fib h.0;
      lacks = ap₂ (λ (d e : Bool). not d && not e) broken (begins_alike fib h.0);
      items = λ b. ap₂ (λ (xs ys : List Item). xs ++ ys) (items_alike b fib h.0) (rest.items false);
    })

due_alike : (last : Option ℕ) (frame sent : List Fib) → IsAlike frame sent → count_due last sent ≡ count_due last frame
due_alike None frame sent a = ap count_in a.first
due_alike (Some count) frame sent a = refl

pub count_alike : (step : ℕ) (last : Option ℕ) (frame sent : List Fib) → IsAlike frame sent
    → count_of_frame step last sent ≡ count_of_frame step last frame
count_alike step last frame sent a = ap₂ (placed_count step) (due_alike last frame sent a) a.opens

line_alike : (last : Option ℕ) (frame sent : List Fib) → IsAlike frame sent
    → first_line last sent ≡ first_line last frame
line_alike None frame sent a = rw (a.first) refl
line_alike (Some count) frame sent a = refl

abbrev pub joined : List What → List What → List What
joined xs ys = xs ++ ys

pub whole_alike : (size step : ℕ) (last : Option ℕ) (frame sent : List Fib) → IsAlike frame sent
    → frame_findings size step last sent ≡ frame_findings size step last frame
whole_alike size step last frame sent a =
    ap₂ joined (line_alike last frame sent a) (ap₂ joined (rw (a.long) refl)
    (ap₂ joined (rw (a.damaged) refl) (ap₂ (λ (n : ℕ) (b : Bool). when (n % step == 0 && b) faults.NoEnsemble)
    (due_alike last frame sent a) a.lacks)))

pub after_alike : (step : ℕ) (past : List Moment) (frame sent : List Fib) → IsAlike frame sent
    → past_after_frame step past sent ≡ past_after_frame step past frame
after_alike step past frame sent a =
    ap₂ (λ (n : ℕ) (items : List Item). Ended n ∷ said items past) (count_alike step (due past) frame sent a)
    (a.items true)

-- ---- frames are cut at the same places
abbrev flat : List (List Fib) → List Fib
flat frames = flat_map (λ f. f) frames

-- those that are skipped leave the listener untuned
silent_entries : (next : Bool) (raws : List Raw) → first_raw raws ≡ None → hear_entries next raws untuned ≡ Some untuned
silent_entries next [] none = refl
silent_entries next (raw ∷ raws) none =
    elim (raw.ext == 0) as (λ b. cond b (Some (ensemble_in raw)) (first_raw raws) ≡ None
    → where_heard (cond b (Some (at_ensemble (ensemble_in raw) untuned)) (Some untuned)) (hear_entries next raws)
    ≡ Some untuned) [
      | true ↦ λ first. absurd cc
      | false ↦ λ first. silent_entries next raws first
    ] none

first_none : (one other : Option EnsembleInformation) → first_or one other ≡ None → (one ≡ None) × (other ≡ None)
first_none None other none = (refl, none)
first_none (Some e) other none = absurd cc

silent_figs : (figs : List Fig) → first_in_figs figs ≡ None → hear_figs figs untuned ≡ Some untuned
silent_figs [] none = refl
silent_figs (Open second es ∷ fs) none =
    let both = first_none (first_raw (entries_in (Open second es))) (first_in_figs fs) none in
    cc (silent_entries (is_next second) (entries_in (Open second es)) both.0, silent_figs fs both.1)
silent_figs (Other given ∷ fs) none = silent_figs fs none

not_there : (o : Option EnsembleInformation) → is_there o ≡ false → o ≡ None
not_there None e = refl
not_there (Some x) e = absurd (false≢true (sym e))

silent_fib : (fib : Fib) → holds_ensemble fib ≡ false → hearing_fib fib untuned ≡ untuned
silent_fib None silent = refl
silent_fib (Some figs) silent = ap (heard_or untuned) (silent_figs figs (not_there (first_in_figs figs) silent))

silent_fibs : (fibs : List Fib) → AllByRecursion (λ fib. holds_ensemble fib ≡ false) fibs
    → hearing_fibs fibs untuned ≡ untuned
silent_fibs [] all = refl
silent_fibs (fib ∷ fibs) all = rw (silent_fib fib all.0) (silent_fibs fibs all.1)

pub hearing_append : (xs ys : List Fib) (l : Listening)
    → hearing_fibs (xs ++ ys) l ≡ hearing_fibs ys (hearing_fibs xs l)
hearing_append [] ys l = refl
hearing_append (x ∷ xs) ys l = hearing_append xs ys (hearing_fib x l)

cut_filled : (may : Judge) (l : Listening) (xs ys sent : List Fib) → AreFilled may l (xs ++ ys) sent
    → (one two : List Fib) × (sent ≡ one ++ two) × AreFilled may l xs one × AreFilled may (hearing_fibs xs l) ys two
cut_filled may l [] ys sent h = ([], sent, refl, refl, h)
cut_filled may l (x ∷ xs) ys sent h =
    let more = cut_filled may (hearing_fib x l) xs ys h.1 h.4 in (
      with_carried x h.0 ∷ more.0,
      more.1,
      rw (← more.2) h.2,
      (h.0, more.0, refl, h.3, more.3),
      more.4,
    )

cut_frames : (may : Judge) (l : Listening) (frames : List (List Fib)) (rest sent : List Fib)
    → AreFilled may l (flat frames ++ rest) sent
    → (ones : List (List Fib)) × (end : List Fib) × (sent ≡ flat ones ++ end) × AreFilledFrames may l frames ones
    × AreFilled may (hearing_fibs (flat frames) l) rest end
cut_frames may l [] rest sent h = ([], sent, refl, refl, h)
cut_frames may l (frame ∷ frames) rest sent h =
    let apart = cut_filled may l frame (flat frames ++ rest) sent (rw (← append_assoc frame (flat frames) rest) h) in
    let more = cut_frames may (hearing_fibs frame l) frames rest apart.1 apart.4 in (
      apart.0 ∷ more.0,
      more.1,
      apart.2 ∙ ap (λ (zs : List Fib). apart.0 ++ zs) more.2 ∙ sym (append_assoc apart.0 (flat more.0) more.1),
      (apart.0, more.0, refl, apart.3, more.3),
      rw (hearing_append frame (flat frames) l) more.4,
    )

filled_append : (may : Judge) (l : Listening) (xs ys one two : List Fib) → AreFilled may l xs one
    → AreFilled may (hearing_fibs xs l) ys two → AreFilled may l (xs ++ ys) (one ++ two)
filled_append may l [] ys one two h k = rw (h) k
filled_append may l (x ∷ xs) ys one two h k = (
  h.0,
  h.1 ++ two,
  rw (h.2) refl,
  h.3,
  filled_append may (hearing_fib x l) xs ys h.1 two h.4 k,
)

filled_flat : (may : Judge) (l : Listening) (frames ones : List (List Fib)) (rest end : List Fib)
    → AreFilledFrames may l frames ones → AreFilled may (hearing_fibs (flat frames) l) rest end
    → AreFilled may l (flat frames ++ rest) (flat ones ++ end)
filled_flat may l [] ones rest end h k = rw (h) k
filled_flat may l (frame ∷ frames) ones rest end h k =
    rw (h.2) (rw (append_assoc frame (flat frames) rest) (rw (append_assoc h.0 (flat h.1) end)
    (filled_append may l frame (flat frames ++ rest) h.0 (flat h.1 ++ end) h.3
    (filled_flat may (hearing_fibs frame l) frames h.1 rest end h.4 (rw (← hearing_append frame (flat frames) l) k)))))

none_hold : (may : Judge) (l : Listening) (xs sent : List Fib) → AreFilled may l xs sent
    → AllByRecursion (λ fib. holds_ensemble fib ≡ false) xs
    → AllByRecursion (λ fib. holds_ensemble fib ≡ false) sent
none_hold may l [] sent h all = rw (h) tt
none_hold may l (x ∷ xs) sent h all =
    rw (h.2) (holds_alike x h.0 ∙ all.0, none_hold may (hearing_fib x l) xs h.1 h.4 all.1)

none_begin : (may : Judge) (l : Listening) (xs sent : List Fib) → AreFilled may l xs sent
    → AllByRecursion (λ fib. begins_with_ensemble fib ≡ false) xs
    → AllByRecursion (λ fib. begins_with_ensemble fib ≡ false) sent
none_begin may l [] sent h all = rw (h) tt
none_begin may l (x ∷ xs) sent h all =
    rw (h.2) (begins_alike x h.0 ∙ all.0, none_begin may (hearing_fib x l) xs h.1 h.4 all.1)

first_holds : (may : Judge) (l : Listening) (xs sent : List Fib) → AreFilled may l xs sent → HoldsFirst xs
    → HoldsFirst sent
first_holds may l [] sent h holds = rw (h) tt
first_holds may l (x ∷ xs) sent h holds = rw (h.2) (holds_alike x h.0 ∙ holds)

one_frame : (may : Judge) (l : Listening) (xs sent : List Fib) → AreFilled may l xs sent → IsOneFrame xs
    → IsOneFrame sent
one_frame may l [] sent h one = absurd one
one_frame may l (x ∷ xs) sent h one = rw (h.2) (none_begin may (hearing_fib x l) xs h.1 h.4 one)

begins_anew : (may : Judge) (l : Listening) (xs sent : List Fib) → AreFilled may l xs sent → BeginsAnew xs
    → BeginsAnew sent
begins_anew may l [] sent h begins = absurd begins
begins_anew may l (x ∷ xs) sent h begins = rw (h.2) (begins_alike x h.0 ∙ begins)

rest_cut : (may : Judge) (l : Listening) (size : ℕ) (rest end : List Fib) → AreFilled may l rest end
    → AreFrames size [] rest → AreFrames size [] end
rest_cut may l size [] end h cut = rw (h) tt
rest_cut may l size (x ∷ xs) end h cut =
    rw (h.2) (
      one_frame may l (x ∷ xs) (with_carried x h.0 ∷ h.1) (h.0, h.1, refl, h.3, h.4) cut.0,
      omega (arith, (frame_alike may (hearing_fib x l) xs h.1 h.4).long, cut.1),
    )

frames_cut : (may : Judge) (l : Listening) (size : ℕ) (frames ones : List (List Fib)) (rest end : List Fib)
    → AreFilledFrames may l frames ones → AreFilled may (hearing_fibs (flat frames) l) rest end
    → AreFrames size frames rest → AreFrames size ones end
frames_cut may l size [] ones rest end h k cut = rw (h) (rest_cut may l size rest end k cut)
frames_cut may l size (frame ∷ frames) ones rest end h k cut =
    let long = (frame_alike may l frame h.0 h.3).long in
    let later = hearing_fibs frame l in
    let last = subst (λ (m : Listening). AreFilled may m rest end) (hearing_append frame (flat frames) l) k in
    subst (λ (fs : List (List Fib)). AreFrames size fs end) (sym h.2) (
      one_frame may l frame h.0 h.3 cut.0,
      omega (arith, long, cut.1),
      (λ short. begins_anew may later (flat frames ++ rest) (flat h.1 ++ end)
          (filled_flat may later frames h.1 rest end h.4 last) (cut.2 (omega (arith, long, short)))),
      frames_cut may later size frames h.1 rest end h.4 last cut.3,
    )

pub framed_alike : FilledIsFramedAlike
framed_alike may size stream sent skipped frames rest h f =
    let whole : AreFilled may untuned (skipped ++ (flat frames ++ rest)) sent = rw (← f.whole) h in
    let apart = cut_filled may untuned skipped (flat frames ++ rest) sent whole in
    let still = silent_fibs skipped f.before in
    let behind = subst (λ (k : Listening). AreFilled may k (flat frames ++ rest) apart.1) still apart.4 in
    let more = cut_frames may untuned frames rest apart.1 behind in
    record {
      skipped_sent = apart.0;
      frames_sent = more.0;
      rest_sent = more.1;
      framed = record {
        whole = rw (← more.2) apart.2;
        before = none_hold may untuned skipped apart.0 apart.3 f.before;
        begun = rw (← more.2) (first_holds may untuned (flat frames ++ rest) apart.1 behind f.begun);
        cut = frames_cut may untuned size frames more.0 rest more.1 more.3 more.4 f.cut;
      };
      skipped_alike = apart.3;
      frames_alike = more.3;
      rest_alike = more.4;
    }
