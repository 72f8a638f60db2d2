-- The counts of a stream without a fault run on.
use Rattle.stream_laws.proofs.Words.{[], ◌%◌, ◌&&◌, ◌++◌, ◌+◌, ◌==◌, ◌∙◌, ◌∷◌, ◌≡◌, ◌≤◌, AllByRecursion, AreFibBytes}
use Rattle.stream_laws.proofs.Words.{Bool, Contains, Contains-append_left, Contains-append_right, Contradiction}
use Rattle.stream_laws.proofs.Words.{CountsRunOn, EnsembleInformation, Fib, Fig, Finding, IsAtCount, IsNoFault, Item}
use Rattle.stream_laws.proofs.Words.{List, Moment, None, Open, Option, Other, Raw, Reading, RunOn, Said, Some}
use Rattle.stream_laws.proofs.Words.{after_frames, ap, arith, cond, contains_cases, contains_first, contains_none}
use Rattle.stream_laws.proofs.Words.{count_due, count_in, count_of_frame, damaged_findings, damaged_in, due}
use Rattle.stream_laws.proofs.Words.{each_contains, eid_of, ensemble_in, ensemble_of_item, entries_in, eq-eqb, eqb-true}
use Rattle.stream_laws.proofs.Words.{false, false≢true, fib_items, fibs_items, fig_items, figs_items, findings_from}
use Rattle.stream_laws.proofs.Words.{first_in, first_in_figs, first_line, first_of_frame, first_opening, first_or}
use Rattle.stream_laws.proofs.Words.{first_raw, frame_findings, frame_items, frames_full, inl, inr, is_ensemble}
use Rattle.stream_laws.proofs.Words.{is_in_place, is_next, is_other, is_there, items_of, lacks_opening, last_eid}
use Rattle.stream_laws.proofs.Words.{length, ltb-false, map, nat_lt, not, not-false, noted_in, opening}
use Rattle.stream_laws.proofs.Words.{past_after_frame, placed_count, read_frames, refl, row_of, said, size_findings}
use Rattle.stream_laws.proofs.Words.{some_is, sym, true, ℕ}
use Rattle.stream_check.specs.declared.finding.Fault.TheVariants as faults
use Rattle.stream_laws.proofs.Clean.{all_left, all_right, IsClean, all_clean, before_said, before_frames, clean_handed}
use Rattle.stream_laws.proofs.Clean.{frame_free}
use Rattle.stream_laws.proofs.Kept.{no_fault, first_holds, second_holds, second_false, plain_ensemble}
use Rattle.stream_laws.proofs.Rows.{at_hand, HasNone}
use Rattle.stream_laws.proofs.Tracking.{IsFormed, alone_first}
use Rattle.stream_laws.proofs.Formed.{all_formed}
use Rattle.stream_laws.proofs.Bytes.{FibLaws, header_heard, header_said}
use Rattle.stream_laws.proofs.Announced.{formed_handed}

clean_here : (step period : ℕ) (i : Item) (is : List Item) (past : List Moment)
    → IsClean step period (said (i ∷ is) past) → IsClean step period (Said i ∷ past)
clean_here step period i is past c = before_said (IsClean step period) (clean_handed step period) is (Said i ∷ past) c

-- ---- the FIG 0/0 of a frame, where a count and an EId are due

same_as : (n m : ℕ) (o : Option ℕ) → o ≡ Some m → is_other n o ≡ false → n ≡ m
same_as n m None e h = absurd cc
same_as n m (Some k) e h = eqb-true n k (not-false (n == k) h) ∙ some_is k m e

-- if the entry is a FIG 0/0, it has this count and this EId
abbrev IsDue : ℕ → ℕ → ℕ → Item → Type 0
IsDue step eid count i = is_ensemble i ≡ true → ((ensemble_of_item i).count % step ≡ 0)
    × ((ensemble_of_item i).eid ≡ eid) × ((ensemble_of_item i).count ≡ count)

eid_after : (step eid : ℕ) (i : Item) (past : List Moment) → last_eid step past ≡ Some eid
    → (is_ensemble i ≡ true → (ensemble_of_item i).eid ≡ eid) → last_eid step (Said i ∷ past) ≡ Some eid
eid_after step eid i past h same = ap (eid_of step i) h ∙ by (is_in_place step i) refl
  where
    by : (b : Bool) → is_in_place step i ≡ b → cond b (Some (ensemble_of_item i).eid) (Some eid) ≡ Some eid
    by true e = ap Some (same (first_holds (is_ensemble i) _ (second_holds i.first _ e)))
    by false e = refl

record AreDue (step eid count : ℕ) (items : List Item) (past : List Moment) : Type 0 where
  each : AllByRecursion (IsDue step eid count) items
  after : last_eid step (said items past) ≡ Some eid

items_due : (step period eid count : ℕ) (items : List Item) (past : List Moment) → IsClean step period (said items past)
    → due past ≡ Some count → last_eid step past ≡ Some eid
    → AreDue step eid count items past
items_due step period eid count [] past c d h = record { each = tt; after = h }
items_due step period eid count (i ∷ is) past c d h =
    let one : IsDue step eid count i = λ e.
    let p = plain_ensemble step period past i (clean_here step period i is past c) e in (
      p.on_step,
      same_as (ensemble_of_item i).eid eid (last_eid step past) h p.eid,
      same_as (ensemble_of_item i).count count (due past) d p.count,
    )
    in
    let rest = items_due step period eid count is (Said i ∷ past) c d (eid_after step eid i past h (λ e. (one e).1)) in
    record { each = (one, rest.each); after = rest.after }

-- ---- the first FIG 0/0 of a frame is one of its entries

record IsSaid (items : List Item) (e : EnsembleInformation) : Type 0 where
  item : Item
  inside : Contains items item
  ensemble : is_ensemble item ≡ true
  says : ensemble_of_item item ≡ e

in_front : (xs ys : List Item) (e : EnsembleInformation) → IsSaid xs e → IsSaid (xs ++ ys) e
in_front xs ys e h = record {
  item = h.item;
  inside = Contains-append_left xs ys h.item h.inside;
  ensemble = h.ensemble;
  says = h.says;
}

behind : (xs ys : List Item) (e : EnsembleInformation) → IsSaid ys e → IsSaid (xs ++ ys) e
behind xs ys e h = record {
  item = h.item;
  inside = Contains-append_right xs ys h.item h.inside;
  ensemble = h.ensemble;
  says = h.says;
}

either_first : {X : Type 0} (o p : Option EnsembleInformation) (e : EnsembleInformation) → first_or o p ≡ Some e
    → (o ≡ Some e → X) → (p ≡ Some e → X) → X
either_first None p e h f g = g h
either_first (Some x) p e h f g = f h

raws_said : (first next : Bool) (raws : List Raw) (e : EnsembleInformation) → first_raw raws ≡ Some e
    → IsSaid (items_of first next raws) e
raws_said first next [] e h = absurd cc
raws_said first next (raw ∷ raws) e h =
    let i : Item = record { first = first; next = next; raw = raw } in
    elim (raw.ext == 0) as (λ t. (raw.ext == 0) ≡ t → cond t (Some (ensemble_in raw)) (first_raw raws) ≡ Some e
    → IsSaid (i ∷ items_of first next raws) e) [
      | true ↦ λ is g. record {
        item = i;
        inside = contains_first i (items_of first next raws);
        ensemble = is;
        says = some_is (ensemble_in raw) e g;
      }
      | false ↦ λ is g. behind (i ∷ []) (items_of first next raws) e (raws_said first next raws e g)
    ] refl h

fig_said : (first : Bool) (f : Fig) (e : EnsembleInformation) → first_raw (entries_in f) ≡ Some e
    → IsSaid (fig_items first f) e
fig_said first (Open second es) e h = raws_said first (is_next second) (entries_in (Open second es)) e h
fig_said first (Other given) e h = absurd cc

figs_said : (first : Bool) (fs : List Fig) (e : EnsembleInformation) → first_in_figs fs ≡ Some e
    → IsSaid (figs_items first fs) e
figs_said first [] e h = absurd cc
figs_said first (f ∷ fs) e h =
    either_first (first_raw (entries_in f)) (first_in_figs fs) e h
    (λ g. in_front (fig_items first f) (figs_items false fs) e (fig_said first f e g))
    (λ g. behind (fig_items first f) (figs_items false fs) e (figs_said false fs e g))

fib_said : (first : Bool) (fib : Fib) (e : EnsembleInformation) → first_in fib ≡ Some e → IsSaid (fib_items first fib) e
fib_said first None e h = absurd cc
fib_said first (Some figs) e h = figs_said first figs e h

fibs_said : (first : Bool) (fibs : List Fib) (e : EnsembleInformation) → first_of_frame fibs ≡ Some e
    → IsSaid (fibs_items first fibs) e
fibs_said first [] e h = absurd cc
fibs_said first (fib ∷ fibs) e h =
    either_first (first_in fib) (first_of_frame fibs) e h
    (λ g. in_front (fib_items first fib) (fibs_items false fibs) e (fib_said first fib e g))
    (λ g. behind (fib_items first fib) (fibs_items false fibs) e (fibs_said false fibs e g))

-- the FIG 0/0 that a frame begins with is its first one
opening_first : (frame : List Fib) (e : EnsembleInformation) → first_opening frame ≡ Some e
    → first_of_frame frame ≡ Some e
opening_first (Some (f ∷ fs) ∷ fibs) e h = ap (λ o. first_or (first_or o (first_in_figs fs)) (first_of_frame fibs)) h
opening_first _ e h = absurd cc

-- ---- a frame as a whole

there_some : (o : Option EnsembleInformation) → not (is_there o) ≡ false → (e : EnsembleInformation) × (o ≡ Some e)
there_some None h = absurd (false≢true (sym h))
there_some (Some e) h = (e, refl)

opened : (frame : List Fib) → 1 ≤ length frame → nat_lt 0 (damaged_in frame) ≡ false → lacks_opening frame ≡ false
    → (e : EnsembleInformation) × (first_opening frame ≡ Some e)
opened [] some whole h = absurd (omega (arith, some))
opened (None ∷ fibs) some whole h =
    absurd (omega (arith, ltb-false 0 (damaged_in (None ∷ fibs)) whole))
opened (Some figs ∷ fibs) some whole h = there_some (opening (Some figs)) h

-- where FIG 0/0 is due, the frame begins with it
frame_opens : (size step : ℕ) (last : Option ℕ) (frame : List Fib) → 1 ≤ size
    → AllByRecursion IsNoFault (frame_findings size step last frame) → count_due last frame % step ≡ 0
    → (e : EnsembleInformation) × (first_opening frame ≡ Some e)
frame_opens size step last frame some all on =
    let sized = all_right IsNoFault (first_line last frame) _ all in
    let short = no_fault (nat_lt (length frame) size) (faults.ShortFrame (length frame))
    (all_left IsNoFault (size_findings size frame) _ sized) in
    let later = all_right IsNoFault (size_findings size frame) _ sized in
    let whole = no_fault (nat_lt 0 (damaged_in frame)) (faults.Damaged (damaged_in frame))
    (all_left IsNoFault (damaged_findings frame) _ later) in
    let missing = no_fault (count_due last frame % step == 0 && lacks_opening frame) faults.NoEnsemble
    (all_right IsNoFault (damaged_findings frame) _ later) in
    let long : size ≤ length frame = ltb-false (length frame) size short in
    opened frame (omega (arith, some, long)) whole (second_false _ _ (eq-eqb (count_due last _ % step) 0 on) missing)

-- ---- the bytes of a frame

at_count : FibLaws → (r : Reading) (step eid count : ℕ) (fibs : List (List ℕ)) → AreFibBytes fibs
    → AllByRecursion (IsDue step eid count) (frame_items (map r.read fibs))
    → (count % step ≡ 0 → (e : EnsembleInformation) × IsSaid (frame_items (map r.read fibs)) e)
    → IsAtCount step eid count (row_of fibs)
at_count laws r step eid count fibs all due_items opens = record {
  there = λ on.
      let x = (opens on).1 in
      (x.item.next, ensemble_of_item x.item, header_heard laws r fibs x.item all x.ensemble x.inside);
  only = λ next e heard.
      let h = header_said laws r fibs next e all heard in
      let d = each_contains _ _ _ due_items h.inside h.ensemble in
      let counts : e.count ≡ count = ap (λ (x : EnsembleInformation). x.count) (sym h.says) ∙ d.2 in
      (ap (λ n. n % step) (sym d.2) ∙ d.0, ap (λ (x : EnsembleInformation). x.eid) (sym h.says) ∙ d.1, counts);
}

placed_is : (step count : ℕ) (o : Option EnsembleInformation)
    → ((e : EnsembleInformation) → o ≡ Some e → e.count ≡ count) → placed_count step count o ≡ count
placed_is step count None h = refl
placed_is step count (Some e) h = by (e.count % step == 0)
  where
    by : (b : Bool) → cond b e.count count ≡ count
    by true = h e refl
    by false = refl

-- ---- frames after the first

along : FibLaws → (r : Reading) (size step period eid : ℕ) → 1 ≤ size
    → (frames : List (List (List ℕ))) (count : ℕ) (past : List Moment) (noted : List Contradiction)
    → AllByRecursion AreFibBytes frames
    → frames_full step period past (read_frames r frames) ≡ false
    → AllByRecursion (λ (found : Finding). IsNoFault found.what)
    (findings_from size step period past noted (read_frames r frames))
    → IsClean step period (after_frames step past (read_frames r frames)) → due past ≡ Some count
    → last_eid step past ≡ Some eid → RunOn step eid count (map row_of frames)
along laws r size step period eid some [] count past noted all room plain clean d h = tt
along laws r size step period eid some (fibs ∷ frames) count past noted all room plain clean d h =
    let frame : List Fib = map r.read fibs in
    let free = frame_free size step period past noted frame (read_frames r frames) room plain in
    let here : IsClean step period (said (frame_items frame) past) =
    before_frames (IsClean step period) (clean_handed step period) step (read_frames r frames)
    (past_after_frame step past frame) clean in
    let items = items_due step period eid count (frame_items frame) past here d h in
    let counted : count_due (due past) frame ≡ count = ap (λ o. count_due o frame) d in
    let opens : count % step ≡ 0 → (e : EnsembleInformation) × IsSaid (frame_items frame) e = λ on.
    let o = frame_opens size step (due past) frame some free.itself (ap (λ n. n % step) counted ∙ on) in
    (o.0, fibs_said true frame o.0 (opening_first frame o.0 o.1))
    in
    let found : (e : EnsembleInformation) → first_opening frame ≡ Some e → e.count ≡ count = λ e is.
    let x = fibs_said true frame e (opening_first frame e is) in
    ap (λ (y : EnsembleInformation). y.count) (sym x.says)
    ∙ (each_contains (IsDue step eid count) (frame_items frame) x.item items.each x.inside x.ensemble).2
    in
    let ends : count_of_frame step (due past) frame ≡ count =
    ap (λ n. placed_count step n (first_opening frame)) counted
    ∙ placed_is step count (first_opening frame) found in (
      at_count laws r step eid count fibs all.0 items.each opens,
      along laws r size step period eid some frames ((count + 1) % 5000) (past_after_frame step past frame)
          (noted_in period past noted frame) all.1 free.room free.plain clean (ap (λ n. Some ((n + 1) % 5000)) ends)
          items.after,
    )

-- ---- the first frame

-- it has no FIG 0/0 but its first entry
later_none : (step period : ℕ) (items : List Item) (past : List Moment) → IsClean step period (said items past)
    → IsFormed (said items past) → (at_hand past ≡ [] → ⊥) → HasNone items
later_none step period [] past c w some = tt
later_none step period (j ∷ js) past c w some =
    let formed : IsFormed (Said j ∷ past) = before_said IsFormed formed_handed js (Said j ∷ past) w in (
      elim (is_ensemble j) as (λ t. is_ensemble j ≡ t → t ≡ false) [
        | true ↦ λ e. absurd (some (alone_first step period past j (clean_here step period j js past c) formed e))
        | false ↦ λ e. refl
      ] refl,
      later_none step period js (Said j ∷ past) c w (not_empty (at_hand past) j),
    )
  where
    not_empty : (xs : List Item) (x : Item) → xs ++ x ∷ [] ≡ [] → ⊥
    not_empty [] x e = absurd cc
    not_empty (y ∷ ys) x e = absurd cc

none_due : (step eid count : ℕ) (items : List Item) (past : List Moment) → HasNone items → last_eid step past ≡ Some eid
    → AreDue step eid count items past
none_due step eid count [] past none h = record { each = tt; after = h }
none_due step eid count (i ∷ is) past none h =
    let rest = none_due step eid count is (Said i ∷ past) none.1
    (eid_after step eid i past h (λ e. absurd (false≢true (sym none.0 ∙ e)))) in
    record { each = ((λ e. absurd (false≢true (sym none.0 ∙ e))), rest.each); after = rest.after }

-- all of its FIG 0/0 are the one that it begins with
first_due : (step period : ℕ) (items : List Item) (e : EnsembleInformation) → IsClean step period (said items [])
    → IsFormed (said items []) → IsSaid items e → AreDue step e.eid e.count items []
first_due step period [] e c w s = absurd (contains_none s.item s.inside)
first_due step period (i ∷ is) e c w s =
    let none : HasNone is = later_none step period is (Said i ∷ []) c w (λ empty. absurd cc) in
    let same : i ≡ s.item = elim (contains_cases i is s.item s.inside) [
      | inl is_one ↦ is_one
      | inr later ↦ absurd (false≢true (sym (each_contains (λ (j : Item). is_ensemble j ≡ false) is s.item none later)
          ∙ s.ensemble))
    ] in
    let ens : is_ensemble i ≡ true = ap is_ensemble same ∙ s.ensemble in
    let says : ensemble_of_item i ≡ e = ap ensemble_of_item same ∙ s.says in
    let eid : last_eid step (Said i ∷ []) ≡ Some e.eid = cc (ens, says) in
    let rest = none_due step e.eid e.count is (Said i ∷ []) none eid in
    record {
      each = (
        (λ x. (
          (plain_ensemble step period [] i (clean_here step period i is [] c) ens).on_step,
          ap (λ (y : EnsembleInformation). y.eid) says,
          ap (λ (y : EnsembleInformation). y.count) says,
        )),
        rest.each,
      );
      after = rest.after;
    }

all_on_step : (step period : ℕ) (items : List Item) (past : List Moment) → IsClean step period (said items past)
    → AllByRecursion (λ (i : Item). is_ensemble i ≡ true → (ensemble_of_item i).count % step ≡ 0) items
all_on_step step period [] past c = tt
all_on_step step period (i ∷ is) past c = (
  (λ e. (plain_ensemble step period past i (clean_here step period i is past c) e).on_step),
  all_on_step step period is (Said i ∷ past) c,
)

zero_on_step : (step : ℕ) → 0 % step ≡ 0
zero_on_step step = grind arith

first_counts : (step period : ℕ) (frame : List Fib) → IsClean step period (said (frame_items frame) [])
    → (o : Option EnsembleInformation) → first_of_frame frame ≡ o → count_in o % step ≡ 0
first_counts step period frame c None is = zero_on_step step
first_counts step period frame c (Some e) is =
    let x = fibs_said true frame e is in
    ap (λ (y : EnsembleInformation). y.count % step) (sym x.says)
    ∙ each_contains (λ (i : Item). is_ensemble i ≡ true → (ensemble_of_item i).count % step ≡ 0) (frame_items frame)
    x.item (all_on_step step period (frame_items frame) [] c) x.inside x.ensemble

placed_on : (step n : ℕ) (e : EnsembleInformation) → e.count % step ≡ 0 → placed_count step n (Some e) ≡ e.count
placed_on step n e on = ap (λ b. cond b e.count n) (eq-eqb (e.count % step) 0 on)

-- ---- the law

pub counts_run_on : FibLaws → CountsRunOn
counts_run_on laws r size step period [] some all f = (0, 0, zero_on_step step, tt)
counts_run_on laws r size step period (fibs ∷ frames) some all f =
    let frame : List Fib = map r.read fibs in
    let clean = all_clean size step period (read_frames r (fibs ∷ frames)) f in
    let free = frame_free size step period [] [] frame (read_frames r frames) f.room f.plain in
    let here : IsClean step period (said (frame_items frame) []) =
    before_frames (IsClean step period) (clean_handed step period) step (read_frames r frames)
    (past_after_frame step [] frame) clean in
    let formed : IsFormed (said (frame_items frame) []) =
    before_frames IsFormed formed_handed step (read_frames r frames) (past_after_frame step [] frame)
    (all_formed r step (fibs ∷ frames)) in
    let o = frame_opens size step None frame some free.itself (first_counts step _ frame here _ refl) in
    let e : EnsembleInformation = o.0 in
    let x : IsSaid (frame_items frame) e = fibs_said true frame e (opening_first frame e o.1) in
    let items = first_due step period (frame_items frame) e here formed x in
    let on : e.count % step ≡ 0 = ap (λ (y : EnsembleInformation). y.count % step) (sym x.says)
    ∙ (each_contains (IsDue step e.eid e.count) (frame_items frame) x.item items.each x.inside x.ensemble).0 in
    let ends : count_of_frame step None frame ≡ e.count =
    ap (placed_count step (count_due None frame)) o.1 ∙ placed_on step (count_due None frame) e on in (
      e.eid,
      e.count,
      on,
      (
        at_count laws r step e.eid e.count fibs all.0 items.each (λ y. (e, x)),
        along laws r size step period e.eid some frames ((e.count + 1) % 5000) (past_after_frame step [] frame)
            (noted_in period [] [] frame) all.1 free.room free.plain clean (ap (λ n. Some ((n + 1) % 5000)) ends)
            items.after,
      ),
    )
