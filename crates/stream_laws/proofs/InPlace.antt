-- The frames of a run and the FIG 0/0 in them are as the checker requires.
use Rattle.stream_laws.proofs.Words.{[], ◌%◌, ◌&&◌, ◌+◌, ◌==◌, ◌∙◌, ◌∷◌, ◌≡◌, ◌≢◌, ◌⊎◌, AllByRecursion, Bool}
use Rattle.stream_laws.proofs.Words.{EnsembleInformation, EnsembleIsHeard, Fib, IsHeadedBy, IsRight, Item, KnownBefore}
use Rattle.stream_laws.proofs.Words.{List, Moment, None, OneList, Option, Plan, Program, Reading, Said, Some, State}
use Rattle.stream_laws.proofs.Words.{after_burst, after_frame, all_append, and_right, ap, arith, begins_with_ensemble}
use Rattle.stream_laws.proofs.Words.{burst, cond, count_due, count_of_frame, count_step, damaged_in, due, effect}
use Rattle.stream_laws.proofs.Words.{effect_of, eid_of, ensemble_of_item, eq-eqb, eqb_tells, false, false≢true, fib_at}
use Rattle.stream_laws.proofs.Words.{first_opening, frame_bytes, frame_fibs, frame_items, inl, inr, instr_at, is_due}
use Rattle.stream_laws.proofs.Words.{is_ensemble, is_first_noticed, is_here, is_in_place, is_long, is_next, is_other}
use Rattle.stream_laws.proofs.Words.{is_placed, is_running, is_there, known_of, lacks_opening, last_eid, layout_mode}
use Rattle.stream_laws.proofs.Words.{le-ltb, length, map, member_eid, ne_eqb, not, placed_count, raw_of, ready, refl}
use Rattle.stream_laws.proofs.Words.{said, settle, shown, shown_count, step, suc, sym, true, with_due_swap, with_swap}
use Rattle.stream_laws.proofs.Words.{zero, ℕ}
use Rattle.plan_code.specs.declared.instr.Instr.{Instr}
use Rattle.plan_code.specs.declared.instr.Instr.TheVariants.{Settle}
use Rattle.stream_check.specs.Stream.{past_after_frame as after_read}
use Rattle.stream_laws.proofs.Rows.{HasNone}
use Rattle.stream_laws.proofs.Findings.{IsFrameFine, IsPlaceFine, Each, each_other, IsWellPlaced}
use Rattle.stream_laws.proofs.Framing.{IsQuiet, header_of, heading_fib, figs_none, fibs_none, later_fibs, first_of_fibs}
use Rattle.stream_laws.proofs.Framing.{later_quiet, read_frame, frame_size, all_quiet}
use Rattle.stream_laws.proofs.Bytes.{is_read}

-- ---- the EId of a run does not change

either_eid : (test : Bool) (s t : State) (x : ℕ) → s.eid ≡ x → t.eid ≡ x → (cond test s t).eid ≡ x
either_eid true s t x here there = here
either_eid false s t x here there = there

settle_eid : (left : Option ℕ) (s : State) → (settle left s).eid ≡ s.eid
settle_eid None s = refl
settle_eid (Some left) s = refl

effect_eid : (plan : Plan) (i : Instr) (s : State) → (effect plan i s).eid ≡ s.eid
effect_eid plan Settle s = settle_eid s.left s
effect_eid plan i s = refl

step_eid : (plan : Plan) (i : Option Instr) (s : State) → (effect_of plan i s).eid ≡ s.eid
step_eid plan None s = refl
step_eid plan (Some i) s = effect_eid plan i s

burst_eid : (most : ℕ) (p : Program) (s : State) → (burst most p s).eid ≡ s.eid
burst_eid zero p s = refl
burst_eid (suc most) p s = either_eid (is_running s.hold) (burst most p (step p s)) s s.eid
    (burst_eid most p (step p s) ∙ step_eid p.plan (instr_at p s.pc) s) refl

pub shown_eid : (p : Program) (s : State) → (shown p s).eid ≡ s.eid
shown_eid p s =
    let t = after_burst p s in
    let swap : (with_due_swap s).eid ≡ s.eid = either_eid (is_due s.left) (with_swap s) s s.eid refl refl in
    let start = either_eid (is_here (with_due_swap s) (with_due_swap s).hold) _ (with_due_swap s) s.eid swap swap in
    let same : t.eid ≡ s.eid = burst_eid p.plan.budget p (ready s) ∙ start in
    either_eid (is_first_noticed p.plan.notice t.left) _ t s.eid same same

-- ---- a frame with FIG 0/0

pub record IsHeaded (frame : List Fib) (e : EnsembleInformation) : Type 0 where
  pub head : Item
  pub rest : List Item
  pub are : frame_items frame ≡ head ∷ rest
  pub first : head.first ≡ true
  pub ensemble : is_ensemble head ≡ true
  pub says : ensemble_of_item head ≡ e
  pub none : HasNone rest
  pub whole : damaged_in frame ≡ 0
  pub lacks : lacks_opening frame ≡ false
  pub opens : first_opening frame ≡ Some e

pub none_damaged : (fibs : List Fib) → AllByRecursion IsQuiet fibs → damaged_in fibs ≡ 0
none_damaged [] all = refl
none_damaged (f ∷ fs) all = ap (λ b. cond b 1 0 + damaged_in fs) all.0.whole ∙ ap (λ n. 0 + n) (none_damaged fs all.1)

pub headed_frame : OneList → EnsembleIsHeard → (r : Reading) (plan : Plan) (u : State) (frame : List ℕ)
    → IsRight plan u frame → (h : IsHeadedBy plan u (fib_at frame 0))
    → IsHeaded (read_frame r plan.layout frame) h.information
headed_frame one heard r plan u frame right h =
    let first : List ℕ = fib_at frame 0 in
    let later : List Fib = map r.read (later_fibs plan.layout frame) in
    let quiet = later_quiet one r plan u frame right in
    let heads = heading_fib one heard r plan u first h in
    let fig = header_of heard plan u first h in
    let read = is_read one r first (h.header ∷ h.others) h.first ∙ ap (λ f. Some (f ∷ h.others)) fig.is in
    let begin = ap (map r.read) (first_of_fibs plan.layout frame) in
    record {
      head = record {
        first = true;
        next = is_next fig.second;
        raw = raw_of (fig.second % 32) (is_long fig.second) fig.bytes;
      };
      rest = _;
      are = ap frame_items (begin ∙ ap (λ f. f ∷ later) read);
      first = refl;
      ensemble = eq-eqb (fig.second % 32) 0 fig.ext;
      says = fig.says;
      none = all_append (λ i. is_ensemble i ≡ false) _ _ (figs_none _ _ h.alone) (fibs_none _ _ quiet);
      whole = ap damaged_in begin ∙ ap (λ b. cond b 1 0 + damaged_in later) heads.whole
          ∙ ap (λ n. 0 + n) (none_damaged later quiet);
      lacks = ap lacks_opening begin ∙ ap (λ b. not b && not (begins_with_ensemble (r.read first))) heads.whole
          ∙ ap (λ o. not (is_there o)) heads.opens;
      opens = ap first_opening begin ∙ heads.opens;
    }

-- ---- what is known before a frame

-- nothing, or the count and the EId of the state
abbrev IsDue : ℕ → List Moment → State → Type 0
IsDue step past s = ((due past ≡ None) × (last_eid step past ≡ None))
    ⊎ ((due past ≡ Some s.count) × (last_eid step past ≡ Some s.eid))

not_other : (n m : ℕ) (o : Option ℕ) → (o ≡ None) ⊎ (o ≡ Some m) → n ≡ m → is_other n o ≡ false
not_other n m o (inl none) e = ap (is_other n) none
not_other n m o (inr some) e = ap (is_other n) some ∙ ap not (eq-eqb n m e)

-- FIG 0/0 in place
placed : (step period : ℕ) (past : List Moment) (s : State) (first : Bool) (e : EnsembleInformation) → IsDue step past s
    → first ≡ true → e.count ≡ s.count → e.eid ≡ s.eid → s.count % step ≡ 0
    → IsPlaceFine (known_of step period past) first e
placed step period past s first e known one count eid on =
    let k : KnownBefore = known_of step period past in
    let last : (due past ≡ None) ⊎ (due past ≡ Some s.count) =
    elim known [ inl none ↦ inl none.0 | inr some ↦ inr some.0 ] in
    let ensemble : (last_eid step past ≡ None) ⊎ (last_eid step past ≡ Some s.eid) =
    elim known [ inl none ↦ inl none.1 | inr some ↦ inr some.1 ] in
    record {
      eid = and_right (is_placed k first e) _ (not_other e.eid s.eid (last_eid step past) ensemble eid);
      count = and_right (is_placed k first e) _ (not_other e.count s.count (due past) last count);
      placed = ap (λ b. b && (e.count % step == 0)) one ∙ (eq-eqb (e.count % step) 0 (ap (λ n. n % step) count ∙ on));
    }

-- the frame as a whole
whole_frame : (size step : ℕ) (last : Option ℕ) (frame : List Fib) → length frame ≡ size → damaged_in frame ≡ 0
    → (count_due last frame % step == 0 && lacks_opening frame) ≡ false → IsFrameFine size step last frame
whole_frame size step last frame same whole there = record {
  full = le-ltb (length frame) size (omega (arith, same));
  whole = le-ltb 0 (damaged_in frame) (omega (arith, whole));
  opens = there;
}

-- entries other than FIG 0/0 have no place
none_placed : (step period : ℕ) (items : List Item) (past : List Moment) → HasNone items
    → Each (IsWellPlaced step period) past items
none_placed step period items past none =
    each_other (IsWellPlaced step period) (λ before i other ens. absurd (false≢true (sym other ∙ ens))) items past none

said_eid : (step : ℕ) (items : List Item) (past : List Moment) → HasNone items
    → last_eid step (said items past) ≡ last_eid step past
said_eid step [] past none = refl
said_eid step (i ∷ is) past none = said_eid step is (Said i ∷ past) none.1 ∙ sym (member_eid step past i none.0)

-- the frame and the place of its FIG 0/0, and what is known after it
pub record IsRightFrame (size step period : ℕ) (past : List Moment) (frame : List Fib) (count eid : ℕ) : Type 0 where
  pub whole : IsFrameFine size step (due past) frame
  pub place : Each (IsWellPlaced step period) past (frame_items frame)
  pub counted : count_of_frame step (due past) frame ≡ count
  pub same : last_eid step (after_read step past frame) ≡ Some eid

head_eid : (step : ℕ) (i : Item) (s : State) (o : Option ℕ) → is_ensemble i ≡ true → (ensemble_of_item i).eid ≡ s.eid
    → (o ≡ None) ⊎ (o ≡ Some s.eid) → eid_of step i o ≡ Some s.eid
head_eid step i s o e same (inl none) = cc (none, e, same)
head_eid step i s o e same (inr some) = ap (eid_of step i) some ∙ either (is_in_place step i)
  where
    either : (b : Bool) → cond b (Some (ensemble_of_item i).eid) (Some s.eid) ≡ Some s.eid
    either true = ap Some same
    either false = refl

with_header : (size step period : ℕ) (past : List Moment) (s : State) (frame : List Fib) (e : EnsembleInformation)
    → length frame ≡ size → IsHeaded frame e → IsDue step past s
    → e.count ≡ s.count → e.eid ≡ s.eid → s.count % step ≡ 0 → IsRightFrame size step period past frame s.count s.eid
with_header size step period past s frame e len h known count eid on =
    let head_count = ap (λ (x : EnsembleInformation). x.count) h.says ∙ count in
    let head_same : (ensemble_of_item h.head).eid ≡ s.eid = ap (λ (x : EnsembleInformation). x.eid) h.says ∙ eid in
    let place = placed step period past s h.head.first (ensemble_of_item h.head) known h.first head_count head_same
    on in
    let ensemble : (last_eid step past ≡ None) ⊎ (last_eid step past ≡ Some s.eid) =
    elim known [ inl none ↦ inl none.1 | inr some ↦ inr some.1 ] in
    record {
      whole = whole_frame _ _ _ _ len h.whole (and_right _ _ h.lacks);
      place = rw h.are ((λ ens. place), none_placed step period h.rest (Said h.head ∷ past) h.none);
      counted = ap (placed_count step (count_due (due past) frame)) h.opens
          ∙ ap (λ t. cond t e.count (count_due (due past) frame))
          (eq-eqb (e.count % step) 0 (ap (λ n. n % step) count ∙ on)) ∙ count;
      same = ap (λ is. last_eid step (said is past)) h.are ∙ said_eid step h.rest (Said h.head ∷ past) h.none
          ∙ head_eid step h.head s (last_eid step past) h.ensemble head_same ensemble;
    }

quiet_opening : (frame : List Fib) → AllByRecursion IsQuiet frame → first_opening frame ≡ None
quiet_opening [] all = refl
quiet_opening (f ∷ fs) all = all.0.opens

without_header : (size step period : ℕ) (past : List Moment) (s : State) (frame : List Fib) → length frame ≡ size
    → AllByRecursion IsQuiet frame → (due past ≡ Some s.count) × (last_eid step past ≡ Some s.eid)
    → s.count % step ≢ 0 → IsRightFrame size step period past frame s.count s.eid
without_header size step period past s frame len quiet known off =
    let none = fibs_none true frame quiet in
    let count : count_due (due past) frame ≡ s.count = ap (λ o. count_due o frame) known.0 in
    record {
      whole = whole_frame size step (due past) frame len (none_damaged frame quiet)
          (ap (λ b. b && lacks_opening frame) (ap (λ n. n % step == 0) count ∙ ne_eqb (s.count % step) 0 off));
      place = none_placed step period (frame_items frame) past none;
      counted = ap (placed_count step (count_due (due past) frame)) (quiet_opening frame quiet) ∙ count;
      same = said_eid step (frame_items frame) past none ∙ known.1;
    }

-- ---- along a run

-- before the first frame, or after it
abbrev pub IsBegun : ℕ → List Moment → State → Type 0
IsBegun step past s = ((due past ≡ None) × (last_eid step past ≡ None) × (s.count % step ≡ 0))
    ⊎ ((due past ≡ Some s.count) × (last_eid step past ≡ Some s.eid))

pub frame_right : OneList → EnsembleIsHeard → (r : Reading) (p : Program) (s : State) (period : ℕ) (past : List Moment)
    → IsRight p.plan (shown p s) (frame_bytes p s) → IsBegun (count_step (layout_mode p.plan.layout)) past s
    → IsRightFrame (frame_fibs p.plan.layout) (count_step (layout_mode p.plan.layout)) period past
    (read_frame r p.plan.layout (frame_bytes p s)) s.count s.eid
frame_right one heard r p s period past right known =
    let step : ℕ = count_step (layout_mode p.plan.layout) in
    let size = frame_size r p.plan.layout (frame_bytes p s) in
    let count = shown_count p s in
    elim (eqb_tells (s.count % step) 0) [
      | inl on ↦
          let h = right.headed (ap (λ n. n % step) count ∙ on.1) in
          let before : IsDue step past s = elim known [ inl none ↦ inl (none.0, none.1) | inr some ↦ inr some ] in
          with_header (frame_fibs p.plan.layout) step period past s (read_frame r p.plan.layout (frame_bytes p s))
          h.information size
          (headed_frame one heard r p.plan (shown p s) (frame_bytes p s) right h) before (h.right.count ∙ count)
          (h.right.eid ∙ shown_eid p s) on.1
      | inr off ↦
          let off_now : (shown p s).count % step ≢ 0 = λ e. off.1 (ap (λ n. n % step) (sym count) ∙ e) in
          let before : (due past ≡ Some s.count) × (last_eid step past ≡ Some s.eid) =
          elim known [ inl none ↦ absurd (off.1 none.2) | inr some ↦ some ] in
          without_header (frame_fibs p.plan.layout) step period past s (read_frame r p.plan.layout (frame_bytes p s))
          size
          (all_quiet one r p.plan (shown p s) (frame_bytes p s) right off_now) before off.1
    ]

-- one frame later
pub begun_after : (p : Program) (s : State) (size period : ℕ) (past : List Moment) (frame : List Fib)
    → IsRightFrame size (count_step (layout_mode p.plan.layout)) period past frame s.count s.eid
    → (due (after_read (count_step (layout_mode p.plan.layout)) past frame) ≡ Some (after_frame p s).count)
    × (last_eid (count_step (layout_mode p.plan.layout))
    (after_read (count_step (layout_mode p.plan.layout)) past frame) ≡ Some (after_frame p s).eid)
begun_after p s size period past frame h =
    let count : (after_frame p s).count ≡ (s.count + 1) % 5000 = ap (λ n. (n + 1) % 5000) (shown_count p s) in (
      ap (λ n. Some ((n + 1) % 5000)) h.counted ∙ ap Some (sym count),
      h.same ∙ ap Some (sym (shown_eid p s)),
    )
