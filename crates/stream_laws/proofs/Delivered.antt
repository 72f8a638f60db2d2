-- What is reported in the bytes of a run, and in any piece of them.
use Rattle.stream_laws.proofs.Words.{[], ◌%◌, ◌*◌, ◌++◌, ◌+◌, ◌-◌, ◌/◌, ◌∙◌, ◌∷◌, ◌≡◌, ◌≢◌, ◌≤◌, ◌⊎◌, All}
use Rattle.stream_laws.proofs.Words.{AllByRecursion, Bool, Contact, EnsembleIsHeard, Event, Fib, Finding, Frame}
use Rattle.stream_laws.proofs.Words.{FramesAreRight, HeadlineHolds, IsFaultless, IsFramed, IsPieceOf, IsRight, List}
use Rattle.stream_laws.proofs.Words.{OneList, Plan, Program, Reading, RunsAreCleared, RunsAreFaultless, RunsAreFramed}
use Rattle.stream_laws.proofs.Words.{RunsAreHeardOut, State, after_frame, all_append, ap, append-nil, append_assoc}
use Rattle.stream_laws.proofs.Words.{append_cancel_left, append_cancel_right, arith, concat, concat-append, cond}
use Rattle.stream_laws.proofs.Words.{count_step, damaged_in, drop, drop-append-le, drop-append_seam, drop-nil, drop_all}
use Rattle.stream_laws.proofs.Words.{eqb_tells, false, false≢true, fib_at, fibs_from, fibs_of, flat_map, frame_bytes}
use Rattle.stream_laws.proofs.Words.{frame_fibs, frames_of, front_framing, happens, inl, inr, is_damaged, layout_mode}
use Rattle.stream_laws.proofs.Words.{length, length-append, length-drop, length-map, length-take-le, map, map-append}
use Rattle.stream_laws.proofs.Words.{none_more, read_frames, refl, run, run_frames, same_skipped, shown, shown_count}
use Rattle.stream_laws.proofs.Words.{subst, suc, sym, take-append-drop, zero, ℕ}
use Rattle.fib_codec.proofs.Uniqueness.{same_front}
use Rattle.plan_runs.specs.TypedRuns.{IsPlayed}
use Rattle.stream_laws.proofs.Clean.{all_right, faultless_before}
use Rattle.stream_laws.proofs.Framing.{IsQuiet, later_fibs, first_of_fibs, later_quiet, all_quiet, none_held}
use Rattle.stream_laws.proofs.Framing.{are_frames, begins, flat_read, read_frame, quiet_fib, heading_fib, right_after}
use Rattle.stream_laws.proofs.InPlace.{none_damaged}

abbrev AreWhole : List (List ℕ) → Type 0
AreWhole fibs = AllByRecursion (λ fib. length fib ≡ 32) fibs

-- ---- the FIBs of frames have the bytes of the frames

record AreFibsOf (fibs : List (List ℕ)) (bytes : List ℕ) : Type 0 where
  whole : AreWhole fibs
  bytes_are : concat fibs ≡ bytes

cut_from : (count n : ℕ) (frame : List ℕ) → length frame ≡ 32 * (n + count)
    → AreFibsOf (fibs_from count n frame) (drop (32 * n) frame)
cut_from zero n frame len = record { whole = tt; bytes_are = sym (drop_all (32 * n) frame (omega (arith, len))) }
cut_from (suc count) n frame len =
    let rest = cut_from count (n + 1) frame (omega (arith, len)) in
    let left : length (drop (32 * n) frame) ≡ length frame - 32 * n = length-drop (32 * n) frame in
    let size : length (fib_at frame n) ≡ 32 = length-take-le 32 (drop (32 * n) frame) (omega (arith, left, len)) in
    let twice : drop 32 (drop (32 * n) frame) ≡ drop (32 * (n + 1)) frame =
    drop_twice 32 (32 * n) frame
    ∙ (let same : 32 + 32 * n ≡ 32 * (n + 1) = omega arith in ap (λ k. drop k frame) same) in
    record {
      whole = (size, rest.whole);
      bytes_are = ap (λ l. fib_at frame n ++ l) (rest.bytes_are ∙ sym twice)
          ∙ take-append-drop 32 (drop (32 * n) frame);
    }
  where
    drop_twice : (a b : ℕ) (xs : List ℕ) → drop a (drop b xs) ≡ drop (a + b) xs
    drop_twice a zero xs = (let same : a ≡ a + 0 = omega arith in ap (λ k. drop k xs) same)
    drop_twice a (suc b) [] = ap (drop a) (drop-nil (suc b)) ∙ drop-nil a ∙ sym (drop-nil (a + suc b))
    drop_twice a (suc b) (x ∷ xs) =
        drop_twice a b xs ∙ (let same : suc (a + b) ≡ a + suc b = omega arith in ap (λ k. drop k (x ∷ xs)) same)

fibs_are : (p : Program) (s : State) (events : List Event) → FramesAreRight p s events
    → AreFibsOf (fibs_of p.plan.layout (run_frames p s events)) (concat (run_frames p s events))
fibs_are p s [] all = record { whole = tt; bytes_are = refl }
fibs_are p s (Contact c closed ∷ es) all = fibs_are p (happens p s (Contact c closed)) es all
fibs_are p s (Frame ∷ es) all =
    let here = cut_from (frame_fibs p.plan.layout) 0 (frame_bytes p s) (omega arith) in
    let rest = fibs_are p (after_frame p s) es all.1 in
    record {
      whole = all_append (λ fib. length fib ≡ 32) (fibs_from (frame_fibs p.plan.layout) 0 (frame_bytes p s))
          (fibs_of p.plan.layout (run_frames p (after_frame p s) es)) here.whole rest.whole;
      bytes_are = concat-append (fibs_from (frame_fibs p.plan.layout) 0 (frame_bytes p s))
          (fibs_of p.plan.layout (run_frames p (after_frame p s) es))
          ∙ ap (λ l. l ++ concat (fibs_of p.plan.layout (run_frames p (after_frame p s) es))) here.bytes_are
          ∙ ap (λ l. frame_bytes p s ++ l) rest.bytes_are;
    }

-- ---- pieces

front_of : (xs fibs : List (List ℕ)) (after : List ℕ) → AreWhole xs → AreWhole fibs → concat xs ≡ concat fibs ++ after
    → (more : List (List ℕ)) × (xs ≡ fibs ++ more)
front_of xs [] after whole sizes e = (xs, refl)
front_of [] (f ∷ fs) after whole sizes e =
    let len : 0 ≡ length f + (length (concat fs) + length after) =
    ap length e ∙ length-append (f ++ concat fs) after ∙ ap (λ n. n + length after) (length-append f (concat fs))
    ∙ omega arith in
    let size : length f ≡ 32 = sizes.0 in
    absurd (omega (arith, len, size))
front_of (x ∷ xs) (f ∷ fs) after whole sizes e =
    let both = same_front _ _ _ _ (whole.0 ∙ sym sizes.0) (e ∙ append_assoc f (concat fs) after) in
    let rest = front_of xs fs after whole.1 sizes.1 both.1 in
    (rest.0, ap (λ z. z ∷ xs) both.0 ∙ ap (λ l. f ∷ l) rest.1)

record IsAmong (xs fibs : List (List ℕ)) : Type 0 where
  before : List (List ℕ)
  after : List (List ℕ)
  whole : xs ≡ before ++ (fibs ++ after)

among : (q : ℕ) (xs fibs : List (List ℕ)) (before after : List ℕ) → AreWhole xs → AreWhole fibs → length before ≡ 32 * q
    → concat xs ≡ before ++ (concat fibs ++ after) → IsAmong xs fibs
among zero xs fibs [] after whole sizes len e =
    (let front = front_of xs fibs after whole sizes e in record { before = []; after = front.0; whole = front.1 })
among zero xs fibs (b ∷ bs) after whole sizes len e = absurd (omega (arith, len))
among (suc q) [] fibs before after whole sizes len e =
    let none = ap length e ∙ length-append before (concat fibs ++ after) in
    absurd (omega (arith, none, len))
among (suc q) (x ∷ xs) fibs before after whole sizes len e =
    let size : length x ≡ 32 = whole.0 in
    let left = sym (drop-append_seam x (concat xs)) ∙ ap (λ n. drop n (x ++ concat xs)) size in
    let right = drop-append-le 32 before (concat fibs ++ after) (omega (arith, len)) in
    let less : length (drop 32 before) ≡ length before - 32 = length-drop 32 before in
    let rest = among q xs fibs (drop 32 before) after whole.1 sizes (omega (arith, less, len))
    (left ∙ ap (drop 32) e ∙ right) in
    record { before = x ∷ rest.before; after = rest.after; whole = ap (λ l. x ∷ l) rest.whole }

-- of the FIBs of a run
pub record IsPieceOfRun (p : Program) (s : State) (events : List Event) (fibs : List (List ℕ)) : Type 0 where
  pub before : List (List ℕ)
  pub after : List (List ℕ)
  pub whole : fibs_of p.plan.layout (run_frames p s events) ≡ before ++ (fibs ++ after)

pub piece_of_run : (p : Program) (s : State) (events : List Event) (fibs : List (List ℕ)) → FramesAreRight p s events
    → IsPieceOf (concat (run_frames p s events)) fibs → IsPieceOfRun p s events fibs
piece_of_run p s events fibs right piece =
    let cut = fibs_are p s events right in
    let len : length piece.before ≡ 32 * (length piece.before / 32) = omega arith in
    let one = among (length piece.before / 32) (fibs_of p.plan.layout (run_frames p s events)) fibs piece.before
    piece.after cut.whole piece.sizes len (cut.bytes_are ∙ piece.whole) in
    record { before = one.before; after = one.after; whole = one.whole }

-- all FIBs of a run are those of its bytes
pub all_of_run : (p : Program) (s : State) (events : List Event) (fibs : List (List ℕ)) → FramesAreRight p s events
    → AllByRecursion (λ fib. length fib ≡ 32) fibs → concat fibs ≡ concat (run_frames p s events)
    → fibs ≡ fibs_of p.plan.layout (run_frames p s events)
all_of_run p s events fibs right sizes bytes =
    let cut = fibs_are p s events right in
    let front = front_of (fibs_of p.plan.layout (run_frames p s events)) fibs [] cut.whole sizes
    (cut.bytes_are ∙ sym bytes ∙ sym (append-nil (concat fibs))) in
    let back = front_of fibs (fibs_of p.plan.layout (run_frames p s events)) [] sizes cut.whole
    (bytes ∙ sym cut.bytes_are ∙ sym (append-nil (concat (fibs_of p.plan.layout (run_frames p s events))))) in
    none_more fibs (fibs_of p.plan.layout (run_frames p s events)) front.0 back.0 front.1 back.1

-- ---- a run, from any of its FIBs on

-- FIBs without a FIG 0/0, and then the frames of the run from one with a FIG 0/0 on, if there is one
record IsEnd (r : Reading) (p : Program) (s : State) (rest : List (List ℕ)) : Type 0 where
  skipped : List (List ℕ)
  waiting : List Event
  later : List Event
  quiet : AllByRecursion IsQuiet (map r.read skipped)
  whole : rest ≡ skipped ++ fibs_of p.plan.layout (run_frames p (run p s waiting) later)
  right : FramesAreRight p (run p s waiting) later
  begun : ((run p s waiting).count % count_step (layout_mode p.plan.layout) ≡ 0) ⊎ (later ≡ [])

after_event : (r : Reading) (p : Program) (s : State) (e : Event) (rest : List (List ℕ))
    → IsEnd r p (happens p s e) rest → IsEnd r p s rest
after_event r p s e rest h = record {
  skipped = h.skipped;
  waiting = e ∷ h.waiting;
  later = h.later;
  quiet = h.quiet;
  whole = h.whole;
  right = h.right;
  begun = h.begun;
}

after_quiet : (r : Reading) (p : Program) (s : State) (fibs rest : List (List ℕ))
    → AllByRecursion IsQuiet (map r.read fibs) → IsEnd r p s rest → IsEnd r p s (fibs ++ rest)
after_quiet r p s fibs rest quiet h = record {
  skipped = fibs ++ h.skipped;
  waiting = h.waiting;
  later = h.later;
  quiet = subst (AllByRecursion IsQuiet) (sym (map-append r.read fibs h.skipped)) (all_append _ _ _ quiet h.quiet);
  whole = ap (λ l. fibs ++ l) h.whole
      ∙ sym (append_assoc fibs h.skipped (fibs_of p.plan.layout (run_frames p (run p s h.waiting) h.later)));
  right = h.right;
  begun = h.begun;
}

-- where the first of two lists of FIBs ends
record IsWithin (xs ys us vs : List (List ℕ)) : Type 0 where
  middle : List (List ℕ)
  first : xs ≡ us ++ middle
  second : vs ≡ middle ++ ys

seam : (xs ys us vs : List (List ℕ)) → xs ++ ys ≡ us ++ vs → IsWithin xs ys us vs ⊎ IsWithin us vs xs ys
seam [] ys us vs e = inr (record { middle = us; first = refl; second = e })
seam (x ∷ xs) ys [] vs e = inl (record { middle = x ∷ xs; first = refl; second = sym e })
seam (x ∷ xs) ys (u ∷ us) vs e =
    let heads : x ≡ u = cc in
    elim (seam xs ys us vs cc) [
      | inl w ↦ inl (record {
        middle = w.middle;
        first = ap (λ z. z ∷ xs) heads ∙ ap (λ l. u ∷ l) w.first;
        second = w.second;
      })
      | inr w ↦ inr (record {
        middle = w.middle;
        first = ap (λ z. z ∷ us) (sym heads) ∙ ap (λ l. x ∷ l) w.first;
        second = w.second;
      })
    ]

-- from the first FIB on
from_first : OneList → (r : Reading) (p : Program) (s : State) (events : List Event) → FramesAreRight p s events
    → IsEnd r p s (fibs_of p.plan.layout (run_frames p s events))
from_first one r p s [] all = record {
  skipped = [];
  waiting = [];
  later = [];
  quiet = tt;
  whole = refl;
  right = tt;
  begun = inr refl;
}
from_first one r p s (Contact c closed ∷ es) all =
    after_event r p s (Contact c closed) _ (from_first one r p (happens p s (Contact c closed)) es all)
from_first one r p s (Frame ∷ es) all = elim (eqb_tells (s.count % count_step (layout_mode p.plan.layout)) 0) [
  | inl on ↦ record {
    skipped = [];
    waiting = [];
    later = Frame ∷ es;
    quiet = tt;
    whole = refl;
    right = all;
    begun = inl on.1;
  }
  | inr off ↦
      let not_now : (shown p s).count % count_step (layout_mode p.plan.layout) ≢ 0 =
      λ e. off.1 (ap (λ n. n % count_step (layout_mode p.plan.layout)) (sym (shown_count p s)) ∙ e) in
      after_quiet r p s (fibs_from (frame_fibs p.plan.layout) 0 (frame_bytes p s))
      (fibs_of p.plan.layout (run_frames p (after_frame p s) es))
      (all_quiet one r p.plan (shown p s) (frame_bytes p s) all.0 not_now)
      (after_event r p s Frame _ (from_first one r p (after_frame p s) es all.1))
]

-- from one after these on
from_any : OneList → (r : Reading) (p : Program) (s : State) (events : List Event) (before rest : List (List ℕ))
    → FramesAreRight p s events
    → fibs_of p.plan.layout (run_frames p s events) ≡ before ++ rest → IsEnd r p s rest
from_any one r p s events [] rest all e = subst (IsEnd r p s) e (from_first one r p s events all)
from_any one r p s [] (b ∷ bs) rest all e = absurd cc
from_any one r p s (Contact c closed ∷ es) (b ∷ bs) rest all e =
    after_event r p s (Contact c closed) rest (from_any one r p (happens p s (Contact c closed)) es (b ∷ bs) rest all e)
from_any one r p s (Frame ∷ es) (b ∷ bs) rest all e =
    let frame : List ℕ = frame_bytes p s in
    let more : List (List ℕ) = fibs_of p.plan.layout (run_frames p (after_frame p s) es) in
    let cut = ap (λ l. l ++ more) (sym (first_of_fibs p.plan.layout frame)) ∙ e in
    elim (seam (later_fibs p.plan.layout frame) more bs rest (tail_is cut)) [
      | inl w ↦
          let quiet : AllByRecursion IsQuiet (map r.read (bs ++ w.middle)) =
          rw (← w.first) (later_quiet one r p.plan (shown p s) frame all.0) in
          let last : AllByRecursion IsQuiet (map r.read w.middle) =
          all_right IsQuiet (map r.read bs) (map r.read w.middle) (rw (← map-append r.read bs w.middle) quiet) in
          subst (IsEnd r p s) (sym w.second)
          (after_quiet r p s w.middle more last
          (after_event r p s Frame more (from_first one r p (after_frame p s) es all.1)))
      | inr w ↦ after_event r p s Frame rest (from_any one r p (after_frame p s) es w.middle rest all.1 w.second)
    ]
  where
    tail_is : {x y : List ℕ} {xs ys : List (List ℕ)} → x ∷ xs ≡ y ∷ ys → xs ≡ ys
    tail_is k = cc

-- ---- its frames

record IsEndFramed (r : Reading) (p : Program) (period : ℕ) (rest : List (List ℕ)) : Type 0 where
  skipped : List Fib
  frames : List (List Fib)
  framed : IsFramed (frame_fibs p.plan.layout) (map r.read rest) skipped frames []
  faultless : IsFaultless (frame_fibs p.plan.layout) (count_step (layout_mode p.plan.layout)) period frames

end_framed : OneList → EnsembleIsHeard → RunsAreFaultless
    → (r : Reading) (p : Program) (s : State) (period : ℕ) (rest : List (List ℕ)) → IsPlayed p s
    → 2 * p.plan.period ≤ period + 1
    → IsEnd r p s rest → IsEndFramed r p period rest
end_framed one heard plain r p s period rest played long h = by h.begun
  where
    t : State
    t = run p s h.waiting

    frames_are : List (List Fib)
    frames_are = read_frames r (frames_of p.plan.layout (run_frames p t h.later))

    fibs : List (List ℕ)
    fibs = fibs_of p.plan.layout (run_frames p t h.later)

    whole : map r.read rest ≡ map r.read h.skipped ++ (flat_map (λ f. f) frames_are ++ [])
    whole = ap (map r.read) h.whole ∙ map-append r.read h.skipped fibs
        ∙ ap (λ xs. map r.read h.skipped ++ xs) (flat_read r p.plan.layout (run_frames p t h.later)
        ∙ sym (append-nil (flat_map (λ f. f) frames_are)))

    by : ((t.count % count_step (layout_mode p.plan.layout) ≡ 0) ⊎ (h.later ≡ [])) → IsEndFramed r p period rest
    by (inl on) = record {
      skipped = map r.read h.skipped;
      frames = frames_are;
      framed = record {
        whole = whole;
        before = none_held (map r.read h.skipped) h.quiet;
        begun = begins one heard r p t h.later h.right on;
        cut = are_frames one r p t h.later h.right;
      };
      faultless = plain r p s period h.waiting h.later played on long;
    }
    by (inr none) =
        let no_frames : frames_are ≡ [] = ap (λ es. read_frames r (frames_of p.plan.layout (run_frames p t es))) none in
        record {
          skipped = map r.read h.skipped;
          frames = [];
          framed = record {
            whole = whole ∙ ap (λ fs. map r.read h.skipped ++ (flat_map (λ f. f) fs ++ [])) no_frames;
            before = none_held (map r.read h.skipped) h.quiet;
            begun = tt;
            cut = tt;
          };
          faultless = record { room = refl; plain = tt };
        }

-- ---- a checker of a piece

pub all_of : (xs ys : List Finding) → All xs ≡ All ys → xs ≡ ys
all_of xs ys e = cc

pub runs_are_cleared : OneList → EnsembleIsHeard → HeadlineHolds → RunsAreFaultless → RunsAreCleared
runs_are_cleared one heard headline plain r p s period events fibs played long given =
    let right : FramesAreRight p s events = (headline p s events played).right in
    let piece = piece_of_run p s events fibs right given in
    let end = end_framed one heard plain r p s period (fibs ++ piece.after) played long
    (from_any one r p s events piece.before (fibs ++ piece.after) right piece.whole) in
    let framed : IsFramed (frame_fibs p.plan.layout) (map r.read fibs ++ map r.read piece.after) end.skipped end.frames
    [] = rw (← map-append r.read fibs piece.after) end.framed in
    let front : (skipped : List Fib) (frames : List (List Fib)) (rest : List Fib)
    → IsFramed (frame_fibs p.plan.layout) (map r.read fibs) skipped frames rest
    → IsFaultless (frame_fibs p.plan.layout) (count_step (layout_mode p.plan.layout)) period frames =
    λ skipped frames rest f.
    let more = front_framing (frame_fibs p.plan.layout) (map r.read fibs) (map r.read piece.after) skipped end.skipped
    frames end.frames rest [] f framed in
    faultless_before (frame_fibs p.plan.layout) (count_step (layout_mode p.plan.layout)) period frames more.0
    (subst (IsFaultless (frame_fibs p.plan.layout) (count_step (layout_mode p.plan.layout)) period) more.1
    end.faultless) in
    record {
      room = λ start reported e. false≢true (sym (front e.skipped e.frames e.rest e.framed).room ∙ e.full);
      events = λ start reported c f. (front f.skipped f.frames (map r.read c.held) f.framed).plain;
      plain = λ found c f. rw (all_of found _ f.findings) (front f.skipped f.frames (map r.read c.held) f.framed).plain;
    }

-- ---- a stream is cut in one way

record AreCutAlike (skipped later : List Fib) (f g : List (List Fib)) (r s : List Fib) : Type 0 where
  skips : skipped ≡ later
  frames : f ≡ g
  rests : r ≡ s

one_framing : (size : ℕ) (stream skipped later : List Fib) (f g : List (List Fib)) (r s : List Fib)
    → IsFramed size stream skipped f r → IsFramed size stream later g s → AreCutAlike skipped later f g r s
one_framing size stream skipped later f g r s a b =
    let more = front_framing size stream [] skipped later f g r s a (rw (append-nil stream) b) in
    let less = front_framing size stream [] later skipped g f s r b (rw (append-nil stream) a) in
    let frames : f ≡ g = none_more f g more.0 less.0 more.1 less.1 in
    let whole : skipped ++ (flat_map (λ x. x) f ++ r) ≡ later ++ (flat_map (λ x. x) g ++ s) = sym a.whole ∙ b.whole in
    let same : flat_map (λ x. x) f ++ r ≡ flat_map (λ x. x) g ++ s =
    (same_skipped _ _ _ _ a.before b.before a.begun b.begun whole).rest in
    record {
      skips = append_cancel_right skipped later (flat_map (λ x. x) g ++ s) (ap (λ l. skipped ++ l) (sym same) ∙ whole);
      frames = frames;
      rests = append_cancel_left (flat_map (λ x. x) f) r s (same ∙ ap (λ fs. flat_map (λ x. x) fs ++ s) (sym frames));
    }

-- ---- no FIB of a run is damaged

abbrev one_if : Bool → ℕ
one_if b = cond b 1 0

whole_more : (xs ys : List Fib) → damaged_in xs ≡ 0 → damaged_in ys ≡ 0 → damaged_in (xs ++ ys) ≡ 0
whole_more [] ys a b = b
whole_more (x ∷ xs) ys a b = (let rest = whole_more xs ys (omega (arith, a)) b in omega (arith, a, rest))

first_whole : OneList → EnsembleIsHeard → (r : Reading) (plan : Plan) (u : State) (frame : List ℕ)
    → IsRight plan u frame → is_damaged (r.read (fib_at frame 0)) ≡ false
first_whole one heard r plan u frame right = elim (eqb_tells (u.count % count_step (layout_mode plan.layout)) 0) [
  | inl on ↦ (heading_fib one heard r plan u (fib_at frame 0) (right.headed on.1)).whole
  | inr off ↦ (quiet_fib one r (fib_at frame 0) (right.unheaded off.1)).whole
]

frame_whole : OneList → EnsembleIsHeard → (r : Reading) (plan : Plan) (u : State) (frame : List ℕ)
    → IsRight plan u frame → damaged_in (read_frame r plan.layout frame) ≡ 0
frame_whole one heard r plan u frame right =
    let first = ap one_if (first_whole one heard r plan u frame right) in
    let later = none_damaged (map r.read (later_fibs plan.layout frame)) (later_quiet one r plan u frame right) in
    ap (λ fs. damaged_in (map r.read fs)) (first_of_fibs plan.layout frame) ∙ omega (arith, first, later)

run_whole : OneList → EnsembleIsHeard → (r : Reading) (p : Program) (s : State) (events : List Event)
    → FramesAreRight p s events
    → damaged_in (flat_map (λ f. f) (read_frames r (frames_of p.plan.layout (run_frames p s events)))) ≡ 0
run_whole one heard r p s [] all = refl
run_whole one heard r p s (Contact c closed ∷ es) all = run_whole one heard r p (happens p s (Contact c closed)) es all
run_whole one heard r p s (Frame ∷ es) all =
    whole_more (read_frame r p.plan.layout (frame_bytes p s))
    (flat_map (λ f. f) (read_frames r (frames_of p.plan.layout (run_frames p (after_frame p s) es))))
    (frame_whole one heard r p.plan (shown p s) (frame_bytes p s) all.0)
    (run_whole one heard r p (after_frame p s) es all.1)

-- ---- the law

no_rest : (r : Reading) (held : List (List ℕ)) → map r.read held ≡ [] → held ≡ []
no_rest r [] e = refl
no_rest r (h ∷ hs) e = absurd cc

pub runs_are_heard_out : OneList → EnsembleIsHeard → HeadlineHolds → RunsAreFramed → RunsAreHeardOut
runs_are_heard_out one heard headline framed r p s period waiting events fibs start reported c played off on sizes bytes
    f =
    let right : FramesAreRight p s (waiting ++ events) = (headline p s (waiting ++ events) played).right in
    let are = all_of_run p s (waiting ++ events) fibs right sizes bytes in
    let mine : IsFramed (frame_fibs p.plan.layout)
    (map r.read (fibs_of p.plan.layout (run_frames p s (waiting ++ events)))) f.skipped f.frames
    (map r.read c.held) =
    subst (λ l. IsFramed (frame_fibs p.plan.layout) (map r.read l) f.skipped f.frames (map r.read c.held)) are
    f.framed in
    let alike = one_framing _ _ _ _ _ _ _ _ mine (framed r p s waiting events played off on) in
    record {
      skips = ap length alike.skips ∙ length-map (fibs_of p.plan.layout (run_frames p s waiting)) r.read;
      frames_are = alike.frames;
      undamaged = ap (λ fs. damaged_in (flat_map (λ x. x) fs)) alike.frames
          ∙ run_whole one heard r p (run p s waiting) events (right_after p s waiting events right);
      none_left = no_rest r c.held alike.rests;
    }
