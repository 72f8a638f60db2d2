-- The frames of a run, as the checker cuts them; and the frames into which a stream is cut, as bytes.
use Rattle.stream_laws.proofs.Words.{[], ◌%◌, ◌++◌, ◌+◌, ◌-◌, ◌<◌, ◌∙◌, ◌∷◌, ◌≡◌, ◌≢◌, ◌≤◌, AllByRecursion, AreFrames}
use Rattle.stream_laws.proofs.Words.{Bool, Contact, Contains, EnsembleInformation, EnsembleIsHeard, Event, Fib, Fig}
use Rattle.stream_laws.proofs.Words.{Frame, FrameLayout, FramesAreOfBytes, FramesAreRight, HasCount, HeadlineHolds}
use Rattle.stream_laws.proofs.Words.{HoldsFirst, I, IsFig, IsHeadedBy, IsInFig, IsNoHeader, IsOneFrame, IsRight}
use Rattle.stream_laws.proofs.Words.{IsUnheaded, Item, List, Mode, None, OneList, Open, Other, Plan, Program, Reading}
use Rattle.stream_laws.proofs.Words.{RunsAreFramed, RunsJoin, Some, State, after_frame, all_append, ap, append-nil}
use Rattle.stream_laws.proofs.Words.{append_assoc, arith, begins_with_ensemble, contains_cases, contains_none}
use Rattle.stream_laws.proofs.Words.{count_step, ensemble_in, entries_in, eq-eqb, false, fib_at, fib_count, fib_items}
use Rattle.stream_laws.proofs.Words.{fibs_from, fibs_items, fibs_of, fig_items, figs_items, first_in, first_in_figs}
use Rattle.stream_laws.proofs.Words.{first_or, first_raw, flat_map, frame_bytes, frame_fibs, frames_of, happens}
use Rattle.stream_laws.proofs.Words.{holds_ensemble, inl, inr, is_damaged, is_long, is_next, is_there, items_of}
use Rattle.stream_laws.proofs.Words.{layout_mode, length, length-map, map, map-append, marked, ne_eqb, opening}
use Rattle.stream_laws.proofs.Words.{opening_in_figs, raw_of, read_frames, refl, run, run_frames, shown, shown_count}
use Rattle.stream_laws.proofs.Words.{subst, suc, sym, zero, ℕ}
use Rattle.std.proofs.lemmas.List.Concat.{flat_map-append}
use Rattle.mux_types.specs.declared.entry.Entry.TheVariants.{Ensemble as EnsembleOf}
use Rattle.stream_laws.proofs.Rows.{HasNone}
use Rattle.stream_laws.proofs.Bytes.{is_read}

record IsPair {X Y : Type 0} (f : X → Y) (xs : List X) (ys zs : List Y) : Type 0 where
  left : List X
  right : List X
  whole : xs ≡ left ++ right
  first : map f left ≡ ys
  second : map f right ≡ zs

pair : {X Y : Type 0} (f : X → Y) (xs : List X) (ys zs : List Y) → map f xs ≡ ys ++ zs → IsPair f xs ys zs
pair f xs [] zs e = record { left = []; right = xs; whole = refl; first = refl; second = e }
pair f [] (y ∷ ys) zs e = absurd cc
pair f (x ∷ xs) (y ∷ ys) zs e =
    let heads : f x ≡ y = cc in
    let rest = pair f xs ys zs cc in
    record {
      left = x ∷ rest.left;
      right = rest.right;
      whole = ap (λ l. x ∷ l) rest.whole;
      first = ap (λ z. z ∷ map f rest.left) heads ∙ ap (λ l. y ∷ l) rest.first;
      second = rest.second;
    }

record IsRow (r : Reading) (fibs : List (List ℕ)) (frames : List (List Fib)) (rest : List Fib) : Type 0 where
  bytes : List (List (List ℕ))
  after : List (List ℕ)
  whole : fibs ≡ flat_map (λ frame. frame) bytes ++ after
  reads : read_frames r bytes ≡ frames
  leaves : map r.read after ≡ rest

row : (r : Reading) (fibs : List (List ℕ)) (frames : List (List Fib)) (rest : List Fib)
    → map r.read fibs ≡ flat_map (λ f. f) frames ++ rest → IsRow r fibs frames rest
row r fibs [] rest e = record { bytes = []; after = fibs; whole = refl; reads = refl; leaves = e }
row r fibs (frame ∷ frames) rest e =
    let one = pair _ _ _ _ (e ∙ append_assoc frame (flat_map (λ f. f) frames) rest) in
    let more = row r one.right frames rest one.second in
    record {
      bytes = one.left ∷ more.bytes;
      after = more.after;
      whole = one.whole ∙ ap (λ l. one.left ++ l) more.whole
          ∙ sym (append_assoc one.left (flat_map (λ f. f) more.bytes) more.after);
      reads = ap (λ f. f ∷ read_frames r more.bytes) one.first ∙ ap (λ fs. frame ∷ fs) more.reads;
      leaves = more.leaves;
    }

pub frames_are_of_bytes : FramesAreOfBytes
frames_are_of_bytes r size fibs skipped frames rest f =
    let one = pair r.read fibs skipped (flat_map (λ g. g) frames ++ rest) f.whole in
    let more = row r one.right frames rest one.second in
    record {
      before = one.left;
      bytes = more.bytes;
      after = more.after;
      whole = one.whole ∙ ap (λ l. one.left ++ l) more.whole;
      skips = one.first;
      reads = more.reads;
      leaves = more.leaves;
    }

-- ---- a FIB

no_ext : (ext : ℕ) (long : Bool) (es : List (List ℕ)) → ext ≢ 0 → first_raw (map (raw_of ext long) es) ≡ None
no_ext ext long [] other = refl
no_ext ext long (e ∷ es) other = cc (ne_eqb ext 0 other, no_ext ext long es other)

fig_unheaded : (f : Fig) → IsNoHeader f → first_raw (entries_in f) ≡ None
fig_unheaded (Open second es) free = no_ext (second % 32) (is_long second) es free
fig_unheaded (Other given) free = refl

figs_unheaded : (figs : List Fig) → AllByRecursion IsNoHeader figs → first_in_figs figs ≡ None
figs_unheaded [] all = refl
figs_unheaded (f ∷ fs) all = ap (λ o. first_or o (first_in_figs fs)) (fig_unheaded f all.0) ∙ figs_unheaded fs all.1

opening_unheaded : (figs : List Fig) → AllByRecursion IsNoHeader figs → opening_in_figs figs ≡ None
opening_unheaded [] all = refl
opening_unheaded (f ∷ fs) all = fig_unheaded f all.0

-- a FIB without a FIG 0/0
pub record IsQuiet (fib : Fib) : Type 0 where
  pub whole : is_damaged fib ≡ false
  pub opens : opening fib ≡ None
  pub holds : first_in fib ≡ None
  pub none : (first : Bool) → HasNone (fib_items first fib)

no_items : (first next long : Bool) (ext : ℕ) (es : List (List ℕ)) → ext ≢ 0
    → HasNone (items_of first next (map (raw_of ext long) es))
no_items first next long ext [] other = tt
no_items first next long ext (e ∷ es) other = (ne_eqb ext 0 other, no_items first next long ext es other)

fig_none : (first : Bool) (f : Fig) → IsNoHeader f → HasNone (fig_items first f)
fig_none first (Open second es) free = no_items first (is_next second) (is_long second) (second % 32) es free
fig_none first (Other given) free = tt

none_both : (xs ys : List Item) → HasNone xs → HasNone ys → HasNone (xs ++ ys)
none_both [] ys a b = b
none_both (x ∷ xs) ys a b = (a.0, none_both xs ys a.1 b)

pub figs_none : (first : Bool) (figs : List Fig) → AllByRecursion IsNoHeader figs → HasNone (figs_items first figs)
figs_none first [] all = tt
figs_none first (f ∷ fs) all = none_both _ _ (fig_none _ _ all.0) (figs_none false fs all.1)

pub fibs_none : (first : Bool) (fibs : List Fib) → AllByRecursion IsQuiet fibs → HasNone (fibs_items first fibs)
fibs_none first [] all = tt
fibs_none first (f ∷ fs) all = none_both _ _ (all.0.none first) (fibs_none false fs all.1)

pub quiet_fib : OneList → (r : Reading) (bytes : List ℕ) → IsUnheaded bytes → IsQuiet (r.read bytes)
quiet_fib one r bytes h =
    let is = is_read one r bytes h.0 h.1 in
    record {
      whole = ap is_damaged is;
      opens = ap opening is ∙ opening_unheaded h.0 h.2;
      holds = ap first_in is ∙ figs_unheaded h.0 h.2;
      none = λ first. subst (λ (fib : Fib). HasNone (fib_items first fib)) (sym is) (figs_none first h.0 h.2);
    }

-- a FIB that begins with a FIG 0/0
pub record IsHeading (fib : Fib) (e : EnsembleInformation) : Type 0 where
  pub whole : is_damaged fib ≡ false
  pub opens : opening fib ≡ Some e
  pub holds : first_in fib ≡ Some e

-- a FIG 0/0 has one entry
pub record IsOneHeader (header : Fig) (e : EnsembleInformation) : Type 0 where
  pub second : ℕ
  pub bytes : List ℕ
  pub is : header ≡ Open second (bytes ∷ [])
  pub ext : second % 32 ≡ 0
  pub says : ensemble_in (raw_of (second % 32) (is_long second) bytes) ≡ e

pub one_header : EnsembleIsHeard → (front : List ℕ) (header : Fig) (e : EnsembleInformation) → IsFig front header
    → IsInFig header (marked false (EnsembleOf e)) → IsOneHeader header e
one_header heard front (Other given) e is h = absurd h
one_header heard front (Open second es) e is h =
    let ext : second % 32 ≡ 0 = h.2.ext in
    let alone = is.4.1 ext in
    let same : alone.0 ≡ h.0 =
    elim (contains_cases alone.0 [] h.0 (subst (λ (xs : List (List ℕ)). Contains xs h.0) alone.1 h.1))
    [ inl one ↦ one | inr none ↦ absurd (contains_none h.0 none) ] in
    record {
      second = second;
      bytes = h.0;
      is = ap (Open second) (alone.1 ∙ ap (λ x. x ∷ []) same);
      ext = ext;
      says = ap (λ bs. ensemble_in (record { ext = 0; long = false; bytes = bs })) h.2.spelled ∙ heard e h.2.within;
    }

heading_raw : (header : Fig) (e : EnsembleInformation) → IsOneHeader header e → first_raw (entries_in header) ≡ Some e
heading_raw header e h = cc (h.is, eq-eqb (h.second % 32) 0 h.ext, h.says)

pub header_of : EnsembleIsHeard → (plan : Plan) (u : State) (bytes : List ℕ) (h : IsHeadedBy plan u bytes)
    → IsOneHeader h.header h.information
header_of heard plan u bytes h = one_header heard h.first.1.0 h.header h.information h.first.1.3 h.says

pub heading_fib : OneList → EnsembleIsHeard → (r : Reading) (plan : Plan) (u : State) (bytes : List ℕ)
    (h : IsHeadedBy plan u bytes) → IsHeading (r.read bytes) h.information
heading_fib one heard r plan u bytes h =
    let is = is_read one r bytes (h.header ∷ h.others) h.first in
    let raw = heading_raw h.header h.information (header_of heard plan u bytes h) in
    record {
      whole = ap is_damaged is;
      opens = ap opening is ∙ raw;
      holds = ap first_in is ∙ ap (λ o. first_or o (first_in_figs h.others)) raw;
    }

-- ---- a frame

abbrev pub later_fibs : FrameLayout → List ℕ → List (List ℕ)
later_fibs layout frame = fibs_from (frame_fibs layout - 1) 1 frame

few_fibs : (mode : Mode) → 1 ≤ fib_count mode
few_fibs I = omega arith
few_fibs m = omega arith

first_from : (count : ℕ) (frame : List ℕ) → 1 ≤ count → fibs_from count 0 frame ≡ fib_at frame 0
    ∷ fibs_from (count - 1) 1 frame
first_from zero frame some = absurd (omega (arith, some))
first_from (suc count) frame some =
    (let less : count ≡ suc count - 1 = omega arith in ap (λ k. fib_at frame 0 ∷ fibs_from k 1 frame) less)

pub first_of_fibs : (layout : FrameLayout) (frame : List ℕ)
    → fibs_from (frame_fibs layout) 0 frame ≡ fib_at frame 0 ∷ later_fibs layout frame
first_of_fibs layout frame = first_from (frame_fibs layout) frame (few_fibs (layout_mode layout))

fibs_length : (count n : ℕ) (frame : List ℕ) → length (fibs_from count n frame) ≡ count
fibs_length zero n frame = refl
fibs_length (suc count) n frame = ap suc (fibs_length count (n + 1) frame)

quiet_from : OneList → (r : Reading) (frame : List ℕ) (count n : ℕ)
    → ((k : ℕ) → n ≤ k → k < n + count → IsUnheaded (fib_at frame k))
    → AllByRecursion IsQuiet (map r.read (fibs_from count n frame))
quiet_from one r frame zero n all = tt
quiet_from one r frame (suc count) n all = (
  quiet_fib one r (fib_at frame n) (all n (omega arith) (omega arith)),
  quiet_from one r frame count (n + 1) (λ k low high. all k (omega (arith, low)) (omega (arith, high))),
)

pub later_quiet : OneList → (r : Reading) (plan : Plan) (u : State) (frame : List ℕ) → IsRight plan u frame
    → AllByRecursion IsQuiet (map r.read (later_fibs plan.layout frame))
later_quiet one r plan u frame h =
    quiet_from one r frame (frame_fibs plan.layout - 1) 1
    (λ k low high. h.others_unheaded k low (omega (arith, high)))

no_later : (fibs : List Fib) → AllByRecursion IsQuiet fibs
    → AllByRecursion (λ later. begins_with_ensemble later ≡ false) fibs
no_later [] all = tt
no_later (f ∷ fs) all = (ap is_there all.0.opens, no_later fs all.1)

pub none_held : (fibs : List Fib) → AllByRecursion IsQuiet fibs
    → AllByRecursion (λ fib. holds_ensemble fib ≡ false) fibs
none_held [] all = tt
none_held (f ∷ fs) all = (ap is_there all.0.holds, none_held fs all.1)

-- the frame of a state, as read
abbrev pub read_frame : Reading → FrameLayout → List ℕ → List Fib
read_frame r layout frame = map r.read (fibs_from (frame_fibs layout) 0 frame)

one_frame : OneList → (r : Reading) (plan : Plan) (u : State) (frame : List ℕ) → IsRight plan u frame
    → IsOneFrame (read_frame r plan.layout frame)
one_frame one r plan u frame h =
    subst (λ (fs : List (List ℕ)). IsOneFrame (map r.read fs)) (sym (first_of_fibs plan.layout frame))
    (no_later (map r.read (later_fibs plan.layout frame)) (later_quiet one r plan u frame h))

pub frame_size : (r : Reading) (layout : FrameLayout) (frame : List ℕ)
    → length (read_frame r layout frame) ≡ frame_fibs layout
frame_size r layout frame = length-map (fibs_from (frame_fibs layout) 0 frame) r.read ∙ fibs_length _ _ _

-- a frame at a count that is not a multiple of the step
pub all_quiet : OneList → (r : Reading) (plan : Plan) (u : State) (frame : List ℕ) → IsRight plan u frame
    → u.count % count_step (layout_mode plan.layout) ≢ 0 → AllByRecursion IsQuiet (read_frame r plan.layout frame)
all_quiet one r plan u frame h off =
    subst (λ (fs : List (List ℕ)). AllByRecursion IsQuiet (map r.read fs)) (sym (first_of_fibs plan.layout frame))
    (quiet_fib one r (fib_at frame 0) (h.unheaded off), later_quiet one r plan u frame h)

-- ---- frames of a run

pub are_frames : OneList → (r : Reading) (p : Program) (s : State) (events : List Event) → FramesAreRight p s events
    → AreFrames (frame_fibs p.plan.layout) (read_frames r (frames_of p.plan.layout (run_frames p s events))) []
are_frames one r p s [] all = tt
are_frames one r p s (Contact c closed ∷ es) all = are_frames one r p (happens p s (Contact c closed)) es all
are_frames one r p s (Frame ∷ es) all =
    let size = frame_size r p.plan.layout (frame_bytes p s) in (
      one_frame one r p.plan (shown p s) (frame_bytes p s) all.0,
      omega (arith, size),
      (λ short. absurd (omega (arith, size, short))),
      are_frames one r p (after_frame p s) es all.1,
    )

pub right_after : (p : Program) (s : State) (waiting events : List Event) → FramesAreRight p s (waiting ++ events)
    → FramesAreRight p (run p s waiting) events
right_after p s [] events all = all
right_after p s (Contact c closed ∷ es) events all = right_after p (happens p s (Contact c closed)) es events all
right_after p s (Frame ∷ es) events all = right_after p (after_frame p s) es events all.1

right_before : (p : Program) (s : State) (waiting events : List Event) → FramesAreRight p s (waiting ++ events)
    → FramesAreRight p s waiting
right_before p s [] events all = tt
right_before p s (Contact c closed ∷ es) events all = right_before p (happens p s (Contact c closed)) es events all
right_before p s (Frame ∷ es) events all = (all.0, right_before p (after_frame p s) es events all.1)

-- before the first FIG 0/0
are_quiet : OneList → (r : Reading) (p : Program) (s : State) (waiting : List Event) → FramesAreRight p s waiting
    → (HasCount p s waiting → ⊥)
    → AllByRecursion IsQuiet (map r.read (fibs_of p.plan.layout (run_frames p s waiting)))
are_quiet one r p s [] all off = tt
are_quiet one r p s (Contact c closed ∷ es) all off = are_quiet one r p (happens p s (Contact c closed)) es all off
are_quiet one r p s (Frame ∷ es) all off =
    let not_now : (shown p s).count % count_step (layout_mode p.plan.layout) ≢ 0 =
    λ e. off (inl (ap (λ n. n % count_step (layout_mode p.plan.layout)) (sym (shown_count p s)) ∙ e)) in
    subst (AllByRecursion IsQuiet)
    (sym (map-append r.read (fibs_from (frame_fibs p.plan.layout) 0 (frame_bytes p s))
    (fibs_of p.plan.layout (run_frames p (after_frame p s) es))))
    (all_append IsQuiet (read_frame r p.plan.layout (frame_bytes p s))
    (map r.read (fibs_of p.plan.layout (run_frames p (after_frame p s) es)))
    (all_quiet one r p.plan (shown p s) (frame_bytes p s) all.0 not_now)
    (are_quiet one r p (after_frame p s) es all.1 (λ h. off (inr h))))

-- from the first FIG 0/0 on
holds_more : (xs ys : List Fib) → 1 ≤ length xs → HoldsFirst xs → HoldsFirst (xs ++ ys)
holds_more [] ys some h = absurd (omega (arith, some))
holds_more (x ∷ xs) ys some h = h

heads : OneList → EnsembleIsHeard → (r : Reading) (plan : Plan) (u : State) (frame : List ℕ) → IsRight plan u frame
    → u.count % count_step (layout_mode plan.layout) ≡ 0 → HoldsFirst (read_frame r plan.layout frame)
heads one heard r plan u frame h on =
    let first = heading_fib one heard r plan u (fib_at frame 0) (h.headed on) in
    rw (first_of_fibs plan.layout frame) (ap is_there first.holds)

pub begins : OneList → EnsembleIsHeard → (r : Reading) (p : Program) (s : State) (events : List Event)
    → FramesAreRight p s events → s.count % count_step (layout_mode p.plan.layout) ≡ 0
    → HoldsFirst (flat_map (λ f. f) (read_frames r (frames_of p.plan.layout (run_frames p s events))) ++ [])
begins one heard r p s [] all on = tt
begins one heard r p s (Contact c closed ∷ es) all on = begins one heard r p (happens p s (Contact c closed)) es all on
begins one heard r p s (Frame ∷ es) all on =
    let on_now = ap (λ n. n % count_step (layout_mode p.plan.layout)) (shown_count p s) ∙ on in
    let size = frame_size r p.plan.layout (frame_bytes p s) in
    let few = few_fibs (layout_mode p.plan.layout) in
    let rest = flat_map (λ f. f) (read_frames r (frames_of p.plan.layout (run_frames p (after_frame p s) es))) in
    subst HoldsFirst (sym (append_assoc (read_frame r p.plan.layout (frame_bytes p s)) rest []))
    (holds_more _ _ (omega (arith, size, few)) (heads one heard r _ _ _ all.0 on_now))

pub flat_read : (r : Reading) (layout : FrameLayout) (frames : List (List ℕ))
    → map r.read (fibs_of layout frames) ≡ flat_map (λ f. f) (read_frames r (frames_of layout frames))
flat_read r layout [] = refl
flat_read r layout (f ∷ fs) = map-append r.read (fibs_from (frame_fibs layout) 0 f) (fibs_of layout fs)
    ∙ ap (λ xs. read_frame r layout f ++ xs) (flat_read r layout fs)

pub runs_are_framed : OneList → EnsembleIsHeard → HeadlineHolds → RunsJoin → RunsAreFramed
runs_are_framed one heard headline joins r p s waiting events played off on =
    let layout : FrameLayout = p.plan.layout in
    let t : State = run p s waiting in
    let all : FramesAreRight p s (waiting ++ events) = (headline p s (waiting ++ events) played).right in
    let after : FramesAreRight p t events = right_after p s waiting events all in
    record {
      whole = ap (λ fs. map r.read (fibs_of layout fs)) (joins p s [] waiting events).frames
          ∙ ap (map r.read) (flat_map-append (fibs_from (frame_fibs layout) 0) (run_frames p s waiting)
          (run_frames p t events))
          ∙ map-append r.read (fibs_of layout (run_frames p s waiting)) (fibs_of layout (run_frames p t events))
          ∙ ap (λ xs. map r.read (fibs_of layout (run_frames p s waiting)) ++ xs)
          (flat_read r layout (run_frames p t events)
          ∙ sym (append-nil (flat_map (λ f. f) (read_frames r (frames_of layout (run_frames p t events))))));
      before = none_held (map r.read (fibs_of layout (run_frames p s waiting)))
          (are_quiet one r p s waiting (right_before p s waiting events all) off);
      begun = begins one heard r p t events after on;
      cut = are_frames one r p t events after;
    }
