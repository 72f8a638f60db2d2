-- No fault is found in the frames of a run, since what the checker has noted is what the run did.
use Rattle.stream_laws.proofs.Words.{[], ◌%◌, ◌++◌, ◌∙◌, ◌∷◌, ◌≡◌, ◌⊎◌, AllByRecursion, Bool, Contact, Contradiction}
use Rattle.stream_laws.proofs.Words.{EnsembleInformation, Event, Fault, Fib, Finding, Frame, FrameIsRight, runs_full}
use Rattle.stream_laws.proofs.Words.{FramesAreRight, HeadlineHolds, Holds, HoldsOfRuns, IsCode, IsFreeOf}
use Rattle.stream_laws.proofs.Words.{IsFreeUnlessShort, IsLongFor, IsNoFault, IsTheMost, Item, Known, List, Moment}
use Rattle.stream_laws.proofs.Words.{None, Plan, Program, Reading, RunIsFreeOf, RunsAgree, RunsAreFaultless}
use Rattle.stream_laws.proofs.Words.{RunsAreFree, Some, State, What, after_frame, airs, all_append, ap, code_of, cond}
use Rattle.stream_laws.proofs.Words.{due, ensemble_of, false, false≢true, findings_from, findings_in, frame_bytes}
use Rattle.stream_laws.proofs.Words.{frame_fibs, frame_holds, frame_items, frames_full, happens, happens_holds, inl}
use Rattle.stream_laws.proofs.Words.{inr, is_due, is_of_period, is_of_word, known_of, last_eid, makes_swap, noted_in}
use Rattle.stream_laws.proofs.Words.{played_holds, refl, run, run_holds, run_read, said, shown, step_of, subst, sym}
use Rattle.stream_laws.proofs.Words.{true, ℕ}
use Rattle.stream_check.specs.declared.finding.EntryName.{EntryName}
use Rattle.stream_check.specs.History.{ensemble_of_item as said_ensemble}
use Rattle.stream_check.specs.Stream.{past_after_frame as after_read}
use Rattle.stream_check.specs.declared.finding.Fault.TheVariants as faults
use Rattle.stream_check.specs.declared.finding.What.TheVariants as whats
use Rattle.stream_laws.proofs.Rows.{HasNone}
use Rattle.stream_laws.proofs.Framing.{read_frame, right_after}
use Rattle.stream_laws.proofs.Sending.{frame_open}
use Rattle.stream_laws.proofs.Findings.{Each, each_other, IsNoticeFine, IsWellNoticed, items_room, IsFrameFree}
use Rattle.stream_laws.proofs.Findings.{found_free}
use Rattle.stream_laws.proofs.InPlace.{IsBegun, frame_right, begun_after}
use Rattle.stream_laws.proofs.AgreeingRuns.{IsBetween}
use Rattle.stream_laws.proofs.AgreeingFrames.{agrees_by, before_contact}
use Rattle.stream_laws.proofs.Following.{SwapLaws, follows_contact, flags_change, IsCounted, not_too_soon}
use Rattle.stream_laws.proofs.Following.{counted_after, Follows, follows}
use Rattle.stream_laws.proofs.NoticeFrames.{IsNoticing}
use Rattle.stream_laws.proofs.NextRows.{noticing, noticing_contact, repeated}
use Rattle.stream_laws.proofs.Opening.{FrameLaws, items_at, made_due, none_made, IsOpened, next_opened, first_opened}
use Rattle.stream_laws.proofs.Opening.{each_opened}
use Rattle.stream_laws.proofs.Ages.{IsTurning, turning_contact, turning, none_silent}

-- ---- what the checker has noted

-- after frames of a run, before the frame of this state
pub record Noted (period : ℕ) (p : Program) (past : List Moment) (s : State) : Type 0 where
  -- the count and the EId that are due are those of the state
  pub count : due past ≡ Some s.count
  pub eid : last_eid (step_of p) past ≡ Some s.eid
  -- so are the configurations, as far as they were heard, the change flags and the swap that is awaited
  pub between : IsBetween p.plan past s
  -- the notice was announced in each of its frames with FIG 0/0
  pub counted : IsCounted p.plan past s.left
  -- its entries are those of its frames, and each frame has a row of them
  pub heard : Follows p.plan past s
  pub rows : IsNoticing p.plan past s
  -- each entry was heard when its page was in turn, and is known, or will be before the current configuration is
  -- settled
  pub turning : IsTurning period p.plan past s

-- nothing was heard, and the next frame has FIG 0/0; or frames were heard
abbrev pub IsNoted : ℕ → Program → List Moment → State → Type 0
IsNoted period p past s = ((past ≡ []) × (s.count % step_of p ≡ 0)) ⊎ Noted period p past s

or_noted : {First Any : Type 0} (period : ℕ) (p : Program) (past : List Moment) (s : State) → First
    ⊎ Noted period p past s → (Noted period p past s → Any) → First ⊎ Any
or_noted period p past s (inl first) f = inl first
or_noted period p past s (inr h) f = inr (f h)

begun : (period : ℕ) (p : Program) (past : List Moment) (s : State) → IsNoted period p past s
    → IsBegun (step_of p) past s
begun period p past s (inl (none, on)) = inl (ap due none, ap (last_eid (step_of p)) none, on)
begun period p past s (inr h) = inr (h.count, h.eid)

noted_contact : (period : ℕ) (p : Program) (past : List Moment) (s : State) (d : ℕ) (closed : Bool)
    → IsNoted period p past s → IsNoted period p past (happens p s (Contact d closed))
noted_contact period p past s d closed (inl first) = inl first
noted_contact period p past s d closed (inr h) =
    inr (record {
      count = h.count;
      eid = h.eid;
      between = before_contact p past s d closed h.between;
      counted = h.counted;
      heard = follows_contact p past s d closed h.heard;
      rows = noticing_contact p past s d closed h.rows;
      turning = turning_contact period p past s d closed h.turning;
    })

-- ---- the notice of a swap

none_noticed : (step period : ℕ) (items : List Item) (past : List Moment) → HasNone items
    → Each (IsWellNoticed step period) past items
none_noticed step period items past none =
    each_other (IsWellNoticed step period) (λ before i other ens. absurd (false≢true (sym other ∙ ens))) items past none

noticed_by : (step period : ℕ) (plan : Plan) (u : State) (made : Bool) (past : List Moment) (items : List Item)
    → IsOpened plan u made past items
    → ((e : EnsembleInformation) → e ≡ ensemble_of plan u → makes_swap (known_of step period past) e ≡ true
    → IsNoticeFine (known_of step period past)) → Each (IsWellNoticed step period) past items
noticed_by step period plan u made past items o f =
    each_opened (IsWellNoticed step period) plan u made past items o (λ i ens says is. f (said_ensemble i) says)
    (none_noticed step period o.members (said o.heads past) o.none)

well_noticed : IsTheMost → SwapLaws → FrameLaws → (r : Reading) (period : ℕ) (p : Program) (ts : List Known)
    → IsCode p ts → (s : State) → Holds p ts s → (past : List Moment) → IsNoted period p past s
    → Each (IsWellNoticed (step_of p) period) past (items_at r p s)
well_noticed most swap laws r period p ts c s holds past (inl (none, on)) =
    subst (λ (l : List Moment). Each (IsWellNoticed (step_of p) period) l (items_at r p s)) (sym none)
    (noticed_by (step_of p) period p.plan (shown p s) false [] (items_at r p s)
    (first_opened laws.one laws.heard r p ts c s holds on) (λ e says made. none_made e None refl made))
well_noticed most swap laws r period p ts c s holds past (inr h) =
    noticed_by (step_of p) period p.plan (shown p s) (is_due s.left) past (items_at r p s)
    (next_opened laws.one laws.heard r p ts c s holds past h.between (is_due s.left) refl) (λ e says made.
    let due = made_due p ts c s holds past h.between e says made in
    record {
      times = not_too_soon p ts c s past h.counted due;
      heard = repeated most laws p ts c s holds past h.between h.rows due;
      flags = flags_change swap p ts c s holds past h.between h.heard due e made;
    })

-- ---- one frame

-- nothing is at fault in it, and it is noted
record NextNoted (r : Reading) (period : ℕ) (p : Program) (s : State) (past : List Moment) : Type 0 where
  free : IsFrameFree (IsLongFor p period) (frame_fibs p.plan.layout) (step_of p) period past
      (read_frame r p.plan.layout (frame_bytes p s))
  after : Noted period p (after_read (step_of p) past (read_frame r p.plan.layout (frame_bytes p s))) (after_frame p s)

next_noted : IsTheMost → SwapLaws → FrameLaws → (r : Reading) (period : ℕ) (p : Program) (ts : List Known) → IsCode p ts
    → (s : State) → Holds p ts s → (past : List Moment) → FrameIsRight p s → IsNoted period p past s
    → NextNoted r period p s past
next_noted most swap laws r period p ts c s holds past right n =
    let place = frame_right laws.one laws.heard.ensemble r p s period past right (begun period p past s n) in
    let later = begun_after p s (frame_fibs p.plan.layout) period past (read_frame r p.plan.layout (frame_bytes p s))
    place in
    let agrees = agrees_by laws.one laws.heard r period p ts c s holds past
    (or_noted period p past s n (λ h. h.between)) in
    let turns = turning laws r period p ts c s holds past
    (or_noted period p past s n (λ h. (h.between, (h.heard, h.turning)))) in
    record {
      free = record {
        whole = place.whole;
        place = place.place;
        word = agrees.word;
        notice = well_noticed most swap laws r period p ts c s holds past n;
        known = turns.known;
        sent = λ long x inside. none_silent laws r period p s past agrees.after turns.after.turns turns.after.aged long
            x inside;
        own = frame_open laws.one laws.heard r p.plan (shown p s) (airs p ts c s holds);
      };
      after = record {
        count = later.0;
        eid = later.1;
        between = agrees.after;
        counted = counted_after laws.one laws.heard r p ts c s holds past
            (or_noted period p past s n (λ h. (h.between, h.counted)));
        heard = follows laws.one laws.heard r p ts c s holds past
            (or_noted period p past s n (λ h. (h.between, h.heard)));
        rows = noticing laws r period p ts c s holds past (or_noted period p past s n (λ h. (h.between, h.rows)));
        turning = turns.after;
      };
    }

-- ---- along a run

record FreeAfter (r : Reading) (period : ℕ) (p : Program) (s : State) (events : List Event) (past : List Moment)
    (noted : List Contradiction) : Type 0 where
  room : frames_full (step_of p) period past (run_read r p s events) ≡ false
  plain : AllByRecursion (λ (found : Finding). IsFreeUnlessShort (IsLongFor p period) found.what)
      (findings_from (frame_fibs p.plan.layout) (step_of p) period past noted (run_read r p s events))

along : IsTheMost → SwapLaws → FrameLaws → (r : Reading) (period : ℕ) (p : Program) (ts : List Known) → IsCode p ts
    → (s : State) (events : List Event) → Holds p ts s → (past : List Moment) (noted : List Contradiction)
    → FramesAreRight p s events → IsNoted period p past s
    → FreeAfter r period p s events past noted
along most swap laws r period p ts c s [] holds past noted right n = record { room = refl; plain = tt }
along most swap laws r period p ts c s (Contact d closed ∷ es) holds past noted right n =
    let rest = along most swap laws r period p ts c (happens p s (Contact d closed)) es
    (happens_holds p ts c s (Contact d closed) holds) past noted right (noted_contact period p past s d closed n) in
    record { room = rest.room; plain = rest.plain }
along most swap laws r period p ts c s (Frame ∷ es) holds past noted right n =
    let step : ℕ = step_of p in
    let size : ℕ = frame_fibs p.plan.layout in
    let frame : List Fib = read_frame r p.plan.layout (frame_bytes p s) in
    let later : List (List Fib) = run_read r p (after_frame p s) es in
    let P : Finding → Type 0 = λ (found : Finding). IsFreeUnlessShort (IsLongFor p period) found.what in
    let now = next_noted most swap laws r period p ts c s holds past right.0 n in
    let room : runs_full step period past (frame_items frame) ≡ false =
    items_room step period (frame_items frame) past now.free.word in
    let rest = along most swap laws r period p ts c (after_frame p s) es (frame_holds p ts c s holds)
    (after_read step past frame) (noted_in period past noted frame) right.1 (inr now.after) in
    record {
      room = ap (λ b. cond b true (frames_full step period (after_read step past frame) later)) room ∙ rest.room;
      plain = all_append P (findings_in size step period past noted frame) _
          (found_free (IsLongFor p period) size step period past noted frame now.free)
          (subst (λ (b : Bool). AllByRecursion P
          (cond b [] (findings_from size step period (after_read step past frame) (noted_in period past noted frame)
          later))) (sym room) rest.plain);
    }

pub runs_are_free : HeadlineHolds → IsTheMost → SwapLaws → FrameLaws → RunsAreFree
runs_are_free headline most swap laws r p s period waiting events played on =
    let ts : List Known = played.typed.0 in
    let code = code_of p s played in
    let right = right_after p s waiting events (headline p s (waiting ++ events) played).right in
    let all = along most swap laws r period p ts code (run p s waiting) events
    (run_holds p ts code s waiting (played_holds p s played)) [] [] right (inl (refl, on)) in
    record { room = all.room; plain = all.plain }

-- ---- one sort of faults

each_found : {P Q : What → Type 0} → ((w : What) → P w → Q w) → (fs : List Finding)
    → AllByRecursion (λ found. P found.what) fs → AllByRecursion (λ found. Q found.what) fs
each_found f [] all = tt
each_found f (x ∷ xs) all = (f x.what all.0, each_found f xs all.1)

-- a sort without faults that depend on the period
pub record DependsOnNoPeriod (sort : Fault → Bool) : Type 0 where
  pub appeared : (name : EntryName) → sort (faults.Appeared name) ≡ false
  pub silent : (name : EntryName) → sort (faults.Silent name) ≡ false

other_sort : (sort : Fault → Bool) → DependsOnNoPeriod sort → (f : Fault) → is_of_period f ≡ true → sort f ≡ false
other_sort sort h (faults.Appeared name) is = h.appeared name
other_sort sort h (faults.Silent name) is = h.silent name
other_sort sort h f is = absurd (false≢true is)

one_free : (sort : Fault → Bool) → DependsOnNoPeriod sort → (L : Type 0) (w : What) → IsFreeUnlessShort L w
    → IsFreeOf sort w
one_free sort h L (whats.Event e) free = tt
one_free sort h L (whats.Fault f) free = other_sort sort h f free.0

one_long : (sort : Fault → Bool) (L : Type 0) → L → (w : What) → IsFreeUnlessShort L w → IsFreeOf sort w
one_long sort L long (whats.Event e) free = tt
one_long sort L long (whats.Fault f) free = absurd (free.1 long)

one_none : (L : Type 0) → L → (w : What) → IsFreeUnlessShort L w → IsNoFault w
one_none L long (whats.Event e) free = tt
one_none L long (whats.Fault f) free = free.1 long

pub free_runs : (sort : Fault → Bool) → DependsOnNoPeriod sort → RunsAreFree → HoldsOfRuns (RunIsFreeOf sort)
free_runs sort h free r p s period waiting events played on =
    each_found (one_free sort h (IsLongFor p period)) _ (free r p s period waiting events played on).plain

pub long_runs : (sort : Fault → Bool) → RunsAreFree → HoldsOfRuns
    (λ r p s period events. IsLongFor p period → RunIsFreeOf sort r p s period events)
long_runs sort free r p s period waiting events played on long =
    each_found (one_long sort (IsLongFor p period) long) _ (free r p s period waiting events played on).plain

pub runs_agree : RunsAreFree → RunsAgree
runs_agree free r p s period waiting events played on = record {
  room = (free r p s period waiting events played on).room;
  plain = free_runs is_of_word (record { appeared = λ name. refl; silent = λ name. refl }) free r p s period waiting
      events played on;
}

pub runs_are_faultless : RunsAreFree → RunsAreFaultless
runs_are_faultless free r p s period waiting events played on long =
    let all = free r p s period waiting events played on in
    record { room = all.room; plain = each_found (one_none (IsLongFor p period) long) _ all.plain }
