-- A check from one FIB to the next.
use Rattle.stream_monitor.proofs.Words.{[], ◌&&◌, ◌++◌, ◌∙◌, ◌∷◌, ◌≡◌, ◌≤◌, AllByRecursion, AtMost, Bool, CheckOptions}
use Rattle.stream_monitor.proofs.Words.{Ending, EndsAtFib, EndsFrame, EndsFrameFrom, Err, Fib, Finding, Follows}
use Rattle.stream_monitor.proofs.Words.{FollowsFib, GoesOn, HasFibSize, IfOk, IsAfter, IsAfterFib, IsAtLimit}
use Rattle.stream_monitor.proofs.Words.{IsSummary, IsTooLong, Line, List, Log, LogsLines, None, Ok, Option, Reading}
use Rattle.stream_monitor.proofs.Words.{Reported, Result, Some, State, StopsWithFib, Summary, Tally, Totals, Unknown}
use Rattle.stream_monitor.proofs.Words.{alive_lines, all_append, ap, append-nil, append_assoc, cause_of, count_step}
use Rattle.stream_monitor.proofs.Words.{counted, due_lines, end_after, end_of, false, faults_in}
use Rattle.stream_monitor.proofs.Words.{finding_lines, found_in, found_next, frame_count, frames_lines, if◌then◌else◌}
use Rattle.stream_monitor.proofs.Words.{inl, inr, is_due, is_stopped, length, map, map-append, most, not, refl, subst}
use Rattle.stream_monitor.proofs.Words.{summary_after, sym, tally_after, totals_after, true, with_more, ℕ}
use Rattle.fib_codec.specs.declared.modes.Mode.{Mode}
use Rattle.stream_check.specs.declared.checker.CheckFault.{CheckFault}
use Rattle.stream_monitor.specs.declared.line.Cause.{Cause}
use Rattle.stream_check.specs.declared.checker.CheckFault.TheVariants as faults
use Rattle.stream_monitor.specs.declared.ending.Ending.TheVariants as endings
use Rattle.stream_monitor.specs.declared.line.Cause.TheVariants as causes
use Rattle.stream_monitor.specs.declared.line.Line.TheVariants as lines
use Rattle.stream_monitor.proofs.Logs.{more_lines}
use Rattle.stream_monitor.proofs.Frames.{saturated_some, counted_none, tally_more, findings_are, text_more, text_kept}

-- ---- between FIBs

pub summary_is : (skipped : List Fib) (frames : List (List Fib)) (rest : List Fib) (s : Summary)
    → IsSummary skipped frames rest s → s ≡ summary_after skipped frames rest
summary_is skipped frames rest s h = rw (h.frame_count, h.skips, h.left, h.damages)

abbrev pub goes_on : (r : Reading) (o : CheckOptions) (fibs : List (List ℕ)) (log : List Line) (s : State)
    → IsAfter r o fibs log s → GoesOn r o fibs log
goes_on r o fibs log s h = record {
  sizes = h.sizes;
  skipped = h.follows.skipped;
  frames = h.follows.frames;
  rest = map r.read s.checker.held;
  framed = rw (← h.read) h.follows.framed;
  room = h.follows.room;
  no_fault = h.no_fault;
  lines = h.lines;
}

sizes_more : (fibs : List (List ℕ)) (fib : List ℕ) → AllByRecursion HasFibSize fibs → HasFibSize fib
    → AllByRecursion HasFibSize (fibs ++ fib ∷ [])
sizes_more fibs fib all one = all_append HasFibSize fibs (fib ∷ []) all (one, tt)

pub read_more : (r : Reading) (fibs : List (List ℕ)) (fib : List ℕ) (stream : List Fib) → stream ≡ map r.read fibs
    → stream ++ r.read fib ∷ [] ≡ map r.read (fibs ++ fib ∷ [])
read_more r fibs fib stream e = ap (λ l. l ++ r.read fib ∷ []) e ∙ sym (map-append r.read fibs (fib ∷ []))

-- ---- a FIB that ends no frame

pub step_within : (r : Reading) (o : CheckOptions) (fibs : List (List ℕ)) (fib : List ℕ) (log : List Line)
    (old new : State) (found : List Finding) (h : IsAfter r o fibs log old) → HasFibSize fib
    → (before after : Reported) → before ≡ AtMost 1024 [] → after ≡ AtMost 1024 found
    → (ends : Bool) → ends ≡ false → FollowsFib r o.mode o.period h.stream (r.read fib) ends before after old.checker
    new.checker → new.tally ≡ counted old.tally found
    → IsAfter r o (fibs ++ fib ∷ []) (log ++ finding_lines found) new
step_within r o fibs fib log old new found h size before after empty given ends is step tally =
    let f = h.follows in
    let one = (subst (λ (b : Bool). FollowsFib r o.mode o.period h.stream (r.read fib) b before after old.checker
    new.checker) is step) f in
    let g = one.0 in
    let same : g.frames ≡ f.frames = one.1.0 in
    let none : found ≡ [] = findings_are found [] (sym given ∙ one.1.2 ∙ empty) in
    record {
      sizes = sizes_more fibs fib h.sizes size;
      stream = h.stream ++ r.read fib ∷ [];
      read = read_more r fibs fib h.stream h.read;
      follows = g;
      tally = tally ∙ ap (counted old.tally) none ∙ ap (λ t. counted t []) h.tally ∙ counted_none o f.frames
          ∙ ap (tally_after o) (sym same);
      no_fault = ap (is_stopped o) same ∙ h.no_fault;
      lines = ap (λ l. log ++ finding_lines l) none ∙ append-nil log ∙ h.lines ∙ text_kept o _ _ _ _ same one.1.1;
    }

-- ---- a FIB that ends a frame

-- the lines with those of one more frame
pub lines_more : (o : CheckOptions) (log : List Line) (skipped later : List Fib) (frames more : List (List Fib))
    (frame : List Fib) (found : List Finding)
    → more ≡ frames ++ frame ∷ [] → later ≡ skipped → found ≡ found_next o frames frame
    → log ≡ frames_lines o skipped [] frames
    → (log ++ finding_lines found) ++ alive_lines o later more ≡ frames_lines o later [] more
lines_more o log skipped later frames more frame found one same is lines =
    let whole = frames_lines o later [] frames in
    ap (λ l. (l ++ finding_lines found) ++ alive_lines o later more)
    (lines ∙ ap (λ s. frames_lines o s [] frames) (sym same))
    ∙ ap (λ l. (whole ++ finding_lines l) ++ alive_lines o later more) is
    ∙ ap (λ l. (whole ++ finding_lines (found_next o frames frame)) ++ alive_lines o later l) one
    ∙ append_assoc whole (finding_lines (found_next o frames frame)) (alive_lines o later (frames ++ frame ∷ []))
    ∙ sym (text_more o later [] frames frame)
    ∙ ap (frames_lines o later []) (sym one)

-- the state and the lines after the frame, before the end of the check with it is looked at
pub record IsEnded (r : Reading) (o : CheckOptions) (fibs : List (List ℕ)) (fib : List ℕ) (log : List Line)
    (s : State) : Type 0 where
  pub stream : List Fib
  pub read : stream ≡ map r.read (fibs ++ fib ∷ [])
  pub follows : Follows r o.mode o.period stream Unknown Unknown s.checker
  pub tally : s.tally ≡ tally_after o follows.frames
  pub lines : log ++ alive_lines o follows.skipped follows.frames ≡ frames_lines o follows.skipped [] follows.frames
  pub sizes : AllByRecursion HasFibSize (fibs ++ fib ∷ [])
  pub ends : (log : List Line) → log ≡ frames_lines o follows.skipped [] follows.frames
      → EndsFrame r o fibs fib log follows.skipped follows.frames

pub step_ended : (r : Reading) (o : CheckOptions) (fibs : List (List ℕ)) (fib : List ℕ) (log : List Line)
    (old new : State) (found : List Finding) (h : IsAfter r o fibs log old) → HasFibSize fib
    → (before after : Reported) → before ≡ AtMost 1024 [] → after ≡ AtMost 1024 found
    → (ends : Bool) → ends ≡ true → FollowsFib r o.mode o.period h.stream (r.read fib) ends before after old.checker
    new.checker → new.tally ≡ counted old.tally found
    → IsEnded r o fibs fib (log ++ finding_lines found) new
step_ended r o fibs fib log old new found h size before after empty given ends is step tally =
    let f = h.follows in
    let one = (subst (λ (b : Bool). FollowsFib r o.mode o.period h.stream (r.read fib) b before after old.checker
    new.checker) is step) f in
    let g = one.0 in
    let frame = one.1.0 in
    let is : found ≡ found_next o f.frames frame =
    findings_are _ _ (sym given ∙ one.1.3 ∙ ap (λ b. with_more b (found_next o f.frames frame)) empty) in
    let read = read_more r fibs fib h.stream h.read in
    record {
      stream = h.stream ++ r.read fib ∷ [];
      read = read;
      follows = g;
      tally = tally ∙ ap (counted old.tally) is ∙ ap (λ t. counted t (found_next o f.frames frame)) h.tally
          ∙ tally_more o f.frames frame f.room ∙ ap (tally_after o) (sym one.1.1);
      lines = lines_more o log f.skipped g.skipped f.frames g.frames frame found one.1.1 one.1.2 is h.lines;
      sizes = sizes_more fibs fib h.sizes size;
      ends = λ all lines. record {
        log_before = log;
        before = goes_on r o fibs log old h;
        size = size;
        frame = frame;
        rest = map r.read new.checker.held;
        framed = rw (← read) g.framed;
        one_more = one.1.1;
        lines = lines;
      };
    }

-- the check ends with the frame or goes on
pub step_ends : (r : Reading) (o : CheckOptions) (fibs : List (List ℕ)) (fib : List ℕ) (log : List Line) (s : State)
    (before after : Option Log) (e : Option Ending) → IsEnded r o fibs fib log s
    → EndsFrameFrom o s before after e → (alive : List Line) × LogsLines before after alive
    × IsAfterFib r o fibs fib (log ++ alive) s e
step_ends r o fibs fib log s before after e h ends =
    let f = h.follows in
    let given = ends r h.stream f h.tally in
    let alive = alive_lines o f.skipped f.frames in (
      alive,
      given.0,
      subst (λ (x : Option Ending). IsAfterFib r o fibs fib (log ++ alive) s x) (sym given.1)
          (chosen (is_stopped o f.frames) refl),
    )
  where
    chosen : (b : Bool) → is_stopped o h.follows.frames ≡ b
        → IsAfterFib r o fibs fib (log ++ alive_lines o h.follows.skipped h.follows.frames) s
        (if b then Some (endings.Counted (totals_after o h.follows.skipped h.follows.frames [])) else None)
    chosen true stopped = (
      h.follows.skipped,
      h.follows.frames,
      h.ends (log ++ alive_lines o h.follows.skipped h.follows.frames) h.lines,
      h.follows.room,
      stopped,
      refl,
    )
    chosen false goes = record {
      sizes = h.sizes;
      stream = h.stream;
      read = h.read;
      follows = h.follows;
      tally = h.tally;
      no_fault = goes;
      lines = h.lines;
    }

-- the findings of the frame are printed, and then what follows them
pub fib_ends : (r : Reading) (o : CheckOptions) (fibs : List (List ℕ)) (fib : List ℕ) (log : List Line) (s : State)
    (found : List Finding) (before now after : Option Log) (e : Option Ending)
    → IsEnded r o fibs fib (log ++ finding_lines found) s → LogsLines before now (finding_lines found)
    → EndsFrameFrom o s now after e
    → (more : List Line) × LogsLines before after more × IsAfterFib r o fibs fib (log ++ more) s e
fib_ends r o fibs fib log s found before now after e h told ends =
    let front = finding_lines found in
    let last = step_ends r o fibs fib (log ++ front) s now after e h ends in (
      front ++ last.0,
      more_lines before now after front last.0 told last.1,
      subst (λ (l : List Line). IsAfterFib r o fibs fib l s e) (append_assoc log front last.0) last.2,
    )

-- ---- the end of a frame

abbrev pub totals_with : Summary → Tally → Totals
totals_with summary tally = record { summary = summary; swaps = tally.swaps; faults = tally.faults }

pub totals_are : (r : Reading) (o : CheckOptions) (s : State) (sum : Summary) (t : Totals) (stream : List Fib)
    (f : Follows r o.mode o.period stream Unknown Unknown s.checker) → t ≡ totals_with sum s.tally
    → IsSummary f.skipped f.frames [] sum → s.tally ≡ tally_after o f.frames → t ≡ totals_after o f.skipped f.frames []
totals_are r o s sum t stream f is decided tally = cc (is, summary_is f.skipped f.frames [] sum decided, tally)

-- the line of the totals, if they are due, is that of these frames
pub due_is : (r : Reading) (o : CheckOptions) (s : State) (t : Totals) (stream : List Fib)
    (f : Follows r o.mode o.period stream Unknown Unknown s.checker) → t ≡ totals_after o f.skipped f.frames []
    → due_lines o t ≡ alive_lines o f.skipped f.frames
due_is r o s t stream f totals =
    let room : alive_lines o f.skipped f.frames ≡ due_lines o (totals_after o f.skipped f.frames []) =
    ap (λ b. if not b && is_due o.every (length f.frames) then lines.Alive (totals_after o f.skipped f.frames [])
    ∷ [] else []) f.room in
    ap (due_lines o) totals ∙ sym room

pub frame_ends : (o : CheckOptions) (s : State) (sum : Summary) (t : Totals) (before after : Option Log)
    (e : Option Ending) → t ≡ totals_with sum s.tally
    → ((r : Reading) (mode : Mode) (period : ℕ) (stream : List Fib) (start reported : Reported)
    (f : Follows r mode period stream start reported s.checker) → IsSummary f.skipped f.frames [] sum)
    → LogsLines before after (due_lines o t) → e ≡ end_of o t → EndsFrameFrom o s before after e
frame_ends o s sum t before after e is decided told ended = λ r stream f tally.
    let totals = totals_are r o s sum t stream f is (decided r o.mode o.period stream Unknown Unknown f) tally in
    let stops : end_of o (totals_after o f.skipped f.frames []) ≡ end_after o f.skipped f.frames =
    ap (λ b. if o.until_fault && b then Some (endings.Counted (totals_after o f.skipped f.frames [])) else None)
    (saturated_some (faults_in (found_in o f.frames))) in (
      subst (λ (l : List Line). LogsLines before after l) (due_is r o s t stream f totals) told,
      ended
          ∙ ap (end_of o) totals ∙ stops,
    )

-- ---- a FIB with which a stream is refused

pub step_full : (r : Reading) (o : CheckOptions) (fibs : List (List ℕ)) (fib : List ℕ) (log : List Line) (old : State)
    (found : List Finding) (h : IsAfter r o fibs log old) → HasFibSize fib
    → (before after : Reported) → before ≡ AtMost 1024 [] → after ≡ AtMost 1024 found
    → EndsAtFib r o.mode o.period h.stream (r.read fib) before after old.checker
    → StopsWithFib r o fibs fib (log ++ finding_lines found) (endings.Refused causes.Full)
step_full r o fibs fib log old found h size before after empty given step =
    let f = h.follows in
    let one = step f in
    let g = one.0 in
    let frame = one.1.0 in
    let is : found ≡ found_next o f.frames frame =
    findings_are _ _ (sym given ∙ one.1.3 ∙ ap (λ b. with_more b (found_next o f.frames frame)) empty) in
    let none : alive_lines o g.skipped g.frames ≡ [] =
    ap (λ b. if not b && is_due o.every (length g.frames) then lines.Alive (totals_after o g.skipped g.frames [])
    ∷ [] else []) g.full in
    let all = log ++ finding_lines found in (
      g.skipped,
      g.frames,
      record {
        log_before = log;
        before = goes_on r o fibs log old h;
        size = size;
        frame = frame;
        rest = g.rest;
        framed = rw (← read_more r fibs fib h.stream h.read) g.framed;
        one_more = one.1.1;
        lines = sym (append-nil all) ∙ ap (λ l. all ++ l) (sym none)
            ∙ lines_more o log f.skipped g.skipped f.frames g.frames frame found one.1.1 one.1.2 is h.lines;
      },
      g.full,
    )

pub step_long : (r : Reading) (o : CheckOptions) (fibs : List (List ℕ)) (fib : List ℕ) (log : List Line) (old : State)
    (found : List Finding) (h : IsAfter r o fibs log old) → HasFibSize fib
    → (before after : Reported) → before ≡ AtMost 1024 [] → after ≡ AtMost 1024 found → IsAtLimit old.checker
    → after ≡ before → StopsWithFib r o fibs fib (log ++ finding_lines found) (endings.Refused causes.TooLong)
step_long r o fibs fib log old found h size before after empty given limit same =
    subst (λ (l : List Line). StopsWithFib r o fibs fib l (endings.Refused causes.TooLong))
    (sym (ap (λ l. log ++ finding_lines l) (findings_are found [] (sym given ∙ same ∙ empty)) ∙ append-nil log))
    (goes_on r o fibs log old h, size, at_limit limit)
  where
    at_limit : IsAtLimit old.checker → IsTooLong h.follows.skipped h.follows.frames
    at_limit (inl many) = inl (subst (λ (n : ℕ). most ≤ n)
        (frame_count (count_step o.mode) o.period h.follows.frames old.checker.state h.follows.knows) many)
    at_limit (inr (inl many)) = inr (inl (subst (λ (n : ℕ). most ≤ n) h.follows.skips many))
    at_limit (inr (inr many)) = inr (inr (subst (λ (n : ℕ). most ≤ n) h.follows.damages many))

pub step_refused : (r : Reading) (o : CheckOptions) (fibs : List (List ℕ)) (fib : List ℕ) (log : List Line)
    (old new : State) (found : List Finding) (h : IsAfter r o fibs log old) → HasFibSize fib
    → (before after : Reported) → before ≡ AtMost 1024 [] → after ≡ AtMost 1024 found
    → (fault : CheckFault) (cause : Cause) → cause ≡ cause_of fault
    → (fault ≡ faults.Full → EndsAtFib r o.mode o.period h.stream (r.read fib) before after old.checker)
    → (fault ≡ faults.TooLong → IsAtLimit old.checker)
    → (fault ≡ faults.TooLong → after ≡ before) → StopsWithFib r o fibs fib (log ++ finding_lines found)
    (endings.Refused cause)
step_refused r o fibs fib log old new found h size before after empty given faults.Full cause is full long same =
    rw is (step_full r o fibs fib log old found h size before after empty given (full refl))
step_refused r o fibs fib log old new found h size before after empty given faults.TooLong cause is full long same =
    rw is (step_long r o fibs fib log old found h size before after empty given (long refl) (same refl))

-- what is returned as it is
pub of_result : {A E : Type 0} (r : Result A E) (P Q : A → Type 0) → ((x : A) → P x → Q x) → IfOk r P → IfOk r Q
of_result (Ok x) P Q on h = on x h
of_result (Err e) P Q on h = tt
