-- The swaps of frames, one stretch after another, and of the steps behind them.
use Rattle.plan_timeline.proofs.Words.{AreQuiet, ContactStep, Err, Event, FindsNext, Frame, Frames, HasTooMany}
use Rattle.plan_timeline.proofs.Words.{IfNone, IfOk, IfSome, swapped, ◌≤◌, List, ListsSteps, None, Ok, OnErr, Option}
use Rattle.plan_timeline.proofs.Words.{Playing, Plays}
use Rattle.plan_timeline.proofs.Words.{Position, Program, Result, Scan, Some, State, Step, Swap, Swapped, TakesStep}
use Rattle.plan_timeline.proofs.Words.{TooManyFrames, Went, [], true≢false, ℕ, ◌++◌, ◌+◌, ◌<◌, ◌∙◌, ◌∷◌, ◌≡◌}
use Rattle.plan_timeline.proofs.Words.{after_frame, ap, append-nil, append_assoc, arith, begun, events_of}
use Rattle.plan_timeline.proofs.Words.{events_of_step, false, found, frame_count, frames_in, frames_in_all}
use Rattle.plan_timeline.proofs.Words.{is_some, left_of, played, played_join, refl, replicate, replicate_more, run}
use Rattle.plan_timeline.proofs.Words.{suc, swap_in, swaps_over, sym, true, zero}

-- ---- frames, and then other events

frames_then : (p : Program) (s : State) (n k : ℕ) (es : List Event)
    → swaps_over p s n (replicate k Frame ++ es)
    ≡ swaps_over p s n (replicate k Frame) ++ swaps_over p (run p s (replicate k Frame)) (n + k) es
frames_then p s n zero es =
    let same : n ≡ n + 0 = omega arith in
    ap (λ (m : ℕ). swaps_over p s m es) same
frames_then p s n (suc k) es =
    let t : State = after_frame p s in
    let same : n + 1 + k ≡ n + suc k = omega arith in
    ap (λ (l : List Swapped). swap_in s n ++ l) (frames_then p t (n + 1) k es)
    ∙ sym (append_assoc (swap_in s n) (swaps_over p t (n + 1) (replicate k Frame))
    (swaps_over p (run p t (replicate k Frame)) (n + 1 + k) es))
    ∙ ap (λ (m : ℕ). (swap_in s n ++ swaps_over p t (n + 1) (replicate k Frame))
    ++ swaps_over p (run p t (replicate k Frame)) m es) same

-- quiet frames have no swap
pub quiet_none : (p : Program) (s : State) (n k : ℕ) → AreQuiet p k s → [] ≡ swaps_over p s n (replicate k Frame)
quiet_none p s n zero quiet = refl
quiet_none p s n (suc k) quiet =
    let rest : List Swapped = swaps_over p (after_frame p s) (n + 1) (replicate k Frame) in
    let none : [] ≡ swap_in s n = rw (quiet.0.no_swap) refl in
    quiet_none p (after_frame p s) (n + 1) k quiet.1 ∙ ap (λ (l : List Swapped). l ++ rest) none

-- ---- the frames of the step at hand

pub went_quiet : (old new : Playing) (before after : Position) (k : ℕ) → before.left ≡ k + after.left
    → after.frame ≡ before.frame + k → new ≡ played old (replicate k Frame) → AreQuiet old.code k old.state
    → Went old before new after []
went_quiet old new before after k left frame state quiet = record {
  frames = k;
  left = left;
  frame = frame;
  state = state;
  swaps_are = quiet_none old.code old.state before.frame k quiet;
}

pub went_one : (old mid new : Playing) (before after : Position) (j : ℕ) (ws : List Swapped) → j ≡ 0
    → mid ≡ played old (replicate j Frame) → new ≡ played mid (Frame ∷ []) → ws ≡ swap_in mid.state before.frame
    → before.left ≡ 1 + after.left → after.frame ≡ before.frame + 1 → Went old before new after ws
went_one old mid new before after j ws none still state swap left frame =
    let same : mid ≡ old = still ∙ ap (λ (k : ℕ). played old (replicate k Frame)) none in
    record {
      frames = 1;
      left = left;
      frame = frame;
      state = state ∙ ap (λ (p : Playing). played p (Frame ∷ [])) same;
      swaps_are = swap ∙ ap (λ (p : Playing). swap_in p.state before.frame) same
          ∙ sym (append-nil (swap_in old.state before.frame));
    }

pub went_none : (p : Playing) (at : Position) → Went p at p at []
went_none p at = record {
  frames = 0;
  left = omega arith;
  frame = omega arith;
  state = refl;
  swaps_are = refl;
}

pub went_then : (a b c : Playing) (x y z : Position) (ws : List Swapped) → Went a x b y [] → Went b y c z ws
    → Went a x c z ws
went_then a b c x y z ws h g =
    let j : ℕ = h.frames in
    let k : ℕ = g.frames in
    let more = replicate_more j k in
    let swaps : swaps_over a.code a.state x.frame (replicate (j + k) Frame) ≡ ws =
    ap (λ (l : List Event). swaps_over a.code a.state x.frame l) more
    ∙ frames_then a.code a.state x.frame j (replicate k Frame)
    ∙ ap (λ (l : List Swapped). l ++ swaps_over a.code (run a.code a.state (replicate j Frame)) (x.frame + j)
    (replicate k Frame)) (sym h.swaps_are)
    ∙ ap (λ (p : Playing). swaps_over p.code p.state (x.frame + j) (replicate k Frame)) (sym h.state)
    ∙ ap (λ (m : ℕ). swaps_over b.code b.state m (replicate k Frame)) (sym h.frame)
    ∙ sym g.swaps_are in
    record {
      frames = j + k;
      left = omega (arith, h.left, g.left);
      frame = omega (arith, h.frame, g.frame);
      state = g.state ∙ ap (λ (p : Playing). played p (replicate k Frame)) h.state
          ∙ sym (played_join a (replicate j Frame) (replicate k Frame))
          ∙ ap (λ (l : List Event). played a l) (sym more);
      swaps_are = sym swaps;
    }

-- ---- the number of frames

count_then : (n : ℕ) (es : List Event) → frame_count (replicate n Frame ++ es) ≡ n + frame_count es
count_then zero es = let same : frame_count es ≡ 0 + frame_count es = omega arith in same
count_then (suc n) es = let more = count_then n es in omega (arith, more)

count_step : (step : Step) (es : List Event) → frame_count (events_of_step step ++ es) ≡ frames_in step + frame_count es
count_step (ContactStep contact closed) es = let same : frame_count es ≡ 0 + frame_count es = omega arith in same
count_step (Frames n) es = count_then n es

-- ---- and the steps behind it

pub plays_none : (p : Playing) (at : Position) (s : Scan) → Plays p at s p at s []
plays_none p at s = λ all lists. (all, lists, refl, refl, refl)

pub plays_then : (a b c : Playing) (x y z : Position) (s t : Scan) (ws : List Swapped) → Plays a x s b y t []
    → Went b y c z ws → Plays a x s c z t ws
plays_then a b c x y z s t ws h g = λ all lists.
    let on = h all lists in
    let rest : List Step = on.0 in
    let k : ℕ = g.frames in
    let others : List Event = left_of z rest in
    let cut : left_of y rest ≡ replicate k Frame ++ others =
    ap (λ (m : ℕ). replicate m Frame ++ events_of rest) g.left
    ∙ ap (λ (l : List Event). l ++ events_of rest) (replicate_more k z.left)
    ∙ append_assoc (replicate k Frame) (replicate z.left Frame) (events_of rest) in
    let swaps : swaps_over b.code b.state y.frame (left_of y rest) ≡ ws ++ swaps_over c.code c.state z.frame others =
    ap (λ (l : List Event). swaps_over b.code b.state y.frame l) cut
    ∙ frames_then b.code b.state y.frame k others
    ∙ ap (λ (l : List Swapped). l ++ swaps_over b.code (run b.code b.state (replicate k Frame)) (y.frame + k) others)
    (sym g.swaps_are)
    ∙ ap (λ (p : Playing). ws ++ swaps_over p.code p.state (y.frame + k) others) (sym g.state)
    ∙ ap (λ (m : ℕ). ws ++ swaps_over c.code c.state m others) (sym g.frame) in
    let player : played b (left_of y rest) ≡ played c others =
    ap (λ (l : List Event). played b l) cut ∙ played_join b (replicate k Frame) others
    ∙ ap (λ (p : Playing). played p others) (sym g.state) in
    let count : frame_count (left_of y rest) ≡ k + frame_count others = ap frame_count cut ∙ count_then k others in
    let frames : frames_in_all z rest ≡ frames_in_all x all = omega (arith, count, g.frame, on.4) in
    (rest, on.1, on.2 ∙ swaps, on.3 ∙ player, frames)

-- the events of a step are its contact's change, if it has one, and its frames
begun_first : (b : Playing) (n : ℕ) (step : Step) (es : List Event)
    → swaps_over b.code b.state n (events_of_step step ++ es)
    ≡ swaps_over (begun b step).code (begun b step).state n (replicate (frames_in step) Frame ++ es)
begun_first b n (ContactStep contact closed) es = refl
begun_first b n (Frames count) es = refl

begun_played : (b : Playing) (step : Step) (es : List Event)
    → played b (events_of_step step ++ es) ≡ played (begun b step) (replicate (frames_in step) Frame ++ es)
begun_played b (ContactStep contact closed) es = refl
begun_played b (Frames count) es = refl

-- the next step is at hand
pub step_taken : (a b c : Playing) (x y z : Position) (s t u : Scan) (step : Step) → Plays a x s b y t [] → y.left ≡ 0
    → TakesStep t u (Some step) → c ≡ begun b step → z.frame ≡ y.frame → z.left ≡ frames_in step
    → Plays a x s c z u []
step_taken a b c x y z s t u step h none takes state frame left = λ all lists.
    let on = h all lists in
    let next = takes.on on.0 on.1 in
    let rest : List Step = next.0 in
    let cut : left_of y on.0 ≡ events_of_step step ++ events_of rest =
    ap (λ (m : ℕ). replicate m Frame ++ events_of on.0) none ∙ ap (λ (l : List Step). events_of l) next.1 in
    let kept : replicate (frames_in step) Frame ++ events_of rest ≡ left_of z rest =
    ap (λ (m : ℕ). replicate m Frame ++ events_of rest) (sym left) in
    let swaps : swaps_over b.code b.state y.frame (left_of y on.0)
    ≡ swaps_over c.code c.state z.frame (left_of z rest) =
    ap (λ (l : List Event). swaps_over b.code b.state y.frame l) cut
    ∙ begun_first b y.frame step (events_of rest)
    ∙ ap (λ (l : List Event). swaps_over (begun b step).code (begun b step).state y.frame l) kept
    ∙ ap (λ (p : Playing). swaps_over p.code p.state y.frame (left_of z rest)) (sym state)
    ∙ ap (λ (m : ℕ). swaps_over c.code c.state m (left_of z rest)) (sym frame) in
    let player : played b (left_of y on.0) ≡ played c (left_of z rest) =
    ap (λ (l : List Event). played b l) cut ∙ begun_played b step (events_of rest)
    ∙ ap (λ (l : List Event). played (begun b step) l) kept
    ∙ ap (λ (p : Playing). played p (left_of z rest)) (sym state) in
    let old : frame_count (left_of y on.0) ≡ frames_in step + frame_count (events_of rest) =
    ap frame_count cut ∙ count_step step (events_of rest) in
    let now : frames_in step + frame_count (events_of rest) ≡ frame_count (left_of z rest) =
    sym (count_then (frames_in step) (events_of rest)) ∙ ap frame_count kept in
    let frames : frames_in_all z rest ≡ frames_in_all x all = omega (arith, old, now, frame, on.4) in
    (rest, next.2, on.2 ∙ swaps, on.3 ∙ player, frames)

-- ---- the end

-- nothing is left
pub plays_all : (a b : Playing) (x y : Position) (s t u : Scan) → Plays a x s b y t [] → y.left ≡ 0 → TakesStep t u None
    → (all : List Step) → ListsSteps s all
    → (swaps_over a.code a.state x.frame (left_of x all) ≡ []) × (b ≡ played a (left_of x all))
    × (y.frame ≡ frames_in_all x all)
plays_all a b x y s t u h none takes all lists =
    let on = h all lists in
    let end : left_of y on.0 ≡ [] =
    ap (λ (m : ℕ). replicate m Frame ++ events_of on.0) none
    ∙ ap (λ (l : List Step). events_of l) (takes on.0 on.1) in
    let count : frame_count (left_of y on.0) ≡ 0 = ap frame_count end in (
      on.2 ∙ ap (λ (l : List Event). swaps_over b.code b.state y.frame l) end,
      sym (on.3 ∙ ap (λ (l : List Event). played b l) end),
      omega (arith, count, on.4),
    )

-- ---- the next swap

-- a step is played, after which there may be a swap
pub step_played : (a b c d : Playing) (x y z v : Position) (s t u : Scan) (before now : Option Swap) (step : Step)
    → is_some before ≡ false → Plays a x s b y t (found before) → IfNone before (y.left ≡ 0)
    → TakesStep t u (Some step) → c ≡ begun b step → z.frame ≡ y.frame → z.left ≡ frames_in step
    → Went c z d v (found now) → Plays a x s d v u (found now)
step_played a b c d x y z v s t u (Some w) now step e h none takes state frame left went = absurd (true≢false e)
step_played a b c d x y z v s t u None now step e h none takes state frame left went =
    plays_then a c d x z v s u (found now) (step_taken a b c x y z s t u step h none takes state frame left) went

pub all_played : (a b : Playing) (x y : Position) (s t u : Scan) (before : Option Swap) → is_some before ≡ false
    → Plays a x s b y t (found before) → IfNone before (y.left ≡ 0) → TakesStep t u None
    → FindsNext a x s b y u None
all_played a b x y s t u (Some w) e h none takes = absurd (true≢false e)
all_played a b x y s t u None e h none takes = plays_all a b x y s t u h none takes

pub next_found : (a b : Playing) (x y : Position) (s t : Scan) (swap : Option Swap) → is_some swap ≡ true
    → Plays a x s b y t (found swap) → FindsNext a x s b y t swap
next_found a b x y s t (Some w) e h = h
next_found a b x y s t None e h = absurd (true≢false (sym e))

-- the frames of the step at hand have no swap
pub found_behind : (a b c : Playing) (x y z : Position) (s t : Scan) (swap : Option Swap) → Went a x b y []
    → FindsNext b y s c z t swap → FindsNext a x s c z t swap
found_behind a b c x y z s t (Some w) went finds = λ all lists.
    let on = plays_then a a b x x y s s [] (plays_none a x s) went all lists in
    let next = finds on.0 on.1 in (next.0, next.1, on.2 ∙ next.2, on.3 ∙ next.3, next.4 ∙ on.4)
found_behind a b c x y z s t None went finds = λ all lists.
    let on = plays_then a a b x x y s s [] (plays_none a x s) went all lists in
    let end = finds on.0 on.1 in (on.2 ∙ end.0, end.1 ∙ sym on.3, end.2 ∙ on.4)

pub finds_behind : (a b c : Playing) (x y z : Position) (s t : Scan) (r : Result (Option Swap) TooManyFrames)
    → Went a x b y [] → IfOk r (λ swap. FindsNext b y s c z t swap) → IfOk r (λ swap. FindsNext a x s c z t swap)
finds_behind a b c x y z s t (Ok swap) went finds = found_behind a b c x y z s t swap went finds
finds_behind a b c x y z s t (Err e) went finds = finds

-- ---- more frames than can be numbered

-- those of the next step are too many
pub begun_over : (a b : Playing) (x y : Position) (s t u : Scan) (before : Option Swap) (step : Step)
    → is_some before ≡ false → Plays a x s b y t (found before) → TakesStep t u (Some step)
    → 18446744073709551615 < y.frame + frames_in step → HasTooMany x s
begun_over a b x y s t u (Some w) step e h takes over = absurd (true≢false e)
begun_over a b x y s t u None step e h takes over = λ all lists.
    let on = h all lists in
    let rest : List Step = (takes.on on.0 on.1).0 in
    let cut : events_of on.0 ≡ events_of_step step ++ events_of rest = ap events_of (takes.on on.0 on.1).1 in
    let first : frame_count (left_of y on.0) ≡ y.left + frame_count (events_of on.0) =
    count_then y.left (events_of on.0) in
    let count : frame_count (events_of on.0) ≡ frames_in step + frame_count (events_of rest) =
    ap frame_count cut ∙ count_step step (events_of rest) in
    omega (arith, over, first, count, on.4)

-- the frames of the step at hand are among them
pub over_behind : (a b : Playing) (x y : Position) (s : Scan) (r : Result (Option Swap) TooManyFrames)
    → Went a x b y [] → OnErr r (HasTooMany y s) → OnErr r (HasTooMany x s)
over_behind a b x y s (Ok swap) went over = over
over_behind a b x y s (Err e) went over = λ all lists.
    let now = count_then y.left (events_of all) in
    let old = count_then x.left (events_of all) in
    let more = over all lists in omega (arith, went.left, went.frame, now, old, more)

-- ---- each swap is in a later frame

some_frames : (w : Swapped) (p : Program) (s : State) (n k : ℕ) → w ∷ [] ≡ swaps_over p s n (replicate k Frame) → 1 ≤ k
some_frames w p s n zero e = absurd (cc)
some_frames w p s n (suc k) e = omega arith

pub went_onward : (old new : Playing) (before after : Position) (swap : Option Swap)
    → Went old before new after (found swap) → IfSome swap (λ w. before.frame < after.frame)
went_onward old new before after None went = tt
went_onward old new before after (Some w) went =
    let some = some_frames (swapped w) old.code old.state before.frame went.frames went.swaps_are in
    omega (arith, some, went.frame)

-- from an earlier frame, too
pub onward_from : (x y z : ℕ) (swap : Option Swap) → x ≤ y → IfSome swap (λ w. y < z) → IfSome swap (λ w. x < z)
onward_from x y z None le h = tt
onward_from x y z (Some w) le h = omega (arith, le, h)

pub found_onward : (x y z : ℕ) (r : Result (Option Swap) TooManyFrames) → x ≤ y
    → IfOk r (λ swap. IfSome swap (λ w. y < z)) → IfOk r (λ swap. IfSome swap (λ w. x < z))
found_onward x y z (Ok swap) le h = onward_from x y z swap le h
found_onward x y z (Err e) le h = tt
