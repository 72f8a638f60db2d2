-- What the player's calls require of quiet frames that go to a sink together.
use Rattle.plan_player.proofs.Words.{[], ◌++◌, ◌+◌, ◌-◌, ◌<◌, ◌∙◌, ◌∷◌, ◌≡◌, ◌≤◌, Appends, AreQuiet, Delivered, Err}
use Rattle.plan_player.proofs.Words.{Event, Frame, HasChange, IfErr, IfOk, IsCut, IsGoing, IsPageReady, IsQuiet}
use Rattle.plan_player.proofs.Words.{IsStretch, Keeps, List, None, Ok, OnOk, Option, PhasePages, Plan, Playing, Program}
use Rattle.plan_player.proofs.Words.{Result, Some, State, Stopped, SwapIsAway, after_frame, ap, arith, concat}
use Rattle.plan_player.proofs.Words.{counted_on, eqb-false, false, frame_bytes, is_due, is_first_noticed, last_steps}
use Rattle.plan_player.proofs.Words.{left_after_frame, next_frame, notice_frames, page_after, played}
use Rattle.plan_player.proofs.Words.{played_bytes, refl, replicate, run, run_frames, sent_entries, sent_rounds, shown}
use Rattle.plan_player.proofs.Words.{shown_bytes, subst, suc, sym, take, true, with_next_counts, zero, ℕ}
use Rattle.plan_player.specs.declared.fault.Accepted.{Accepted}
use Rattle.plan_player.proofs.Keeping.{turned}
use Rattle.plan_player.proofs.Quiet.{stays, quiet_frames_are_copied}
use Rattle.plan_player.proofs.Joining.{replicate_more, stopped_among, all_frames}
use Rattle.plan_player.proofs.FrameFacts.{frame_ready, lent_goes}

-- ---- what the calls require of one quiet frame

-- its page can be sent in this state
pub quiet_ready : (p : Program) (plan : Plan) (s : State) (steps : ℕ) (pages : PhasePages) → plan ≡ p.plan
    → IsGoing p s steps pages → IsQuiet p s
    → IsPageReady plan s pages
quiet_ready p plan s steps pages e h quiet =
    let ready = frame_ready p s steps pages h in
    let now = stays p s quiet in
    let off : is_first_noticed p.plan.notice (shown p s).left ≡ false = rw (now.shows) now.no_notice in
    let there : IsPageReady p.plan (shown p s) pages =
    record { sent = ready.sent; few = ready.few; keeps = ready.kept quiet.no_phase; change = ready.change off } in
    rw (e) (rw (← now.shows) there)

-- and so it can for a player whose fields these are
pub ready_in : (old : Playing) (p : Program) (plan : Plan) (s : State) (steps : ℕ) (pages : PhasePages)
    → (let here : Playing = record { code = p; state = s; steps = steps } in here ≡ old)
    → plan ≡ old.code.plan → IsQuiet old.code old.state → IsGoing p s steps pages → IsPageReady plan s pages
ready_in old p plan s steps pages same e quiet h =
    quiet_ready p plan s steps pages (subst (λ (x : Playing). plan ≡ x.code.plan) (sym same) e) h
    (subst (λ (x : Playing). IsQuiet x.code x.state) (sym same) quiet)

-- the state after it
quiet_after : (p : Program) (plan : Plan) (s t : State) → plan ≡ p.plan → IsQuiet p s → t ≡ with_next_counts plan s
    → t ≡ after_frame p s
quiet_after p plan s t e quiet state = cc (state, e, (stays p s quiet).after)

pub quiet_goes : (p : Program) (plan : Plan) (s t : State) (steps : ℕ) (pages after : PhasePages) → plan ≡ p.plan
    → IsGoing p s steps pages → IsQuiet p s
    → t ≡ with_next_counts plan s → Keeps plan.layout (sent_entries plan s)
    (page_after (sent_rounds plan s) s.page_index) after → after.change ≡ pages.change
    → IsGoing p t 0 after
quiet_goes p plan s t steps pages after e h quiet state keeps same =
    let now = stays p s quiet in
    let ready = quiet_ready p p.plan s steps pages refl h quiet in
    let kept : Keeps p.plan.layout (sent_entries p.plan (shown p s)) (after_frame p s).page_index after =
    rw (now.shows) (rw (← e) keeps) in
    let change : HasChange p.plan.notice (shown p s).left (shown p s).current (shown p s).next after.change =
    rw (now.shows) (rw (same) ready.change) in
    lent_goes p p s t steps 0 pages after refl h (quiet_after p plan s t e quiet state) (sym now.no_steps) kept change

-- the player after it, and its bytes
pub quiet_played : (p : Program) (plan : Plan) (s t : State) (steps : ℕ) → plan ≡ p.plan → IsQuiet p s
    → t ≡ with_next_counts plan s
    → (let old : Playing = record { code = p; state = s; steps = steps } in
    (record { code = p; state = t; steps = 0 }) ≡ played old (Frame ∷ []))
quiet_played p plan s t steps e quiet state =
    let now = stays p s quiet in
    ap (λ (u : State). let r : Playing = record { code = p; state = u; steps = 0 } in r)
    (quiet_after p plan s t e quiet state)
    ∙ ap (λ (n : ℕ). let r : Playing = record { code = p; state = after_frame p s; steps = n } in r) (sym now.no_steps)

pub quiet_bytes : (p : Program) (plan : Plan) (s : State) → plan ≡ p.plan → IsQuiet p s
    → shown_bytes plan s ≡ frame_bytes p s
quiet_bytes p plan s e quiet = ap (λ (q : Plan). shown_bytes q s) e ∙ sym (stays p s quiet).bytes

-- ---- fewer frames, and each of them

pub fewer_quiet : (p : Program) (m n : ℕ) (s : State) → n ≤ m → AreQuiet p m s → AreQuiet p n s
fewer_quiet p m zero s le quiet = tt
fewer_quiet p zero (suc n) s le quiet = absurd (omega (arith, le))
fewer_quiet p (suc m) (suc n) s le quiet = (quiet.0, fewer_quiet p m n (after_frame p s) (omega (arith, le)) quiet.1)

quiet_on : (p : Program) (m : ℕ) (s : State) → IsQuiet p s → AreQuiet p m (after_frame p s)
    → AreQuiet p m (with_next_counts p.plan s)
quiet_on p m s now later = subst (λ (t : State). AreQuiet p m t) (stays p s now).after later

pub quiet_at : (p : Program) (n k : ℕ) (s : State) → k < n → AreQuiet p n s → IsQuiet p (counted_on p.plan k s)
quiet_at p zero k s lt quiet = absurd (omega (arith, lt))
quiet_at p (suc n) zero s lt quiet = quiet.0
quiet_at p (suc n) (suc k) s lt quiet =
    quiet_at p n k (with_next_counts p.plan s) (omega (arith, lt)) (quiet_on p n s quiet.0 quiet.1)

-- ---- no swap within the stretch

away_more : (notice n : ℕ) (left : Option ℕ) → is_due left ≡ false → is_first_noticed notice left ≡ false
    → SwapIsAway notice (left_after_frame left) n → SwapIsAway notice left (suc n)
away_more notice n None due first away = tt
away_more notice n (Some l) due first away =
    let some = eqb-false l 0 due in
    let apart = eqb-false l notice first in
    (omega (arith, some, away.0), λ from. omega (arith, some, apart, from, away.1 (omega (arith, some, apart, from))))

none_away : (notice : ℕ) (left : Option ℕ) → SwapIsAway notice left 0
none_away notice None = tt
none_away notice (Some l) = (omega arith, λ from. omega (arith, from))

swap_away : (p : Program) (n : ℕ) (s : State) → AreQuiet p n s → SwapIsAway p.plan.notice s.left n
swap_away p zero s quiet = none_away p.plan.notice s.left
swap_away p (suc n) s quiet =
    away_more p.plan.notice n s.left quiet.0.no_swap (stays p s quiet.0).no_notice
    (swap_away p n (with_next_counts p.plan s) (quiet_on p n s quiet.0 quiet.1))

-- ---- the invariant between the frames

next_goes : (p : Program) (s : State) (steps : ℕ) (pages : PhasePages) → pages.is_whole ≡ true → IsGoing p s steps pages
    → IsQuiet p s → IsGoing p (with_next_counts p.plan s) 0 pages
next_goes p s steps pages whole h quiet =
    let ready = quiet_ready p p.plan s steps pages refl h quiet in
    let keeps = turned p.plan.layout (sent_entries p.plan s) s.page_index (sent_rounds p.plan s) pages ready.keeps
    (omega (arith, ready.sent.page_index)) in
    quiet_goes p p.plan s (with_next_counts p.plan s) steps pages pages refl h quiet refl keeps refl

pub going_on : (p : Program) (n k : ℕ) (s : State) (steps : ℕ) (pages : PhasePages) → k ≤ n → pages.is_whole ≡ true
    → IsGoing p s steps pages → AreQuiet p n s → IsGoing p (counted_on p.plan k s) 0 pages
going_on p n zero s steps pages le whole h quiet = record { played = h.played; phase = h.phase; within = omega arith }
going_on p zero (suc k) s steps pages le whole h quiet = absurd (omega (arith, le))
going_on p (suc n) (suc k) s steps pages le whole h quiet =
    going_on p n k (with_next_counts p.plan s) 0 pages (omega (arith, le)) whole
    (next_goes p s steps pages whole h quiet.0) (quiet_on p n s quiet.0 quiet.1)

pub stretch : (p : Program) (plan : Plan) (n : ℕ) (s : State) (steps : ℕ) (pages : PhasePages) → plan ≡ p.plan
    → pages.is_whole ≡ true → IsGoing p s steps pages → AreQuiet p n s → IsStretch plan n s pages
stretch p plan n s steps pages e whole h quiet =
    let here : IsStretch p.plan n s pages = record {
      whole = whole;
      away = swap_away p n s quiet;
      ready = λ k lt. quiet_ready p p.plan (counted_on p.plan k s) 0 pages refl
          (going_on p n k s steps pages (omega (arith, lt)) whole h quiet) (quiet_at p n k s lt quiet);
    } in
    rw (e) here

-- ---- the player after the frames

steps_on : (p : Program) (n : ℕ) (s : State) (steps : ℕ) → 1 ≤ n → AreQuiet p n s
    → last_steps p s steps (replicate n Frame) ≡ 0
steps_on p zero s steps some quiet = absurd (omega (arith, some))
steps_on p (suc n) s steps some quiet = (quiet_frames_are_copied p (suc n) s quiet).no_steps

pub played_on : (p : Program) (n : ℕ) (s : State) (steps : ℕ) → 1 ≤ n → AreQuiet p n s
    → (let old : Playing = record { code = p; state = s; steps = steps } in
    (record { code = p; state = counted_on p.plan n s; steps = 0 }) ≡ played old (replicate n Frame))
played_on p n s steps some quiet =
    let copied = quiet_frames_are_copied p n s quiet in
    ap (λ (t : State). let r : Playing = record { code = p; state = t; steps = 0 } in r) (sym copied.state)
    ∙ ap (λ (k : ℕ). let r : Playing = record { code = p; state = run p s (replicate n Frame); steps = k } in r)
    (sym (steps_on p n s steps some quiet))

-- the same of a player whose fields these are
pub passed_by : (p : Program) (plan : Plan) (n : ℕ) (s t : State) (steps : ℕ) → plan ≡ p.plan → 1 ≤ n → AreQuiet p n s
    → t ≡ counted_on plan n s
    → (let old : Playing = record { code = p; state = s; steps = steps } in
    (record { code = p; state = t; steps = 0 }) ≡ played old (replicate n Frame))
passed_by p plan n s t steps e some quiet state =
    let at : t ≡ counted_on p.plan n s = rw (← e) state in
    ap (λ (u : State). let r : Playing = record { code = p; state = u; steps = 0 } in r) at
    ∙ played_on p n s steps some quiet

bytes_on : (p : Program) (n : ℕ) (s : State) → AreQuiet p n s
    → concat (notice_frames p.plan n s) ≡ concat (run_frames p s (replicate n Frame))
bytes_on p n s quiet = ap (λ (fs : List (List ℕ)). concat fs) (sym (quiet_frames_are_copied p n s quiet).frames)

pub stretch_delivered : (p : Program) (n : ℕ) (s t : State) (steps : ℕ) (x y : Option (List ℕ)) → 1 ≤ n → AreQuiet p n s
    → t ≡ counted_on p.plan n s → Appends x y (concat (notice_frames p.plan n s))
    → (let old : Playing = record { code = p; state = s; steps = steps } in
    Delivered old (record { code = p; state = t; steps = 0 }) (replicate n Frame) x y n)
stretch_delivered p n s t steps x y some quiet state out = record {
  state = ap (λ (u : State). let r : Playing = record { code = p; state = u; steps = 0 } in r) state
      ∙ played_on p n s steps some quiet;
  out = rw (← bytes_on p n s quiet) out;
  whole = all_frames p s n;
}

-- ---- the sink failed in one of them

pub stretch_stopped : (p : Program) (n : ℕ) (s t : State) (steps : ℕ) (x y : Option (List ℕ)) (frames bytes : ℕ)
    → AreQuiet p n s → IsCut p.plan n s t x y frames bytes
    → (let old : Playing = record { code = p; state = s; steps = steps } in
    Stopped old (record { code = p; state = t; steps = 0 }) (replicate n Frame) x y frames bytes)
stretch_stopped p n s t steps x y frames bytes quiet cut =
    let old : Playing = record { code = p; state = s; steps = steps } in
    let done : List Event = replicate frames Frame in
    let r : ℕ = n - suc frames in
    let at : State = counted_on p.plan frames s in
    let before = fewer_quiet p n frames s (omega (arith, cut.few)) quiet in
    let upto = fewer_quiet p n (suc frames) s (omega (arith, cut.few)) quiet in
    let next : shown_bytes p.plan at ≡ next_frame (played old done) =
    cc ((stays p at (quiet_at p n frames s cut.few quiet)).bytes, (quiet_frames_are_copied p frames s before).state) in
    let one : frames + 1 ≡ suc frames = omega arith in
    let last = ap (λ (k : ℕ). replicate k Frame) (sym one) ∙ replicate_more frames 1 in
    let text : concat (notice_frames p.plan frames s) ++ take bytes (shown_bytes p.plan at) ≡ played_bytes old done ++
    take bytes (next_frame (played old done)) = rw (bytes_on p frames s before, next) refl in
    record {
      done = done;
      rest = replicate r Frame;
      cut = ap (λ (k : ℕ). replicate k Frame) (sym (omega (arith, cut.few))) ∙ replicate_more frames (suc r);
      whole = all_frames p s frames;
      part = rw (← next) cut.part;
      state = ap (λ (u : State). let q : Playing = record { code = p; state = u; steps = 0 } in q) cut.state
          ∙ played_on p (suc frames) s steps (omega arith) upto
          ∙ ap (λ (l : List Event). played old l) last;
      out = rw (← text) cut.out;
    }

-- ---- results

pub quiet_done : (p : Program) (plan : Plan) (n : ℕ) (s t : State) (steps : ℕ) (x y : Option (List ℕ))
    (r : Result ℕ Accepted) → plan ≡ p.plan → 1 ≤ n → AreQuiet p n s
    → IfOk r (λ k. k ≡ n) → OnOk r (t ≡ counted_on plan n s) → OnOk r (Appends x y (concat (notice_frames plan n s)))
    → (let old : Playing = record { code = p; state = s; steps = steps } in
    IfOk r (λ k. Delivered old (record { code = p; state = t; steps = 0 }) (replicate k Frame) x y k))
quiet_done p plan n s t steps x y (Err cut) e some quiet all state out = tt
quiet_done p plan n s t steps x y (Ok m) e some quiet all state out =
    let whole = stretch_delivered p n s t steps x y some quiet (rw (← e) state) (rw (← e) out) in
    rw (all) whole

pub quiet_stopped : (p : Program) (plan : Plan) (m n : ℕ) (s t : State) (steps : ℕ) (x y : Option (List ℕ))
    (r : Result ℕ Accepted) → plan ≡ p.plan → n ≤ m → AreQuiet p n s
    → IfErr r (λ cut. IsCut plan n s t x y cut.frames cut.bytes)
    → (let old : Playing = record { code = p; state = s; steps = steps } in
    let new : Playing = record { code = p; state = t; steps = 0 } in
    IfErr r (λ cut. Stopped old new (replicate m Frame) x y cut.frames cut.bytes))
quiet_stopped p plan m n s t steps x y (Ok k) e le quiet cut = tt
quiet_stopped p plan m n s t steps x y (Err c) e le quiet cut =
    let old : Playing = record { code = p; state = s; steps = steps } in
    let here = stretch_stopped p n s t steps x y c.frames c.bytes quiet (rw (← e) cut) in
    stopped_among old (record { code = p; state = t; steps = 0 }) n m x y c.frames c.bytes le here

pub some_quiet : (m n : ℕ) (r : Result ℕ Accepted) → 1 ≤ n → n ≤ m → IfOk r (λ k. k ≡ n)
    → IfOk r (λ k. (1 ≤ k) × (k ≤ m))
some_quiet m n (Err cut) some le all = tt
some_quiet m n (Ok k) some le all = (omega (arith, some, all), omega (arith, le, all))

pub goes_quiet : (p : Program) (plan : Plan) (n k : ℕ) (s t : State) (steps : ℕ) (pages : PhasePages) → plan ≡ p.plan
    → k ≤ n → pages.is_whole ≡ true → IsGoing p s steps pages → AreQuiet p n s → t ≡ counted_on plan k s
    → IsGoing p t 0 pages
goes_quiet p plan n k s t steps pages e le whole h quiet state =
    let at : t ≡ counted_on p.plan k s = rw (← e) state in
    rw (at) (going_on p n k s steps pages le whole h quiet)

-- after some of them the remaining ones are quiet
pub quiet_rest : (p : Program) (n k : ℕ) (s : State) → k ≤ n → AreQuiet p n s
    → AreQuiet p (n - k) (run p s (replicate k Frame))
quiet_rest p n zero s le quiet =
    let same : n ≡ n - 0 = omega arith in
    rw (← same) quiet
quiet_rest p zero (suc k) s le quiet = absurd (omega (arith, le))
quiet_rest p (suc n) (suc k) s le quiet =
    let same : n - k ≡ suc n - suc k = omega arith in
    rw (← same) (quiet_rest p n k (after_frame p s) (omega (arith, le)) quiet.1)
