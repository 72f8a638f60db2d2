-- Advancing the counts, frame by frame or by many frames at once.
use Rattle.plan_player.proofs.Words.{[], ◌%◌, ◌++◌, ◌+◌, ◌-◌, ◌<◌, ◌∙◌, ◌∷◌, ◌≡◌, ◌≤◌, Bool, COUNTS, FRAMES_A_DAY}
use Rattle.plan_player.proofs.Words.{HasRounds, Hold, None, Option, Plan, Some, State, Waits, WaitsAny, ap, arith, cond}
use Rattle.plan_player.proofs.Words.{counted_on, false, hold_after_frame, hold_later, left_after_frame, left_later, ltb}
use Rattle.plan_player.proofs.Words.{ltb-false, ltb-true, mod-add-mod, mod-eq_of_lt, mod-lt, mod_self, notice_frames}
use Rattle.plan_player.proofs.Words.{page_after, refl, shown_bytes, suc, sym, true, with_next_counts, zero, ℕ}

-- ---- one frame more

pub on_more : (plan : Plan) (k : ℕ) (s : State) → counted_on plan (suc k) s
    ≡ with_next_counts plan (counted_on plan k s)
on_more plan zero s = refl
on_more plan (suc k) s = on_more plan k (with_next_counts plan s)

pub frames_more : (plan : Plan) (k : ℕ) (s : State) → notice_frames plan (suc k) s ≡ notice_frames plan k s
    ++ shown_bytes plan (counted_on plan k s) ∷ []
frames_more plan zero s = refl
frames_more plan (suc k) s = rw (frames_more plan k (with_next_counts plan s)) refl

-- ---- each part of the state after k frames

-- everything but the counts is unchanged
pub apart : (plan : Plan) (k : ℕ) (s : State) → counted_on plan k s
    ≡ (let t : State = counted_on plan k s in
    let r : State = record s {
      left = t.left;
      hold = t.hold;
      count = t.count;
      day = t.day;
      page_index = t.page_index;
    } in
    r)
apart plan zero s = refl
apart plan (suc k) s = apart plan k (with_next_counts plan s)

left_none : (left : Option ℕ) → left ≡ left_later 0 left
left_none None = refl
left_none (Some l) =
    ap (λ (k : ℕ). Some k) (omega arith)

left_step : (n : ℕ) (left : Option ℕ) → left_later n (left_after_frame left) ≡ left_later (suc n) left
left_step n None = refl
left_step n (Some l) =
    let same : l - 1 - n ≡ l - suc n = omega arith in
    rw (same) refl

pub left_on : (plan : Plan) (k : ℕ) (s : State) → (counted_on plan k s).left ≡ left_later k s.left
left_on plan zero s = left_none s.left
left_on plan (suc k) s = left_on plan k (with_next_counts plan s) ∙ left_step k s.left

hold_none : (hold : Hold) → hold ≡ hold_later 0 hold
hold_none (Waits n) =
    ap (λ (k : ℕ). Waits k) (omega arith)
hold_none (WaitsAny closed opened until left) = ap (λ (l : Option ℕ). WaitsAny closed opened until l) (left_none left)
hold_none _ = refl

hold_step : (n : ℕ) (hold : Hold) → hold_later n (hold_after_frame hold) ≡ hold_later (suc n) hold
hold_step n (Waits m) =
    let same : m - 1 - n ≡ m - suc n = omega arith in
    rw (same) refl
hold_step n (WaitsAny closed opened until left) = rw (left_step n left) refl
hold_step n _ = refl

hold_on : (plan : Plan) (k : ℕ) (s : State) → (counted_on plan k s).hold ≡ hold_later k s.hold
hold_on plan zero s = hold_none s.hold
hold_on plan (suc k) s = hold_on plan k (with_next_counts plan s) ∙ hold_step k s.hold

wraps_later : (c k m : ℕ) → ((c + 1) % m + suc k) % m ≡ (c + suc (suc k)) % m
wraps_later c k m =
    let same : c + 1 + suc k ≡ c + suc (suc k) = omega arith in
    rw (← same) (mod-add-mod (c + 1) m (suc k))

pub count_on : (plan : Plan) (k : ℕ) (s : State) → (counted_on plan (suc k) s).count ≡ (s.count + suc k) % COUNTS
count_on plan zero s = refl
count_on plan (suc k) s = count_on plan k (with_next_counts plan s) ∙ wraps_later s.count k COUNTS

day_on : (plan : Plan) (k : ℕ) (s : State) → (counted_on plan (suc k) s).day ≡ (s.day + suc k) % FRAMES_A_DAY
day_on plan zero s = refl
day_on plan (suc k) s = day_on plan k (with_next_counts plan s) ∙ wraps_later s.day k FRAMES_A_DAY

turns_by : (pages page_index : ℕ) → page_index < pages → (b : Bool) → ltb (page_index + 1) pages ≡ b
    → cond b (page_index + 1) 0 ≡ (page_index + 1) % pages
turns_by pages page_index lt true e = sym (mod-eq_of_lt (ltb-true (page_index + 1) pages e))
turns_by pages page_index lt false e =
    let last : page_index + 1 ≡ pages = omega (arith, lt, ltb-false (page_index + 1) pages e) in
    sym (rw (last) (mod_self pages))

cycle : (pages page_index : ℕ) → page_index < pages → page_after pages page_index ≡ (page_index + 1) % pages
cycle pages page_index lt = turns_by pages page_index lt (ltb (page_index + 1) pages) refl

pub turn_on : (plan : Plan) (k pages : ℕ) (s : State) → s.page_index < pages → HasRounds plan k s pages
    → (counted_on plan k s).page_index ≡ (s.page_index + k) % pages
turn_on plan zero pages s lt rounds =
    let same : s.page_index + 0 ≡ s.page_index = omega arith in
    sym (rw (same) (mod-eq_of_lt lt))
turn_on plan (suc k) pages s lt rounds =
    let next : (with_next_counts plan s).page_index ≡ (s.page_index + 1) % pages =
    rw ((rounds 0 (omega arith))) (cycle pages s.page_index lt) in
    let some : 0 < pages = omega (arith, lt) in
    let within : (with_next_counts plan s).page_index < pages = rw (next) (mod-lt (s.page_index + 1) some) in
    let later : HasRounds plan k (with_next_counts plan s) pages = λ j below. rounds (suc j) (omega (arith, below)) in
    let same : s.page_index + 1 + k ≡ s.page_index + suc k = omega arith in
    rw (← same) (turn_on plan k pages (with_next_counts plan s) within later ∙ ap (λ (x : ℕ). (x + k) % pages) next
    ∙ mod-add-mod (s.page_index + 1) pages k)

-- ---- all parts at once

pub passed : (plan : Plan) (n pages : ℕ) (s : State) → 1 ≤ n → s.page_index < pages → HasRounds plan n s pages
    → (let r : State = record s {
      left = left_later n s.left;
      hold = hold_later n s.hold;
      count = (s.count + n) % COUNTS;
      day = (s.day + n) % FRAMES_A_DAY;
      page_index = (s.page_index + n) % pages;
    } in
    r ≡ counted_on plan n s)
passed plan zero pages s some lt rounds = absurd (omega (arith, some))
passed plan (suc k) pages s some lt rounds =
    let n : ℕ = suc k in
    let t : State = counted_on plan n s in
    let before : State = record s {
      left = t.left;
      hold = t.hold;
      count = t.count;
      day = t.day;
      page_index = t.page_index;
    } in
    let after : State = record s {
      left = left_later n s.left;
      hold = hold_later n s.hold;
      count = (s.count + n) % COUNTS;
      day = (s.day + n) % FRAMES_A_DAY;
      page_index = (s.page_index + n) % pages;
    } in
    let parts : before ≡ after =
    λ i. record s {
      left = left_on plan n s i;
      hold = hold_on plan n s i;
      count = count_on plan k s i;
      day = day_on plan k s i;
      page_index = turn_on plan n pages s lt rounds i;
    } in
    sym (apart plan n s ∙ parts)
