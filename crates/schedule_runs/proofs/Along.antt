-- Runs as airings by the number of a frame: what holds along all frames, and how a swap comes nearer.
use Rattle.schedule_runs.proofs.Words.{◌%◌, ◌+◌, ◌-◌, ◌<◌, ◌∙◌, ◌≡◌, ◌≤◌, ◌⊎◌, Airing, IsFree, Mode, None}
use Rattle.schedule_runs.proofs.Words.{Option, Some, SwapsInTime, Tree, absurd_none, ap, arith, cases_lt, count_step}
use Rattle.schedule_runs.proofs.Words.{inl}
use Rattle.schedule_runs.proofs.Words.{inr, layout_mode, left_in, on_air, refl, some_is, step_of, subst, suc, sym, zero}
use Rattle.schedule_runs.proofs.Words.{ℕ}
use Rattle.schedule_runs.proofs.Words.{I, II, III, IV}
use Rattle.schedule_runs.proofs.Following.{Announces, Follows, Stays, Waits, due_now, none_due, not_free}

pub record IsRun (s : Tree) (at : ℕ → Airing) (frames : ℕ) : Type 0 where
  pub notice : 12 ≤ s.header.notice
  pub in_time : SwapsInTime
  pub follows : (k : ℕ) → suc k < frames → Follows s (at k) (at (suc k))
  pub begun : (at 0).left ≡ None
  pub day : (at 0).day < 3600000

-- what holds in frame k, and in each later frame where it holds in the one before, holds in all later frames
pub along : (P : ℕ → Type 0) (frames k : ℕ) → P k → ((m : ℕ) → k ≤ m → suc m < frames → P m → P (suc m)) → (n : ℕ)
    → k ≤ n → n < frames → P n
along P frames k here step zero le lt = let same : k ≡ 0 = omega (arith, le) in subst P same here
along P frames k here step (suc n) le lt =
    elim (cases_lt n k) [
      | inl past ↦ let same : k ≡ suc n = omega (arith, le, past) in subst P same here
      | inr within ↦ step n within lt (along P frames k here step n within (omega (arith, lt)))
    ]

-- ---- counts

step_is : (mode : Mode) → (1 ≤ count_step mode) × (count_step mode ≤ 4)
step_is I = (omega arith, omega arith)
step_is II = (omega arith, omega arith)
step_is III = (omega arith, omega arith)
step_is IV = (omega arith, omega arith)

pub step_from : (s : Tree) → 1 ≤ step_of s
step_from s = (step_is (layout_mode s.header.layout)).0

-- the next count, before or after the count of zero
next_count : (mode : Mode) (a b c j : ℕ) → a ≡ (b + 1) % 5000 → b % count_step mode ≡ (c + j) % count_step mode
    → a % count_step mode ≡ (c + (j + 1)) % count_step mode
next_count I a b c j next here = omega (arith, next, here)
next_count II a b c j next here = omega (arith, next, here)
next_count III a b c j next here = omega (arith, next, here)
next_count IV a b c j next here = omega (arith, next, here)

pub counts : (s : Tree) (at : ℕ → Airing) (frames : ℕ) → IsRun s at frames → (k n : ℕ) → k ≤ n → n < frames
    → (at n).count % step_of s ≡ ((at k).count + (n - k)) % step_of s
counts s at frames run k n le lt =
    along (λ m. (at m).count % step_of s ≡ ((at k).count + (m - k)) % step_of s) frames k
    (let same : (at k).count ≡ (at k).count + (k - k) = omega arith in ap (λ c. c % step_of s) same)
    (λ m from within here.
    let more : m - k + 1 ≡ suc m - k = omega (arith, from) in
    next_count (layout_mode s.header.layout) _ (at m).count (at k).count (m - k) (run.follows m within).count here
    ∙ ap (λ j. ((at k).count + j) % step_of s) more)
    n le lt

day_is : (s : Tree) (at : ℕ → Airing) (frames : ℕ) → IsRun s at frames → (n : ℕ) → n < frames → (at n).day < 3600000
day_is s at frames run n lt =
    along (λ m. (at m).day < 3600000) frames 0 run.day
    (λ m from within here. omega (arith, (run.follows m within).day)) n (omega arith) lt

pub days : (s : Tree) (at : ℕ → Airing) (frames : ℕ) → IsRun s at frames → (k n : ℕ) → k ≤ n → n < frames
    → (at n).day ≡ ((at k).day + (n - k)) % 3600000
days s at frames run k n le lt =
    let low = day_is s at frames run k (omega (arith, le, lt)) in
    along (λ m. (at m).day ≡ ((at k).day + (m - k)) % 3600000) frames k
    (omega (arith, low))
    (λ m from within here. omega (arith, from, (run.follows m within).day, here)) n le lt

-- ---- the frames until a swap

-- the swap after a notice: when it falls
pub record Falls (s : Tree) (x : Airing) (left : ℕ) : Type 0 where
  pub is : left ≡ left_in (step_of s) x.count s.header.notice
  pub from : s.header.notice ≤ left
  pub to : left ≤ s.header.notice + (step_of s - 1)
  pub on_step : (x.count + left) % step_of s ≡ 0
  pub first : (q : ℕ) → s.header.notice ≤ q → (x.count + q) % step_of s ≡ 0 → left ≤ q

pub falls : SwapsInTime → (s : Tree) (x : Airing) → Falls s x (left_in (step_of s) x.count s.header.notice)
falls in_time s x =
    let least = in_time (layout_mode s.header.layout) x.count s.header.notice in
    record {
      is = refl;
      from = least.reached;
      to = omega arith;
      on_step = least.holds;
      first = least.first;
    }

-- in the frames after an announcement
pub record IsSteady (s : Tree) (x : Airing) : Type 0 where
  pub within : (l : ℕ) → x.left ≡ Some l → l + 2 ≤ s.header.notice + step_of s
  pub on_step : (l : ℕ) → x.left ≡ Some l → (x.count + l) % step_of s ≡ 0

nearer : (mode : Mode) (a b l : ℕ) → a ≡ (b + 1) % 5000 → 1 ≤ l → (b + l) % count_step mode ≡ 0
    → (a + (l - 1)) % count_step mode ≡ 0
nearer I a b l next some here = omega (arith, next, some, here)
nearer II a b l next some here = omega (arith, next, some, here)
nearer III a b l next some here = omega (arith, next, some, here)
nearer IV a b l next some here = omega (arith, next, some, here)

steady_next : (s : Tree) (x y : Airing) → 12 ≤ s.header.notice → SwapsInTime → Follows s x y → IsSteady s x
    → Waits x y ⊎ (Stays s x y ⊎ Announces s x y) → IsSteady s y
steady_next s x y notice in_time next here (inl w) = record {
  within = λ l e.
      let same : l ≡ w.left - 1 = some_is l (w.left - 1) (sym e ∙ w.after) in
      let low = here.within w.left w.before in
      omega (arith, same, low);
  on_step = λ l e.
      let same : l ≡ w.left - 1 = some_is l (w.left - 1) (sym e ∙ w.after) in
      ap (λ k. (y.count + k) % step_of s) same
      ∙ nearer (layout_mode s.header.layout) y.count x.count w.left next.count w.some (here.on_step w.left w.before);
}
steady_next s x y notice in_time next here (inr (inl stays)) = record {
  within = λ l e. absurd_none l (sym e ∙ stays.after);
  on_step = λ l e. absurd_none l (sym e ∙ stays.after);
}
steady_next s x y notice in_time next here (inr (inr announces)) =
    let left : ℕ = left_in (step_of s) x.count s.header.notice in
    let at = falls in_time s x in
    record {
      within = λ l e.
          let same : l ≡ left - 1 = some_is l (left - 1) (sym e ∙ announces.after) in
          omega (arith, same, at.from, at.to, notice, step_from s);
      on_step = λ l e.
          let same : l ≡ left - 1 = some_is l (left - 1) (sym e ∙ announces.after) in
          ap (λ k. (y.count + k) % step_of s) same
          ∙ nearer (layout_mode s.header.layout) y.count x.count left next.count
          (omega (arith, at.from, notice)) at.on_step;
    }

pub steady : (s : Tree) (at : ℕ → Airing) (frames : ℕ) → IsRun s at frames → (n : ℕ) → n < frames → IsSteady s (at n)
steady s at frames run n lt =
    along (λ m. IsSteady s (at m)) frames 0
    (record {
      within = λ l e. absurd_none l (sym e ∙ run.begun);
      on_step = λ l e. absurd_none l (sym e ∙ run.begun);
    })
    (λ m from within here. let next = run.follows m within in
    steady_next s (at m) (at (suc m)) run.notice run.in_time next here next.taken)
    n (omega arith) lt

-- ---- a change that was announced

-- one frame nearer, with the same change
waits_on : (s : Tree) (x y : Airing) (l : ℕ) → 1 ≤ l → x.left ≡ Some l → Waits x y ⊎ (Stays s x y ⊎ Announces s x y)
    → (y.left ≡ Some (l - 1)) × (y.next ≡ x.next)
waits_on s x y l some left (inl w) =
    let same : w.left ≡ l = some_is w.left l (sym w.before ∙ left) in
    (w.after ∙ ap (λ k. Some (k - 1)) same, w.next)
waits_on s x y l some left (inr (inl stays)) = absurd (not_free x l some left stays.free)
waits_on s x y l some left (inr (inr announces)) = absurd (not_free x l some left announces.free)

-- until its swap
pub comes : (s : Tree) (at : ℕ → Airing) (frames : ℕ) → IsRun s at frames → (k l : ℕ) → (at k).left ≡ Some l
    → (n : ℕ) → k ≤ n → n ≤ k + l → n < frames → ((at n).left ≡ Some (l - (n - k))) × ((at n).next ≡ (at k).next)
comes s at frames run k l left n le by lt =
    along (λ m. m ≤ k + l → ((at m).left ≡ Some (l - (m - k))) × ((at m).next ≡ (at k).next)) frames k
    (λ _. let same : l ≡ l - (k - k) = omega arith in (left ∙ ap (λ j. Some j) same, refl))
    (λ m from within here until.
    let now = here (omega (arith, until)) in
    let more = waits_on s (at m) (at (suc m)) (l - (m - k)) (omega (arith, from, until)) now.0
    (run.follows m within).taken in
    let one : l - (m - k) - 1 ≡ l - (suc m - k) = omega (arith, from, until) in
    (more.0 ∙ ap (λ j. Some j) one, more.1 ∙ now.1))
    n le lt by

-- the frame of the swap has on air what came, and is free
pub swapped : (x : Airing) → x.left ≡ Some 0 → IsFree x × (on_air x ≡ x.next)
swapped x e = (ap (λ (z : Airing). z.left) (due_now x e), ap (λ (z : Airing). z.current) (due_now x e))

-- a frame is free, or its swap is still to come
pub free_or : (x : Airing) (left : Option ℕ) → x.left ≡ left → IsFree x ⊎ ((l : ℕ) × (1 ≤ l) × (x.left ≡ Some l))
free_or x None e = inl (ap (λ (z : Airing). z.left) (none_due x e) ∙ e)
free_or x (Some zero) e = inl (swapped x e).0
free_or x (Some (suc l)) e = inr (suc l, omega arith, e)
