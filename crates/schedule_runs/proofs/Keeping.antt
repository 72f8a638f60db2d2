-- What comes was due, what stays due comes, and what the clock changes is on air at its hour: for runs by the number
-- of a frame.
use Rattle.schedule_runs.proofs.Words.{◌%◌, ◌+◌, ◌-◌, ◌<◌, ◌∙◌, ◌≡◌, ◌≢◌, ◌≤◌, ◌⊎◌, Airing, Commits, Configuration}
use Rattle.schedule_runs.proofs.Words.{I, II, III, IV, IsFree, IsNoticeOnStep, Mode, None, Option, Some}
use Rattle.schedule_runs.proofs.Words.{Swaps, Tree, absurd_none, ap, arith, cases_lt, count_step, due_in, eqb-true}
use Rattle.schedule_runs.proofs.Words.{false≢true, inl, inr, is_due, layout_mode, left_in, ne_eqb, on_air, refl}
use Rattle.schedule_runs.proofs.Words.{step_of, subst, suc, sym, true, ℕ}
use Rattle.schedule_runs.proofs.Following.{Announces, Stays, Waits, none_due, not_free}
use Rattle.schedule_runs.proofs.Along.{Falls, IsRun, along, comes, counts, falls, free_or, steady, step_from, swapped}

-- ---- swaps

pub due_left : (left : Option ℕ) → is_due left ≡ true → left ≡ Some 0
due_left None e = absurd (false≢true e)
due_left (Some l) e = ap (λ n. Some n) (eqb-true l 0 e)

pub not_due : (x : Airing) (l : ℕ) → 1 ≤ l → x.left ≡ Some l → Swaps x → ⊥
not_due x l some e swaps = false≢true (sym (ap is_due e ∙ ne_eqb l 0 (omega (arith, some))) ∙ swaps)

-- ---- what comes was due

pub record Committed (s : Tree) (at : ℕ → Airing) (n : ℕ) : Type 0 where
  pub number : ℕ
  pub earlier : number < n
  pub commits : Commits s (at number)
  pub next : (at n).next ≡ due_in s (at number)
  pub pending : (k : ℕ) → number < k → k < n → IsFree (at k) → ⊥

still : (s : Tree) (at : ℕ → Airing) (m : ℕ) → Committed s at m → Waits (at m) (at (suc m)) → Committed s at (suc m)
still s at m h w = record {
  number = h.number;
  earlier = omega (arith, h.earlier);
  commits = h.commits;
  next = w.next ∙ h.next;
  pending = λ k past within free. elim (cases_lt k m) [
    | inl before ↦ h.pending k past before free
    | inr from ↦
        let same : k ≡ m = omega (arith, from, within) in
        not_free (at m) w.left w.some w.before (subst (λ j. IsFree (at j)) same free)
  ];
}

committed_next : (s : Tree) (at : ℕ → Airing) (m : ℕ) → ((l : ℕ) → (at m).left ≡ Some l → Committed s at m)
    → Waits (at m) (at (suc m)) ⊎ (Stays s (at m) (at (suc m)) ⊎ Announces s (at m) (at (suc m))) → (l : ℕ)
    → (at (suc m)).left ≡ Some l → Committed s at (suc m)
committed_next s at m before (inl w) l e = still s at m (before w.left w.before) w
committed_next s at m before (inr (inl stays)) l e = absurd_none l (sym e ∙ stays.after)
committed_next s at m before (inr (inr announces)) l e = record {
  number = m;
  earlier = omega arith;
  commits = record { free = announces.free; changes = announces.changes };
  next = announces.next;
  pending = λ k past within free. absurd (omega (arith, past, within));
}

pub committed : (s : Tree) (at : ℕ → Airing) (frames : ℕ) → IsRun s at frames → (n : ℕ) → n < frames → (l : ℕ)
    → (at n).left ≡ Some l → Committed s at n
committed s at frames run n lt =
    along (λ m. (l : ℕ) → (at m).left ≡ Some l → Committed s at m) frames 0
    (λ l e. absurd_none l (sym e ∙ run.begun))
    (λ m from within here. committed_next s at m here (run.follows m within).taken)
    n (omega arith) lt

-- ---- what stays due comes

abbrev pub IsDueFrom : Tree → (ℕ → Airing) → (k n : ℕ) → Configuration → Type 0
IsDueFrom s at k n c = (m : ℕ) → k ≤ m → m ≤ n → due_in s (at m) ≡ c

stays_next : (s : Tree) (x y : Airing) (c : Configuration) → IsFree x → on_air x ≡ c → due_in s x ≡ c
    → y.current ≡ on_air x → Waits x y ⊎ (Stays s x y ⊎ Announces s x y) → IsFree y × (on_air y ≡ c)
stays_next s x y c free here is current (inl w) = absurd (not_free x w.left w.some w.before free)
stays_next s x y c free here is current (inr (inl stays)) =
    let same = none_due y stays.after in
    (ap (λ (z : Airing). z.left) same ∙ stays.after, ap (λ (z : Airing). z.current) same ∙ current ∙ here)
stays_next s x y c free here is current (inr (inr announces)) = absurd (announces.changes (is ∙ sym here))

-- what is on air and stays due stays on air
on_air_stays : (s : Tree) (at : ℕ → Airing) (frames : ℕ) → IsRun s at frames → (c : Configuration) (k n : ℕ) → k ≤ n
    → n < frames → IsDueFrom s at k n c → IsFree (at k) → on_air (at k) ≡ c → on_air (at n) ≡ c
on_air_stays s at frames run c k n le lt is free here =
    (along (λ m. IsFree (at m) × (on_air (at m) ≡ c)) (suc n) k (free, here)
    (λ m from within now.
    let next = run.follows m (omega (arith, within, lt)) in
    stays_next s (at m) (at (suc m)) c now.0 now.1 (is m from (omega (arith, within))) next.current next.taken)
    n le (omega arith)).1

-- what was announced in frame k is on air from its swap on
comes_on : (s : Tree) (at : ℕ → Airing) (frames : ℕ) → IsRun s at frames → (c : Configuration) (k n left : ℕ)
    → k + left ≤ n → n < frames → 1 ≤ left → IsDueFrom s at k n c → (at (suc k)).left ≡ Some (left - 1)
    → (at (suc k)).next ≡ c → on_air (at n) ≡ c
comes_on s at frames run c k n left le lt some is announced next =
    let swap : ℕ = k + left in
    let there = comes s at frames run (suc k) (left - 1) announced swap (omega (arith, some)) (omega (arith, some))
    (omega (arith, le, lt)) in
    let none : left - 1 - (swap - suc k) ≡ 0 = omega (arith, some) in
    let made = swapped (at swap) (there.0 ∙ ap (λ j. Some j) none) in
    on_air_stays s at frames run c swap n le lt (λ m from to. is m (omega (arith, from)) to) made.0
    (made.1 ∙ there.1 ∙ next)

free_then : (s : Tree) (at : ℕ → Airing) (frames : ℕ) → IsRun s at frames → (c : Configuration) (k n left : ℕ)
    → Falls s (at k) left → k + left ≤ n → n < frames → IsDueFrom s at k n c → IsFree (at k)
    → Waits (at k) (at (suc k)) ⊎ (Stays s (at k) (at (suc k)) ⊎ Announces s (at k) (at (suc k))) → on_air (at n) ≡ c
free_then s at frames run c k n left at_left le lt is free (inl w) =
    absurd (not_free (at k) w.left w.some w.before free)
free_then s at frames run c k n left at_left le lt is free (inr (inl stays)) =
    on_air_stays s at frames run c k n (omega (arith, le)) lt is free
    (sym stays.same ∙ is k (omega arith) (omega (arith, le)))
free_then s at frames run c k n left at_left le lt is free (inr (inr announces)) =
    comes_on s at frames run c k n left le lt (omega (arith, at_left.from, run.notice)) is
    (announces.after ∙ ap (λ j. Some (j - 1)) (sym at_left.is))
    (announces.next ∙ is k (omega arith) (omega (arith, le)))

-- from a free frame, it comes with the swap that is announced there at the latest
pub from_free : (s : Tree) (at : ℕ → Airing) (frames : ℕ) → IsRun s at frames → (c : Configuration) (k n left : ℕ)
    → Falls s (at k) left → k + left ≤ n → n < frames → IsDueFrom s at k n c → IsFree (at k) → on_air (at n) ≡ c
from_free s at frames run c k n left at_left le lt is free =
    let more : suc k < frames = omega (arith, le, lt, at_left.from, run.notice) in
    free_then s at frames run c k n left at_left le lt is free (run.follows k more).taken

-- in a frame on a step, a swap falls after the notice rounded up to the step
rounded : (mode : Mode) (count r : ℕ) → count % count_step mode ≡ 0 → (count + r) % count_step mode ≡ 0
    → r % count_step mode ≡ 0
rounded I count r on there = omega (arith, on, there)
rounded II count r on there = omega (arith, on, there)
rounded III count r on there = omega (arith, on, there)
rounded IV count r on there = omega (arith, on, there)

from_rounded : (mode : Mode) (count r : ℕ) → count % count_step mode ≡ 0 → r % count_step mode ≡ 0
    → (count + r) % count_step mode ≡ 0
from_rounded I count r on there = omega (arith, on, there)
from_rounded II count r on there = omega (arith, on, there)
from_rounded III count r on there = omega (arith, on, there)
from_rounded IV count r on there = omega (arith, on, there)

falls_rounded : (s : Tree) (x : Airing) (left up : ℕ) → Falls s x left → x.count % step_of s ≡ 0 → IsNoticeOnStep s up
    → left ≤ up
falls_rounded s x left up at_left on least =
    at_left.first up least.reached (from_rounded (layout_mode s.header.layout) x.count up on least.holds)

-- a change that is under way is finished first
finished : (s : Tree) (at : ℕ → Airing) (frames : ℕ) → IsRun s at frames → (c : Configuration) (m n up : ℕ)
    → IsNoticeOnStep s up → m + (s.header.notice + step_of s - 2 + up) ≤ n → n < frames → IsDueFrom s at m n c
    → IsFree (at m) ⊎ ((l : ℕ) × (1 ≤ l) × ((at m).left ≡ Some l)) → on_air (at n) ≡ c
finished s at frames run c m n up least long lt is (inl free) =
    let left : ℕ = left_in (step_of s) (at m).count s.header.notice in
    let at_left : Falls s (at m) left = falls run.in_time s (at m) in
    let within : m + left ≤ n =
    omega (arith, at_left.to, long, least.reached, run.notice, step_from s) in
    from_free s at frames run c m n left at_left within lt is free
finished s at frames run c m n up least long lt is (inr pending) =
    let l : ℕ = pending.0 in
    let known = steady s at frames run m (omega (arith, long, lt)) in
    let short : l + 2 ≤ s.header.notice + step_of s = known.within l pending.2 in
    let swap : ℕ = m + l in
    let before : swap < frames = omega (arith, short, long, lt) in
    let there = comes s at frames run m l pending.2 swap (omega arith) (omega arith) before in
    let none : l - (swap - m) ≡ 0 = omega arith in
    let made = swapped (at swap) (there.0 ∙ ap (λ j. Some j) none) in
    let same : (at m).count + (swap - m) ≡ (at m).count + l = omega arith in
    let on : (at swap).count % step_of s ≡ 0 =
    counts s at frames run m swap (omega arith) before ∙ ap (λ j. j % step_of s) same ∙ known.on_step l pending.2 in
    let left : ℕ = left_in (step_of s) (at swap).count s.header.notice in
    let at_left : Falls s (at swap) left = falls run.in_time s (at swap) in
    let low : left ≤ up = falls_rounded s (at swap) left up at_left on least in
    from_free s at frames run c swap n left at_left (omega (arith, low, short, long)) lt
    (λ k from to. is k (omega (arith, from)) to) made.0

pub what_stays_due_comes : (s : Tree) (at : ℕ → Airing) (frames : ℕ) → IsRun s at frames → (c : Configuration)
    (m n up : ℕ) → IsNoticeOnStep s up → m + (s.header.notice + step_of s - 2 + up) ≤ n → n < frames
    → IsDueFrom s at m n c → on_air (at n) ≡ c
what_stays_due_comes s at frames run c m n up least long lt is =
    finished s at frames run c m n up least long lt is (free_or (at m) (at m).left refl)

-- ---- what the clock changes

pub record Punctual (s : Tree) (at : ℕ → Airing) (f n : ℕ) : Type 0 where
  pub swaps : (at n).left ≡ Some 0
  pub brings : on_air (at n) ≡ due_in s (at f)
  pub alone : (k : ℕ) → f < k → k < n → Swaps (at k) → ⊥
  pub late : n ≤ f + s.header.notice + (step_of s - 1)

-- the swap that frame f announced falls in frame n, the first from a notice later on in which it can
falls_there : (s : Tree) (at : ℕ → Airing) (frames : ℕ) → IsRun s at frames → (f n left : ℕ) → Falls s (at f) left
    → f + s.header.notice ≤ n → n < frames → (at n).count % step_of s ≡ 0
    → ((k : ℕ) → f + s.header.notice ≤ k → k < n → (at k).count % step_of s ≢ 0) → n ≡ f + left
falls_there s at frames run f n left at_left reached lt on first =
    let there : ((at f).count + (n - f)) % step_of s ≡ 0 =
    sym (counts s at frames run f n (omega (arith, reached)) lt) ∙ on in
    let low : left ≤ n - f = at_left.first (n - f) (omega (arith, reached)) there in
    elim (cases_lt (f + left) n) [
      | inl before ↦
          let same : (at f).count + (f + left - f) ≡ (at f).count + left = omega arith in
          absurd (first (f + left) (omega (arith, at_left.from)) before
          (counts s at frames run f (f + left) (omega arith) (omega (arith, before, lt))
          ∙ ap (λ j. j % step_of s) same ∙ at_left.on_step))
      | inr from ↦ omega (arith, low, from, reached)
    ]

pub punctual : (s : Tree) (at : ℕ → Airing) (frames : ℕ) → IsRun s at frames → (f n : ℕ) → f + s.header.notice ≤ n
    → n < frames → (at n).count % step_of s ≡ 0
    → ((k : ℕ) → f + s.header.notice ≤ k → k < n → (at k).count % step_of s ≢ 0) → IsFree (at f)
    → due_in s (at f) ≢ on_air (at f)
    → Waits (at f) (at (suc f)) ⊎ (Stays s (at f) (at (suc f)) ⊎ Announces s (at f) (at (suc f))) → Punctual s at f n
punctual s at frames run f n reached lt on first free changes (inl w) =
    absurd (not_free (at f) w.left w.some w.before free)
punctual s at frames run f n reached lt on first free changes (inr (inl stays)) = absurd (changes stays.same)
punctual s at frames run f n reached lt on first free changes (inr (inr announces)) =
    let left : ℕ = left_in (step_of s) (at f).count s.header.notice in
    let at_left : Falls s (at f) left = falls run.in_time s (at f) in
    let there : n ≡ f + left = falls_there s at frames run f n left at_left reached lt on first in
    let some : 12 ≤ left = omega (arith, at_left.from, run.notice) in
    let none : left - 1 - (n - suc f) ≡ 0 = omega (arith, there, some) in
    let coming = λ (k : ℕ) (past : suc f ≤ k) (to : k ≤ n).
    comes s at frames run (suc f) (left - 1) announces.after k past
    (omega (arith, to, there, some)) (omega (arith, to, lt)) in
    let here = coming n (omega (arith, there, some)) (omega arith) in
    let swap : (at n).left ≡ Some 0 = here.0 ∙ ap (λ j. Some j) none in
    record {
      swaps = swap;
      brings = (swapped (at n) swap).1 ∙ here.1 ∙ announces.next;
      alone = λ k past before.
          not_due (at k) (left - 1 - (k - suc f)) (omega (arith, past, before, there, some))
          (coming k past (omega (arith, before))).0;
      late = omega (arith, there, at_left.to);
    }

-- there is a frame in which it can fall: the one where a swap announced in frame f falls
pub record NextOnStep (s : Tree) (at : ℕ → Airing) (from n : ℕ) : Type 0 where
  pub reached : from ≤ n
  pub on_step : (at n).count % step_of s ≡ 0
  pub first : (k : ℕ) → from ≤ k → k < n → (at k).count % step_of s ≢ 0

pub next_on_step : (s : Tree) (at : ℕ → Airing) (frames : ℕ) → IsRun s at frames → (f left : ℕ) → Falls s (at f) left
    → f + left < frames → NextOnStep s at (f + s.header.notice) (f + left)
next_on_step s at frames run f left at_left lt =
    let same : (at f).count + (f + left - f) ≡ (at f).count + left = omega arith in
    record {
      reached = omega (arith, at_left.from);
      on_step = counts s at frames run f (f + left) (omega arith) lt ∙ ap (λ j. j % step_of s) same ∙ at_left.on_step;
      first = λ k from before on.
          let low : left ≤ k - f = at_left.first (k - f) (omega (arith, from))
          (sym (counts s at frames run f k (omega (arith, from)) (omega (arith, before, lt))) ∙ on) in
          absurd (omega (arith, low, from, before));
    }
