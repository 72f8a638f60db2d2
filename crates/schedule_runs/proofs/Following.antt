-- One frame: what of an airing is known from the one before it.
use Rattle.schedule_runs.proofs.Words.{◌%◌, ◌+◌, ◌-◌, ◌∙◌, ◌≡◌, ◌≢◌, ◌≤◌, ◌⊎◌, Airing, Bool, IsFree, None}
use Rattle.schedule_runs.proofs.Words.{Option, PerformsFrame, Some, TakesUp, Tree, after_counts, after_swap, announced}
use Rattle.schedule_runs.proofs.Words.{ap, arith, cond, due_in, false, inl, inr, is_due, left_after_frame, left_in}
use Rattle.schedule_runs.proofs.Words.{ne_eqb}
use Rattle.schedule_runs.proofs.Words.{on_air, refl, step_of, suc, sym, true, zero, ℕ}

-- ---- a swap

-- the airing with its swap made
abbrev pub made : Airing → Airing
made x = record x { current = x.next; left = None }

some_left : (l : ℕ) → Some l ≡ None → ⊥
some_left l e = absurd cc

pub none_due : (x : Airing) → x.left ≡ None → after_swap x ≡ x
none_due x e = ap (λ (left : Option ℕ). cond (is_due left) (made x) x) e

pub due_now : (x : Airing) → x.left ≡ Some 0 → after_swap x ≡ made x
due_now x e = ap (λ (left : Option ℕ). cond (is_due left) (made x) x) e

pub due_later : (x : Airing) (l : ℕ) → 1 ≤ l → x.left ≡ Some l → after_swap x ≡ x
due_later x l some e = rw (e, ne_eqb l 0 (omega (arith, some))) refl

-- a swap changes neither the contacts nor the counts
same_due : (s : Tree) (x : Airing) (due : Bool) → due_in s (cond due (made x) x) ≡ due_in s x
same_due s x true = refl
same_due s x false = refl

same_count : (x : Airing) (due : Bool) → (cond due (made x) x).count ≡ x.count
same_count x true = refl
same_count x false = refl

same_day : (x : Airing) (due : Bool) → (cond due (made x) x).day ≡ x.day
same_day x true = refl
same_day x false = refl

-- a swap that is still to come, and that was not due, leaves the frame not free
pub not_free : (x : Airing) (l : ℕ) → 1 ≤ l → x.left ≡ Some l → IsFree x → ⊥
not_free x l some e free =
    some_left l (sym e ∙ ap (λ (z : Airing). z.left) (sym (due_later x l some e)) ∙ free)

-- ---- what may follow

pub record Waits (x y : Airing) : Type 0 where
  pub left : ℕ
  pub some : 1 ≤ left
  pub before : x.left ≡ Some left
  pub after : y.left ≡ Some (left - 1)
  pub next : y.next ≡ x.next

pub record Stays (s : Tree) (x y : Airing) : Type 0 where
  pub free : IsFree x
  pub same : due_in s x ≡ on_air x
  pub after : y.left ≡ None

pub record Announces (s : Tree) (x y : Airing) : Type 0 where
  pub free : IsFree x
  pub changes : due_in s x ≢ on_air x
  pub after : y.left ≡ Some (left_in (step_of s) x.count s.header.notice - 1)
  pub next : y.next ≡ due_in s x

pub record Follows (s : Tree) (x y : Airing) : Type 0 where
  pub taken : Waits x y ⊎ (Stays s x y ⊎ Announces s x y)
  pub current : y.current ≡ on_air x
  pub count : y.count ≡ (x.count + 1) % 5000
  pub day : y.day ≡ (x.day + 1) % 3600000

waits : (x y : Airing) (left : Option ℕ) → x.left ≡ left → (after_swap x).left ≢ None → y ≡ after_counts (after_swap x)
    → Waits x y
waits x y None e some is = absurd (some (ap (λ (z : Airing). z.left) (none_due x e) ∙ e))
waits x y (Some zero) e some is = absurd (some (ap (λ (z : Airing). z.left) (due_now x e)))
waits x y (Some (suc l)) e some is =
    let same : after_swap x ≡ x = due_later x (suc l) (omega arith) e in
    let whole : y ≡ after_counts x = is ∙ ap after_counts same in
    record {
      left = suc l;
      some = omega arith;
      before = e;
      after = ap (λ (z : Airing). z.left) whole ∙ ap left_after_frame e;
      next = ap (λ (z : Airing). z.next) whole;
    }

stays : (s : Tree) (x y : Airing) → IsFree x → due_in s (after_swap x) ≡ on_air x → y ≡ after_counts (after_swap x)
    → Stays s x y
stays s x y free same is = record {
  free = free;
  same = sym (same_due s x (is_due x.left)) ∙ same;
  after = ap (λ (z : Airing). z.left) is ∙ ap left_after_frame free;
}

announces : (s : Tree) (x y : Airing) → IsFree x → due_in s (after_swap x) ≢ on_air x
    → y ≡ after_counts (announced s (after_swap x)) → Announces s x y
announces s x y free changes is = record {
  free = free;
  changes = λ e. changes (same_due s x (is_due x.left) ∙ e);
  after = ap (λ (z : Airing). z.left) is
      ∙ ap (λ (count : ℕ). Some (left_in (step_of s) count s.header.notice - 1)) (same_count x (is_due x.left));
  next = ap (λ (z : Airing). z.next) is ∙ same_due s x (is_due x.left);
}

-- whichever is taken up, what is on air and the counts are those after the swap
pub record Sent (x sent : Airing) : Type 0 where
  pub current : sent.current ≡ on_air x
  pub count : sent.count ≡ x.count
  pub day : sent.day ≡ x.day

sent_as : (s : Tree) (x sent : Airing) → TakesUp s (after_swap x) sent → Sent x sent
sent_as s x sent (inl waiting) = record {
  current = ap (λ (z : Airing). z.current) waiting.1;
  count = ap (λ (z : Airing). z.count) waiting.1 ∙ same_count x (is_due x.left);
  day = ap (λ (z : Airing). z.day) waiting.1 ∙ same_day x (is_due x.left);
}
sent_as s x sent (inr (inl staying)) = record {
  current = ap (λ (z : Airing). z.current) staying.2;
  count = ap (λ (z : Airing). z.count) staying.2 ∙ same_count x (is_due x.left);
  day = ap (λ (z : Airing). z.day) staying.2 ∙ same_day x (is_due x.left);
}
sent_as s x sent (inr (inr taking)) = record {
  current = ap (λ (z : Airing). z.current) taking.2;
  count = ap (λ (z : Airing). z.count) taking.2 ∙ same_count x (is_due x.left);
  day = ap (λ (z : Airing). z.day) taking.2 ∙ same_day x (is_due x.left);
}

taken_as : (s : Tree) (x sent y : Airing) → TakesUp s (after_swap x) sent → y ≡ after_counts sent
    → Waits x y ⊎ (Stays s x y ⊎ Announces s x y)
taken_as s x sent y (inl waiting) is = inl (waits x y x.left refl waiting.0 (is ∙ ap after_counts waiting.1))
taken_as s x sent y (inr (inl staying)) is =
    inr (inl (stays s x y staying.0 staying.1 (is ∙ ap after_counts staying.2)))
taken_as s x sent y (inr (inr taking)) is =
    inr (inr (announces s x y taking.0 taking.1 (is ∙ ap after_counts taking.2)))

pub followed : (s : Tree) (x y : Airing) → PerformsFrame s x y → Follows s x y
followed s x y h =
    let sent = sent_as s x h.0 h.1 in
    record {
      taken = taken_as s x h.0 y h.1 h.2;
      current = ap (λ (z : Airing). z.current) h.2 ∙ sent.current;
      count = ap (λ (z : Airing). z.count) h.2 ∙ ap (λ (n : ℕ). (n + 1) % 5000) sent.count;
      day = ap (λ (z : Airing). z.day) h.2 ∙ ap (λ (n : ℕ). (n + 1) % 3600000) sent.day;
    }
