-- What instructions leave unchanged in any code: the current configuration, the counts, and a pending swap.
use Rattle.plan_runs.proofs.Words.{◌%◌, ◌+◌, ◌<◌, ◌∙◌, ◌≡◌, ◌≤◌, Bool, CommitAt, CommitIn, Configuration, Edits}
use Rattle.plan_runs.proofs.Words.{Executes, Hold, I, Instr, IsAllowed, IsConfiguration, IsInstr, IsProgram, List, Mode}
use Rattle.plan_runs.proofs.Words.{None, Option, Plan, Program, Running, Settle, Some, State, after_burst, arith}
use Rattle.plan_runs.proofs.Words.{changed, commit, cond, count_step, effect, false, in_range, is_here, layout_mode}
use Rattle.plan_runs.proofs.Words.{left_at, left_in, ready, refl, settle, step, subst, suc, sym, true, with_due_swap}
use Rattle.plan_runs.proofs.Words.{with_hold_ended, zero, ℕ}
use Rattle.mux_config.proofs.Keeping.{edits_keep}
use Rattle.plan_runs.proofs.Between.{line_formed, step_is}

-- where no swap was pending there is none, or one was committed with the whole notice, to a count on the mode's step
abbrev pub IsNewly : Plan → ℕ → Option ℕ → Type 0
IsNewly plan count None = Unit {0}
IsNewly plan count (Some l) = (plan.notice ≤ l) × ((count + l) % count_step (layout_mode plan.layout) ≡ 0)

abbrev pub LeftBy : Plan → ℕ → Option ℕ → Configuration → Option ℕ → Configuration → Type 0
LeftBy plan count None n left m = IsNewly plan count left
LeftBy plan count (Some l) n left m = (left ≡ Some l) × (m ≡ n)

pub record Carries (plan : Plan) (s t : State) : Type 0 where
  pub current : t.current ≡ s.current
  pub count : t.count ≡ s.count
  pub eid : t.eid ≡ s.eid
  pub page_index : t.page_index ≡ s.page_index
  pub left : LeftBy plan s.count s.left s.next t.left t.next
  pub next : IsConfiguration s.next → IsConfiguration t.next

left_same : (plan : Plan) (count : ℕ) (left : Option ℕ) (n : Configuration) → LeftBy plan count left n left n
left_same plan count None n = tt
left_same plan count (Some l) n = (refl, refl)

left_joined : (plan : Plan) (count : ℕ) (a b c : Option ℕ) (x y z : Configuration) → LeftBy plan count a x b y
    → LeftBy plan count b y c z → LeftBy plan count a x c z
left_joined plan count None None c x y z h g = g
left_joined plan count None (Some l) c x y z h g = subst (λ (o : Option ℕ). IsNewly plan count o) (sym g.0) h
left_joined plan count (Some l) b c x y z h g =
    let again : LeftBy plan count (Some l) y c z = subst (λ (o : Option ℕ). LeftBy plan count o y c z) h.0 g in
    (again.0, again.1 ∙ h.1)

-- a state that differs in its instruction, its wait and its counters alone
unmoved : (plan : Plan) (s : State) (pc : ℕ) (hold : Hold) (counters : List ℕ)
    → Carries plan s (let r : State = record s { pc = pc; hold = hold; counters = counters } in r)
unmoved plan s pc hold counters =
    record {
      current = refl;
      count = refl;
      eid = refl;
      page_index = refl;
      left = left_same plan s.count s.left s.next;
      next = λ c. c;
    }

pub carries_itself : (plan : Plan) (s : State) → Carries plan s s
carries_itself plan s = unmoved plan s s.pc s.hold s.counters

pub carries_joined : (plan : Plan) (s t u : State) → Carries plan s t → Carries plan t u → Carries plan s u
carries_joined plan s t u h g = record {
  current = g.current ∙ h.current;
  count = g.count ∙ h.count;
  eid = g.eid ∙ h.eid;
  page_index = g.page_index ∙ h.page_index;
  left = left_joined plan s.count s.left t.left u.left s.next t.next u.next h.left
      (subst (λ (k : ℕ). LeftBy plan k t.left t.next u.left u.next) h.count g.left);
  next = λ c. g.next (h.next c);
}

-- ---- each instruction

left_new : (plan : Plan) (count : ℕ) (left after : Option ℕ) (n m : Configuration) → left ≡ None
    → IsNewly plan count after → LeftBy plan count left n after m
left_new plan count left after n m none new = subst (λ (o : Option ℕ). LeftBy plan count o n after m) (sym none) new

still_none : (plan : Plan) (count : ℕ) (left : Option ℕ) → left ≡ None → IsNewly plan count left
still_none plan count left none = subst (λ (o : Option ℕ). IsNewly plan count o) (sym none) tt

in_step : (m : Mode) (count k : ℕ) → (count + left_in (count_step m) count k) % count_step m ≡ 0
in_step I count k = omega arith
in_step _ count k = omega arith

in_notice : (m : Mode) (count k notice : ℕ) → notice ≤ k → notice ≤ left_in (count_step m) count k
in_notice m count k notice below = omega (arith, below)

at_step : (m : Mode) (count notice n : ℕ) → n < 5000 → n % count_step m ≡ 0
    → (count + left_at count notice n) % count_step m ≡ 0
at_step I count notice n below whole = omega (arith, below, whole)
at_step _ count notice n below whole = omega (arith, below, whole)

committed : (plan : Plan) (s : State) (l : ℕ) → s.left ≡ None → IsNewly plan s.count (Some l)
    → Carries plan s (commit l s)
committed plan s l idle new =
    record {
      current = refl;
      count = refl;
      eid = refl;
      page_index = refl;
      left = left_new plan s.count s.left (Some l) s.next s.next idle new;
      next = λ c. c;
    }

settle_carries : (plan : Plan) (left : Option ℕ) (s : State) → Carries plan s (settle left s)
settle_carries plan None s = unmoved plan s _ _ _
settle_carries plan (Some l) s = unmoved plan s _ _ _

effect_carries : (plan : Plan) (i : Instr) (s : State) → IsInstr i → IsAllowed plan i s
    → Carries plan s (effect plan i s)
effect_carries plan (CommitIn k) s f a =
    committed plan s (left_in (count_step (layout_mode plan.layout)) s.count k) a.0.idle
    (in_notice (layout_mode plan.layout) s.count k plan.notice a.1, in_step (layout_mode plan.layout) s.count k)
effect_carries plan (CommitAt n) s f a =
    committed plan s (left_at s.count plan.notice n) a.0.idle ((omega arith), at_step _ _ _ n a.1.1 a.1.0)
effect_carries plan Settle s f a = settle_carries plan s.left s
effect_carries plan (Edits e) s f a =
    record {
      current = refl;
      count = refl;
      eid = refl;
      page_index = refl;
      left = left_new plan s.count s.left s.left s.next (changed e s.next) a.0 (still_none plan s.count s.left a.0);
      next = λ c. edits_keep e s.next (in_range e f) c a.1;
    }
effect_carries plan _ s f a = unmoved plan s _ _ _

-- ---- a burst

pub burst_carries : (p : Program) → IsProgram p → (s : State) (n : ℕ) (t : State) → Executes p s n t
    → Carries p.plan s t
burst_carries p pr s zero t h = subst (λ (u : State). Carries p.plan s u) h.1 (carries_itself p.plan s)
burst_carries p pr s (suc n) t h =
    let i = h.1.instr in
    let one = effect_carries p.plan i s (line_formed p.lines s.pc i pr.lines_formed h.1.within) h.1.allowed in
    let first = subst (λ (u : State). Carries p.plan s u) (sym (step_is p s i h.1.within)) one in
    carries_joined p.plan s (step p s) t first (burst_carries p pr (step p s) n t h.2)

held_carries : (plan : Plan) (s : State) (b : Bool) → Carries plan s
    (cond b (let r : State = record s { hold = Running } in r) s)
held_carries plan s true = unmoved plan s _ _ _
held_carries plan s false = carries_itself plan s

ended_carries : (plan : Plan) (s : State) → Carries plan s (with_hold_ended s)
ended_carries plan s = held_carries plan s (is_here s s.hold)

pub frame_carries : (p : Program) → IsProgram p → (s : State) (n : ℕ) → Executes p (ready s) n (after_burst p s)
    → Carries p.plan (with_due_swap s) (after_burst p s)
frame_carries p pr s n h = carries_joined _ _ _ _ (ended_carries _ _) (burst_carries p pr _ n _ h)
