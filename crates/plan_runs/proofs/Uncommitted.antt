-- Without a commit no swap becomes pending.
use Rattle.plan_runs.proofs.Words.{◌+◌, ◌<◌, ◌∙◌, ◌≡◌, ◌⊎◌, Bool, CommitAt, CommitIn, Instr, IsCommit, None, Option}
use Rattle.plan_runs.proofs.Words.{Plan, Program, Running, Settle, Some, State, SwapsAreCommitted, after_burst, ap}
use Rattle.plan_runs.proofs.Words.{arith, burst, burst_steps, cond, effect, effect_of, false, inl, inr, instr_at}
use Rattle.plan_runs.proofs.Words.{is_due, is_here, is_running, left_after_frame, refl, settle}
use Rattle.plan_runs.proofs.Words.{step, suc, sym, true, with_due_swap, with_swap, zero, ℕ}

settle_left : (left : Option ℕ) (s : State) → (settle left s).left ≡ s.left
settle_left None s = refl
settle_left (Some left) s = refl

effect_left : (plan : Plan) (i : Instr) (s : State) → (IsCommit i → ⊥) → (effect plan i s).left ≡ s.left
effect_left plan (CommitIn k) s other = absurd (other tt)
effect_left plan (CommitAt n) s other = absurd (other tt)
effect_left plan Settle s other = settle_left s.left s
effect_left plan _ s other = refl

step_left : (plan : Plan) (o : Option Instr) (s : State) → ((i : Instr) → o ≡ Some i → IsCommit i → ⊥)
    → (effect_of plan o s).left ≡ s.left
step_left plan None s other = refl
step_left plan (Some i) s other = effect_left plan i s (other i refl)

-- the machine executes no commit from this state on
abbrev IsWithoutCommit : ℕ → Program → State → Type 0
IsWithoutCommit most p s = (k : ℕ) (i : Instr) → k < burst_steps most p s → instr_at p (burst k p s).pc ≡ Some i
    → IsCommit i → ⊥

burst_left : (most : ℕ) (p : Program) (s : State) → IsWithoutCommit most p s → (burst most p s).left ≡ s.left
burst_left zero p s other = refl
burst_left (suc most) p s other =
    by (is_running s.hold) refl (λ runs. burst_left most p (step p s) (later runs))
  where
    after : (k : ℕ) → is_running s.hold ≡ true → burst (suc k) p s ≡ burst k p (step p s)
    after k runs = ap (λ (b : Bool). cond b (burst k p (step p s)) s) runs

    more : is_running s.hold ≡ true → burst_steps (suc most) p s ≡ 1 + burst_steps most p (step p s)
    more runs = ap (λ (b : Bool). cond b (1 + burst_steps most p (step p s)) 0) runs

    later : is_running s.hold ≡ true → IsWithoutCommit most p (step p s)
    later runs k i below at = other (suc k) i (omega (arith, below, more runs))
        (ap (λ (t : State). instr_at p t.pc) (after k runs) ∙ at)

    first : is_running s.hold ≡ true → (step p s).left ≡ s.left
    first runs = step_left p.plan (instr_at p s.pc) s (λ i at. other 0 i (omega (arith, more runs)) at)

    by : (b : Bool) → is_running s.hold ≡ b
        → (is_running s.hold ≡ true → (burst most p (step p s)).left ≡ (step p s).left)
        → (burst (suc most) p s).left ≡ s.left
    by true runs rest = ap (λ (t : State). t.left) (after most runs) ∙ rest runs ∙ first runs
    by false stops rest = ap (λ (b : Bool). (cond b (burst most p (step p s)) s).left) stops

either_left : (test : Bool) (s t : State) → s.left ≡ t.left → (cond test s t).left ≡ t.left
either_left true s t same = same
either_left false s t same = refl

begun : (s : State) → (s.left ≡ None) ⊎ (is_due s.left ≡ true) → (with_due_swap s).left ≡ None
begun s (inl none) = either_left (is_due s.left) (with_swap s) s (sym none) ∙ none
begun s (inr due) = ap (λ (b : Bool). (cond b (with_swap s) s).left) due

pub swaps_are_committed : SwapsAreCommitted
swaps_are_committed p s idle other =
    let t : State = with_due_swap s in
    let before = either_left (is_here t t.hold) (record t { hold = Running }) t refl ∙ begun s idle in
    let end : State = after_burst p s in
    let shows = either_left _ _ end refl ∙ (burst_left _ p _ (λ k i below at. other i (k, below, at)) ∙ before) in
    ap left_after_frame shows
