-- The result of compiling a block or a statement, from its parts.
use Rattle.script_compiler.proofs.Words.{◌≡◌, ◌≤◌, Block, Bool, CanEmit, Cause, CodeLimit, CompileFault, Compiles}
use Rattle.script_compiler.proofs.Words.{Context, Err, Fails, IfErr, IfLimit, IfOk, IfRefused, IsInLimits, IsJudged}
use Rattle.script_compiler.proofs.Words.{IsLimitAt, IsRefusedIn, Left, Limit, Memory, Ok, OnOk, Refused, Result, Work}
use Rattle.script_compiler.proofs.Words.{apply, inl, nothing, subst, sym, ℕ}
use Rattle.script_compiler.proofs.Emitted.{left_apply}
use Rattle.script_compiler.proofs.Refusing.{refused_map}
use Rattle.script_compiler.proofs.Spaces.{limit_map}
use Rattle.script_compiler.proofs.Fitting.{can_apply}

module _ (c : Context) (b : Block) (v : Work) where
  pub compiles : (rest : Block) (w : Work) (x : Result Bool CompileFault)
      → IfOk x (λ f. Left c.plan.now c.counters b v w f rest) → OnOk x (IsInLimits w) → IfErr x (λ e. Fails c b v e)
      → Compiles c b rest v w x
  compiles rest w (Ok f) left limits fails = record { left = left; limits = limits }
  compiles rest w (Err e) left limits fails = fails

  -- a fault that is no refusal
  pub fails : (e : CompileFault) (line : ℕ) {P : CodeLimit → Type 0} → IsLimitAt line P e
      → ((k : CodeLimit) → P k → CanEmit k c.plan.now c.counters b v → ⊥) → Fails c b v e
  fails (Refused at cause) line h limited = absurd h
  fails (Limit at k) line h limited = record { refused = λ is _. is; why = tt; limited = limited k h.1 }
  fails Memory line h limited = record { refused = λ is _. is; why = tt; limited = tt }

  -- a fault at this line
  pub fails_at : (e : CompileFault) (line : ℕ) {R : Cause → Type 0} {P : CodeLimit → Type 0}
      → IfRefused e (λ at cause. (at ≡ line) × R cause) → IfLimit e (λ at k. (at ≡ line) × P k) →
      ((cause : Cause) → R cause → IsJudged c.plan.now b v.now → ⊥)
      → ((cause : Cause) → R cause → IsRefusedIn c.plan.now b v.now line cause) →
      ((k : CodeLimit) → P k → CanEmit k c.plan.now c.counters b v → ⊥) → Fails c b v e
  fails_at (Refused at cause) line h g refused why limited =
      record {
        refused = λ _. refused cause h.1;
        why = subst (λ n. IsRefusedIn c.plan.now b v.now n cause) (sym h.0) (why cause h.1);
        limited = tt;
      }
  fails_at (Limit at k) line h g refused why limited =
      record { refused = λ is _. is; why = tt; limited = limited k g.1 }
  fails_at Memory line h g refused why limited = record { refused = λ is _. is; why = tt; limited = tt }

-- a fault in a part of the block
pub fails_within : (c : Context) (b : Block) (v : Work) {d : Context} {part : Block} {w : Work} {e : CompileFault}
    → Fails d part w e → (IsJudged c.plan.now b v.now → IsJudged d.plan.now part w.now) →
    ((at : ℕ) (given : Cause) → IsRefusedIn d.plan.now part w.now at given → IsRefusedIn c.plan.now b v.now at given) →
    ((k : CodeLimit) → CanEmit k c.plan.now c.counters b v → CanEmit k d.plan.now d.counters part w) → Fails c b v e
fails_within c b v {d} {part} {w} {e} h judged why room = record {
  refused = λ is j. h.refused is (judged j);
  why = refused_map e why h.why;
  limited = limit_map e (λ at k full can. full (room k can)) h.limited;
}

-- the same block, written in another way
pub compiles_as : (c : Context) (b b' rest : Block) (v w : Work) (x : Result Bool CompileFault) → b ≡ b'
    → Compiles c b' rest v w x → Compiles c b rest v w x
compiles_as c b b' rest v w x same h = subst (λ z. Compiles c z rest v w x) (sym same) h

-- a block that is applied is compiled in the context of the blocks before it
pub compiles_applied : (c d : Context) (line number : ℕ) (named rest : Block) (v w : Work)
    (x : Result Bool CompileFault) → d.plan.now ≡ c.plan.now → d.counters ≡ c.counters → c.counters ≤ 8 →
    Compiles d named nothing v w x → Compiles c (apply line number named rest) rest v w x
compiles_applied c d line number named rest v w (Ok f) plan counters deep h = record {
  left = left_apply c.plan.now c.counters line number named rest v w f deep (rw (← plan) (rw (← counters) h.left));
  limits = h.limits;
}
compiles_applied c d line number named rest v w (Err e) plan counters deep h =
    fails_within c (apply line number named rest) v h (λ judged.
    subst (λ p. IsJudged p named v.now) (sym plan) judged.0)
    (λ at given k. inl (subst (λ p. IsRefusedIn p named v.now at given) plan k))
    (λ limit can. subst (λ p. CanEmit limit p d.counters named v) (sym plan)
    (subst (λ r. CanEmit limit c.plan.now r named v) (sym counters)
    (can_apply limit c.plan.now c.counters line number named rest v can)))
