-- The cause found at an instruction is the first of the definition, and none is found where the instruction is fine.
use Rattle.plan_verifier.proofs.Words.{◌↔◌, ◌≡◌, ◌≤◌, Bool, CanCommit, Cause, CommitAt, CommitIn, CommitRefused}
use Rattle.plan_verifier.proofs.Words.{Counters, Edits, Err, Flow, FlowRefused, HasItsCounter, Idle, IfErr, Instr}
use Rattle.plan_verifier.proofs.Words.{IsConfiguration, Join, Loop, None, Ok, Option, Perhaps, Plan, Result, Some, Swap}
use Rattle.plan_verifier.proofs.Words.{Wait, Within, ap, arith, both_ways, cause_if, cause_of, commit_cause, false}
use Rattle.plan_verifier.proofs.Words.{false_from_ne_true, first_fault, fits_swap, flow_of, known_at, known_with, not}
use Rattle.plan_verifier.proofs.Words.{not-false, refl, sound_found, sound_told, subst, sym, true, ℕ}
use Rattle.plan_verifier.specs.Rules.{Known, IsFine}
use Rattle.plan_verifier.specs.Tests.{◌first_or◌, unless, flow_cause}
use Rattle.plan_verifier.proofs.DecidingFlows.{Decides, Computes, decides_not, decides_lt, decides_same, decides_idle}
use Rattle.plan_verifier.proofs.DecidingFlows.{decides_pending, decides_certain, decides_room, decides_count}
use Rattle.plan_verifier.proofs.DecidingFlows.{computes_never, computes_where, computes_some, computes_orelse}

pub decides_is_true : (b : Bool) → Decides b (b ≡ true)
decides_is_true b = record { told = λ e. e; found = λ e. e }

pub decides_is_false : (b : Bool) → Decides (not b) (b ≡ false)
decides_is_false true = record { told = λ e. sym e; found = λ e. sym e }
decides_is_false false = record { told = λ e. refl; found = λ e. refl }

pub commit_computes : (plan : Plan) (t : Known) (b : Bool) (P : Type 0) (cause : Cause) → Decides b P
    → Computes (commit_cause plan t b cause) (CommitRefused plan t P cause)
commit_computes plan t b P cause d =
    computes_orelse _ _ _ _ (computes_where _ _ _ (decides_not _ _ (decides_idle t.pending)))
    (computes_orelse _ _ _ _ (computes_where _ _ _ d)
    (computes_orelse _ _ _ _ (computes_some (first_fault t.next) _)
    (computes_orelse _ _ _ _ (computes_where _ _ _ (decides_same t.next t.current))
    (computes_where _ _ _ (decides_not _ _ (decides_room plan t))))))

pub flow_computes : (plan : Plan) (i : Instr) (t : Known) → Computes (flow_cause plan i t) (FlowRefused plan i t)
flow_computes plan (Edits edit) t =
    computes_orelse _ _ _ _ (computes_where _ _ _ (decides_not _ _ (decides_idle t.pending))) (computes_some _ _)
flow_computes plan (CommitIn delay) t = commit_computes plan t _ _ _ (decides_lt delay plan.notice)
flow_computes plan (CommitAt count) t = commit_computes plan t _ _ _ (decides_not _ _ (decides_count plan count))
flow_computes plan (Wait frames) t = computes_where _ _ _ (decides_not _ _ (decides_certain frames t.pending))
flow_computes plan Join t = computes_where _ _ _ (decides_not _ _ (decides_pending t.pending))
flow_computes plan _ t = computes_never

-- ---- no cause is found exactly where the instruction is fine

pub none_two : (o p : Option Cause) → o first_or p ≡ None → (o ≡ None) × (p ≡ None)
none_two None p e = (refl, e)
none_two (Some cause) p e = absurd cc

pub two_none : (o p : Option Cause) → o ≡ None → p ≡ None → o first_or p ≡ None
two_none o p e f = rw e f

pub none_if : (b : Bool) (cause : Cause) → cause_if b cause ≡ None → b ≡ false
none_if true cause e = absurd cc
none_if false cause e = refl

pub if_none : (b : Bool) (cause : Cause) → b ≡ false → cause_if b cause ≡ None
if_none b cause e = rw e refl

pub none_of : {T : Type 0} (o : Option T) (cause : T → Cause) → cause_of o cause ≡ None → o ≡ None
none_of None cause e = refl
none_of (Some fault) cause e = absurd cc

pub of_none : {T : Type 0} (o : Option T) (cause : T → Cause) → o ≡ None → cause_of o cause ≡ None
of_none o cause e = rw e refl

-- a test for a fault
pub refuted : (b : Bool) (P : Type 0) (cause : Cause) → Decides b P → cause_if b cause ≡ None → P → ⊥
refuted b P cause d e p = both_ways b (none_if b cause e) (d.found p)

pub none_where : (b : Bool) (P : Type 0) (cause : Cause) → Decides b P → (P → ⊥) → cause_if b cause ≡ None
none_where b P cause d h = if_none b cause (false_from_ne_true b (λ e. h (d.told e)))

-- a test for a requirement
pub needed : (b : Bool) (P : Type 0) (cause : Cause) → Decides b P → cause_if (not b) cause ≡ None → P
needed b P cause d e = d.told (not-false b (none_if (not b) cause e))

pub none_unless : (b : Bool) (P : Type 0) (cause : Cause) → Decides b P → P → cause_if (not b) cause ≡ None
none_unless b P cause d p = if_none (not b) cause (ap not (d.found p))

pub can_commit : (plan : Plan) (t : Known) (b : Bool) (P : Type 0) (cause : Cause) → Decides b P
    → commit_cause plan t b cause ≡ None → CanCommit plan t × (P → ⊥)
can_commit plan t b P cause d e =
    let one = none_two _ _ e in
    let two = none_two _ _ one.1 in
    let three = none_two _ _ two.1 in
    let four = none_two _ _ three.1 in (
      record {
        idle = needed _ _ _ (decides_idle t.pending) one.0;
        sound = sound_told t.next (none_of _ _ three.0);
        changes = refuted _ _ _ (decides_same t.next t.current) four.0;
        room = needed _ _ _ (decides_room plan t) four.1;
      },
      refuted b P cause d two.0,
    )

pub commit_none : (plan : Plan) (t : Known) (b : Bool) (P : Type 0) (cause : Cause) → Decides b P
    → IsConfiguration t.next → CanCommit plan t → (P → ⊥) → commit_cause plan t b cause ≡ None
commit_none plan t b P cause d formed h n =
    two_none _ _ (none_unless _ _ _ (decides_idle t.pending) h.idle)
    (two_none _ _ (none_where b P cause d n)
    (two_none _ _ (of_none _ _ (sound_found t.next formed h.sound))
    (two_none _ _ (none_where _ _ _ (decides_same t.next t.current) h.changes)
    (none_unless _ _ _ (decides_room plan t) h.room))))

pub flow_fine : (plan : Plan) (i : Instr) (t : Known) → HasItsCounter i t.counters → flow_cause plan i t ≡ None
    → IsFine plan i t
flow_fine plan (Edits edit) t c e = let parts = none_two _ _ e in
    (needed _ _ _ (decides_idle t.pending) parts.0, none_of _ _ parts.1)
flow_fine plan (CommitIn delay) t c e =
    let h = can_commit plan t _ _ _ (decides_lt delay plan.notice) e in
    (h.0, omega arith)
flow_fine plan (CommitAt count) t c e =
    let d = decides_count plan count in
    let two = none_two _ _ (none_two _ _ e).1 in
    ((can_commit plan t _ _ _ (decides_not _ _ d) e).0, needed _ _ _ d two.0)
flow_fine plan (Wait frames) t c e = needed _ _ _ (decides_certain frames t.pending) e
flow_fine plan Join t c e = needed _ _ _ (decides_pending t.pending) e
flow_fine plan (Loop counter target) t c e = c
flow_fine plan _ t c e = tt

pub fine_none : (plan : Plan) (i : Instr) (t : Known) → IsConfiguration t.next → IsFine plan i t
    → flow_cause plan i t ≡ None
fine_none plan (Edits edit) t formed h = two_none _ _ (none_unless _ _ _ (decides_idle t.pending) h.0) (of_none _ _ h.1)
fine_none plan (CommitIn delay) t formed h =
    commit_none plan t _ _ _ (decides_lt delay plan.notice) formed h.0
    (λ lt. let enough : plan.notice ≤ delay = h.1 in omega (arith, lt, enough))
fine_none plan (CommitAt count) t formed h =
    commit_none plan t _ _ _ (decides_not _ _ (decides_count plan count)) formed h.0 (λ n. n h.1)
fine_none plan (Wait frames) t formed h = none_unless _ _ _ (decides_certain frames t.pending) h
fine_none plan Join t formed h = none_unless _ _ _ (decides_pending t.pending) h
fine_none plan _ t formed h = refl

-- ---- results of functions

pub unless_err : (o : Option Cause) (given : Cause) → Err given ≡ unless o → o ≡ Some given
unless_err None given e = absurd cc
unless_err (Some cause) given e = let same : given ≡ cause = cc in ap Some (sym same)

pub unless_ok : (o : Option Cause) → Ok tt ≡ unless o → o ≡ None
unless_ok None e = refl
unless_ok (Some cause) e = absurd cc

pub answers_refused : (plan : Plan) (i : Instr) (t : Known) (r : Result (Unit {0}) Cause)
    → r ≡ unless (flow_cause plan i t) → IfErr r (λ cause. FlowRefused plan i t cause)
answers_refused plan i t (Ok done) e = tt
answers_refused plan i t (Err given) e = (flow_computes plan i t).told given (unless_err _ given e)

-- ---- the cause does not depend on the counters and the allowance

pub flow_alone : (plan : Plan) (i : Instr) (t : Known) → flow_cause plan i (known_at (flow_of t)) ≡ flow_cause plan i t
flow_alone plan (Edits edit) t = refl
flow_alone plan _ t = refl

pub swap_alone : (p q : Swap) (t declared : Known) → fits_swap p q (known_at (flow_of t)) (known_at (flow_of declared))
    ≡ fits_swap p q t declared
swap_alone Idle Idle t declared = refl
swap_alone Idle (Within low high) t declared = refl
swap_alone Idle (Perhaps high) t declared = refl
swap_alone (Within lo hi) Idle t declared = refl
swap_alone (Within lo hi) (Within low high) t declared = refl
swap_alone (Within lo hi) (Perhaps high) t declared = refl
swap_alone (Perhaps hi) Idle t declared = refl
swap_alone (Perhaps hi) (Within low high) t declared = refl
swap_alone (Perhaps hi) (Perhaps high) t declared = refl

pub commit_fine : (plan : Plan) (f : Flow) (c d : Counters) (a b : ℕ) → CanCommit plan (known_with f c a)
    → CanCommit plan (known_with f d b)
commit_fine plan f c d a b h = record {
  idle = h.idle;
  sound = h.sound;
  changes = h.changes;
  room = record { within_period = h.room.within_period; three_times = h.room.three_times; alone = h.room.alone };
}

pub fine_in : (plan : Plan) (i : Instr) (delay : ℕ) (f : Flow) (c : Counters) (a : ℕ) (P : Type 0) → i ≡ CommitIn delay
    → (P ↔ IsFine plan (CommitIn delay) (known_at f)) → (P ↔ IsFine plan i (known_with f c a))
fine_in plan i delay f c a P is h =
    let fine : P ↔ IsFine plan (CommitIn delay) (known_with f c a) =
    (λ p. let g = h.0 p in (commit_fine plan f _ c 0 a g.0, g.1), λ g. h.1 (commit_fine plan f c _ a 0 g.0, g.1)) in
    subst (λ (j : Instr). P ↔ IsFine plan j (known_with f c a)) (sym is) fine

pub fine_at : (plan : Plan) (i : Instr) (count : ℕ) (f : Flow) (c : Counters) (a : ℕ) (P : Type 0) → i ≡ CommitAt count
    → (P ↔ IsFine plan (CommitAt count) (known_at f)) → (P ↔ IsFine plan i (known_with f c a))
fine_at plan i count f c a P is h =
    let fine : P ↔ IsFine plan (CommitAt count) (known_with f c a) =
    (λ p. let g = h.0 p in (commit_fine plan f _ c 0 a g.0, g.1), λ g. h.1 (commit_fine plan f c _ a 0 g.0, g.1)) in
    subst (λ (j : Instr). P ↔ IsFine plan j (known_with f c a)) (sym is) fine
