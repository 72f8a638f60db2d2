-- The flow after an instruction, and how counters and the allowance change.
use Rattle.plan_verifier.proofs.Words.{◌-◌, ◌≡◌, Bool, Counters, Flow, Idle, Instr, Perhaps, Plan, Settle, Swap, Until}
use Rattle.plan_verifier.proofs.Words.{Wait, WaitAny, WaitContact, Within, after_instr, after_pause, after_settle}
use Rattle.plan_verifier.proofs.Words.{after_wait, false, flow_of, if◌then◌else◌, known_after_swap, known_at}
use Rattle.plan_verifier.proofs.Words.{known_with, left_over, nat_lt, perhaps_swapped, refl, rested, set_after, true, ℕ}
use Rattle.plan_verifier.specs.Rules.{spent, leaves}

waited_known : (plan : Plan) (frames : ℕ) (p : Swap) (f : Flow) (c : Counters) (a : ℕ)
    → rested plan (after_wait frames p (known_with f c a))
    ≡ known_with (flow_of (after_wait frames p (known_at f))) c plan.budget
waited_known plan frames Idle f c a = refl
waited_known plan frames (Within lo hi) f c a = by (nat_lt frames lo)
  where
    by : (b : Bool) → rested plan
        (if b then record (known_with f c a) { pending = Within (lo - frames) (hi - frames) } else known_after_swap
        (known_with f c a))
        ≡ known_with (flow_of (if b then record (known_at f) { pending = Within (lo - frames) (hi - frames) } else
        known_after_swap (known_at f))) c plan.budget
    by true = refl
    by false = refl
waited_known plan frames (Perhaps hi) f c a = by (nat_lt frames hi)
  where
    by : (b : Bool) → rested plan
        (if b then record (known_with f c a) { pending = Perhaps (hi - frames) } else known_after_swap
        (known_with f c a))
        ≡ known_with (flow_of (if b then record (known_at f) { pending = Perhaps (hi - frames) } else known_after_swap
        (known_at f))) c plan.budget
    by true = refl
    by false = refl

perhaps_known : (plan : Plan) (hi : ℕ) (f : Flow) (c : Counters) (a : ℕ)
    → rested plan (perhaps_swapped hi (known_with f c a))
    ≡ known_with (flow_of (perhaps_swapped hi (known_at f))) c plan.budget
perhaps_known plan hi f c a = by (nat_lt 1 hi)
  where
    by : (b : Bool) → rested plan
        (if b then record (known_with f c a) { pending = Perhaps (hi - 1) } else known_after_swap (known_with f c a))
        ≡ known_with (flow_of (if b then record (known_at f) { pending = Perhaps (hi - 1) } else known_after_swap
        (known_at f))) c plan.budget
    by true = refl
    by false = refl

paused_known : (plan : Plan) (p : Swap) (f : Flow) (c : Counters) (a : ℕ)
    → rested plan (after_pause p (known_with f c a)) ≡ known_with (flow_of (after_pause p (known_at f))) c plan.budget
paused_known plan Idle f c a = refl
paused_known plan (Within lo hi) f c a = perhaps_known plan hi f c a
paused_known plan (Perhaps hi) f c a = perhaps_known plan hi f c a

settled_known : (p : Swap) (f : Flow) (c : Counters) (a : ℕ)
    → spent (after_settle p (known_with f c a)) ≡ known_with (flow_of (after_settle p (known_at f))) c (a - 1)
settled_known Idle f c a = refl
settled_known _ f c a = refl

pub leaves_known : (plan : Plan) (i : Instr) (f : Flow) (c : Counters) (a : ℕ)
    → leaves plan i (known_with f c a) ≡ known_with (after_instr plan i f) (set_after i c) (left_over plan i a)
leaves_known plan (Wait frames) f c a = waited_known plan frames f.pending f c a
leaves_known plan (Until day) f c a = paused_known plan f.pending f c a
leaves_known plan (WaitContact contact closed) f c a = paused_known plan f.pending f c a
leaves_known plan (WaitAny closed opened until frames) f c a = paused_known plan f.pending f c a
leaves_known plan Settle f c a = settled_known f.pending f c a
leaves_known plan _ f c a = refl
