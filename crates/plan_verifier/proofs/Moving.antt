-- The indices of the configurations in a table, after an instruction and where a flow fits another.
use Rattle.plan_verifier.proofs.Words.{◌-◌, ◌<◌, ◌∙◌, ◌≡◌, AreAt, Bool, Configuration, Edits, FitsFlow, FitsSwap, Flow}
use Rattle.plan_verifier.proofs.Words.{Idle, IndexedFlow, Indices, Instr, IsAt, IsWithin, Join, List, Option, Perhaps}
use Rattle.plan_verifier.proofs.Words.{Plan, Settle, Some, Swap, Until, Wait, WaitAny, WaitContact, Within, after_instr}
use Rattle.plan_verifier.proofs.Words.{after_pause, after_settle, after_wait, ap, configuration_at, false, fit_indices}
use Rattle.plan_verifier.proofs.Words.{flow_at, flow_of, get_or_from_slice_get, has_swapped, if◌then◌else◌}
use Rattle.plan_verifier.proofs.Words.{indices_after, indices_of, is_same, known_after_swap, known_at, length}
use Rattle.plan_verifier.proofs.Words.{moved_indices, nat_lt, nothing, refl, slice_get, slice_get-get_or, subst}
use Rattle.plan_verifier.proofs.Words.{swapped_indices, sym, true, ℕ}
use Rattle.plan_verifier.specs.Rules.{Known}
use Rattle.plan_verifier.proofs.DecidingFlows.{decides_same}

-- ---- after an instruction

-- one that leaves the swap, and may have made it
abbrev MovesOn : List Configuration → Indices → Swap → Known → Type 0
MovesOn table k p u = AreAt table (moved_indices p u.pending k) (flow_of u)

waited : (table : List Configuration) (k : Indices) (frames : ℕ) (p : Swap) (t : Known) → AreAt table k (flow_of t)
    → MovesOn table k p (after_wait frames p t)
waited table k frames Idle t h = h
waited table k frames (Within lo hi) t h = by (nat_lt frames lo)
  where
    by : (b : Bool) → MovesOn table k (Within lo hi)
        (if b then record t { pending = Within (lo - frames) (hi - frames) } else known_after_swap t)
    by true = h
    by false = (h.1, h.1)
waited table k frames (Perhaps hi) t h = by (nat_lt frames hi)
  where
    by : (b : Bool) → MovesOn table k (Perhaps hi)
        (if b then record t { pending = Perhaps (hi - frames) } else known_after_swap t)
    by true = h
    by false = (h.1, h.1)

paused : (table : List Configuration) (k : Indices) (p : Swap) (t : Known) → AreAt table k (flow_of t)
    → MovesOn table k p (after_pause p t)
paused table k Idle t h = h
paused table k (Within lo hi) t h = by (nat_lt 1 hi)
  where
    by : (b : Bool) → MovesOn table k (Within lo hi)
        (if b then record t { pending = Perhaps (hi - 1) } else known_after_swap t)
    by true = h
    by false = (h.1, h.1)
paused table k (Perhaps hi) t h = by (nat_lt 1 hi)
  where
    by : (b : Bool) → MovesOn table k (Perhaps hi)
        (if b then record t { pending = Perhaps (hi - 1) } else known_after_swap t)
    by true = h
    by false = (h.1, h.1)

settled : (table : List Configuration) (k : Indices) (p : Swap) (t : Known) → p ≡ t.pending → AreAt table k (flow_of t)
    → MovesOn table k p (after_settle p t)
settled table k Idle t e h = h
settled table k _ t e h = (h.1, h.1)

-- the configurations are where the indices say, after each instruction
pub tracked_after : (plan : Plan) (i : Instr) (table : List Configuration) (k : Indices) (t : Flow) → AreAt table k t
    → AreAt table (indices_after i t.pending (after_instr plan i t).pending k) (after_instr plan i t)
tracked_after plan (Edits edit) table k t h = (h.0, tt)
tracked_after plan (Wait frames) table k t h = waited table k frames t.pending (known_at t) h
tracked_after plan (Until day) table k t h = paused table k t.pending (known_at t) h
tracked_after plan (WaitContact contact closed) table k t h = paused table k t.pending (known_at t) h
tracked_after plan (WaitAny closed opened until frames) table k t h = paused table k t.pending (known_at t) h
tracked_after plan Join table k t h = (h.1, h.1)
tracked_after plan Settle table k t h = settled table k t.pending (known_at t) refl h
tracked_after plan _ table k t h = h

-- ---- configurations at an index

-- a configuration at this index is the one in the table
pub there_is : (table : List Configuration) (known : Option ℕ) (index : ℕ) (c : Configuration) → IsAt table known c
    → known ≡ Some index → c ≡ configuration_at table index
there_is table known index c at e =
    sym (get_or_from_slice_get table index c nothing (subst (λ (o : Option ℕ). IsAt table o c) e at))

pub there_same : (table : List Configuration) (known : Option ℕ) (index : ℕ) (c : Configuration) (r : Bool)
    → IsAt table known c → known ≡ Some index → r ≡ true → r ≡ is_same c (configuration_at table index)
there_same table known index c r at e is = is ∙ sym ((decides_same _ _).found (there_is _ _ _ _ at e))

pub is_there : (table : List Configuration) (index : ℕ) (c : Configuration) → index < length table
    → c ≡ configuration_at table index → slice_get table index ≡ Some c
is_there table index c lt e = slice_get-get_or table index nothing lt ∙ ap Some (sym e)

-- ---- a flow that fits another has its configurations, except for the current one if the swap may have been made

pub next_fits : (p q : Swap) (t u : Known) → FitsSwap p q t u → t.next ≡ u.next
next_fits Idle Idle t u h = h.1
next_fits Idle (Within low high) t u h = absurd h
next_fits Idle (Perhaps high) t u h = h.1
next_fits (Within lo hi) Idle t u h = absurd h
next_fits (Within lo hi) (Within low high) t u h = h.0.1
next_fits (Within lo hi) (Perhaps high) t u h = h.0.1
next_fits (Perhaps hi) Idle t u h = absurd h
next_fits (Perhaps hi) (Within low high) t u h = absurd h
next_fits (Perhaps hi) (Perhaps high) t u h = h.0.1

current_fits : (p q : Swap) (t u : Known) → FitsSwap p q t u
    → t.current ≡ (if has_swapped q p then u.next else u.current)
current_fits Idle Idle t u h = h.0
current_fits Idle (Within low high) t u h = absurd h
current_fits Idle (Perhaps high) t u h = h.0
current_fits (Within lo hi) Idle t u h = absurd h
current_fits (Within lo hi) (Within low high) t u h = h.0.0
current_fits (Within lo hi) (Perhaps high) t u h = h.0.0
current_fits (Perhaps hi) Idle t u h = absurd h
current_fits (Perhaps hi) (Within low high) t u h = absurd h
current_fits (Perhaps hi) (Perhaps high) t u h = h.0.0

fit_by : (table : List Configuration) (f : IndexedFlow) (b : Bool) (t : Flow) → IsWithin (length table) f
    → t.current ≡ (if b then configuration_at table f.next else configuration_at table f.current)
    → t.next ≡ configuration_at table f.next → AreAt table (if b then swapped_indices (indices_of f) else indices_of f)
    t
fit_by table f true t within current next =
    (is_there table f.next t.current within.1 current, is_there table f.next t.next within.1 next)
fit_by table f false t within current next =
    (is_there table f.current t.current within.0 current, is_there table f.next t.next within.1 next)

pub tracked_fit : (table : List Configuration) (f : IndexedFlow) (t : Flow) → IsWithin (length table) f
    → FitsFlow t (flow_at table f) → AreAt table (fit_indices t.pending f) t
tracked_fit table f t within h =
    let u : Flow = flow_at table f in
    fit_by table f _ t within (current_fits _ _ _ _ h) (next_fits t.pending f.pending (known_at t) (known_at u) h)
