-- Flows whose configurations are in a table, and which configuration of a flow is which one of a table.
use Rattle.std.specs.Prelude.{◌≡◌, ℕ, ◌<◌, ◌&&◌, Bool, not, if◌then◌else◌, List, get_or, slice_get, Option, Some, None}
use Rattle.std.specs.Prelude.{IfSome}
use Rattle.mux_config.specs.Configuration.{Configuration, nothing}
use Rattle.plan_code.specs.declared.label.Swap.{Swap}
use Rattle.plan_code.specs.declared.instr.Instr.{Instr}
use Rattle.plan_code.specs.declared.instr.Instr.TheVariants.{Edit as Edits, Join, Wait, Until, WaitContact, WaitAny}
use Rattle.plan_code.specs.declared.instr.Instr.TheVariants.{Settle}
use Rattle.plan_verifier.specs.declared.indices.IndexedFlow.{IndexedFlow}
use Rattle.plan_verifier.specs.declared.indices.Indices.{Indices}
use Rattle.plan_verifier.specs.declared.tracked.TrackedFlow.{TrackedFlow}
use Rattle.plan_verifier.specs.Flows.{Flow, held}
use Rattle.plan_verifier.specs.Tests.{is_idle}

-- the configuration at an index of a table; the empty one past its end
abbrev pub configuration_at : List Configuration → ℕ → Configuration
configuration_at table index = get_or table index nothing

-- the flow with the configurations at these indices
abbrev pub flow_at : List Configuration → IndexedFlow → Flow
flow_at table f = record {
  current = configuration_at table f.current;
  next = configuration_at table f.next;
  pending = f.pending;
}

-- both indices are within a table of this length
abbrev pub IsWithin : ℕ → IndexedFlow → Type 0
IsWithin n f = (f.current < n) × (f.next < n)

-- a configuration has this index in a table, if one is known
abbrev pub IsAt : List Configuration → Option ℕ → Configuration → Type 0
IsAt table known c = IfSome known (λ k. slice_get table k ≡ Some c)

abbrev pub AreAt : List Configuration → Indices → Flow → Type 0
AreAt table indices t = IsAt table indices.current t.current × IsAt table indices.next t.next

-- the configurations of a flow have the indices that are known
abbrev pub IsTracked : {S : Type 0} → (S → Configuration) → List Configuration → TrackedFlow S → Type 0
IsTracked content table f = AreAt table f.indices (held content f.flow)

-- ---- the indices that are known then

-- those of a flow that is in the table
abbrev pub indices_of : IndexedFlow → Indices
indices_of f = record { current = Some f.current; next = Some f.next }

-- after the swap
abbrev pub swapped_indices : Indices → Indices
swapped_indices k = record { current = k.next; next = k.next }

-- a swap that was or may have been pending has been made
abbrev pub has_swapped : Swap → Swap → Bool
has_swapped before after = not (is_idle before) && is_idle after

-- after one frame or more, or a settle
abbrev pub moved_indices : Swap → Swap → Indices → Indices
moved_indices before after k = if has_swapped before after then swapped_indices k else k

-- after an instruction that changes the swap from the first to the second
abbrev pub indices_after : Instr → Swap → Swap → Indices → Indices
indices_after (Edits edit) before after k = record { current = k.current; next = None }
indices_after Join before after k = swapped_indices k
indices_after (Wait frames) before after k = moved_indices before after k
indices_after (Until day) before after k = moved_indices before after k
indices_after (WaitContact contact closed) before after k = moved_indices before after k
indices_after (WaitAny closed opened until frames) before after k = moved_indices before after k
indices_after Settle before after k = moved_indices before after k
indices_after _ before after k = k

-- those of a flow with the given swap that fits another, which is in the table
abbrev pub fit_indices : Swap → IndexedFlow → Indices
fit_indices pending f = if has_swapped f.pending pending then swapped_indices (indices_of f) else indices_of f
