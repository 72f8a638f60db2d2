-- A refusal where two sub-channels share units: facts that hold of it, and facts that do not.
use Rattle.std.proofs.Common.{◌≡◌, ◌≢◌, ℕ, false, [], ◌∷◌, length, Option, Some, None, refl, ap, arith}
use Rattle.mux_eep.specs.declared.sizes.EepSet.TheVariants.{A}
use Rattle.mux_types.specs.declared.numbers.Sid.TheVariants.{Short}
use Rattle.mux_types.specs.declared.parts.Component.TheVariants.{Sound}
use Rattle.mux_types.specs.declared.parts.Packet.{Packet}
use Rattle.mux_types.specs.declared.parts.Sub.{Sub}
use Rattle.mux_config.specs.Configuration.{Configuration, nothing}
use Rattle.plan_code.specs.declared.label.Swap.TheVariants.{Idle, Within}
use Rattle.plan_code.specs.declared.instr.Instr.TheVariants.{Join}
use Rattle.plan_verifier.specs.declared.cause.Cause.TheVariants.{JoinIdle, Pending, Mismatch}
use Rattle.plan_verifier.specs.Flows.{Flow, FitsFlow}
use Rattle.plan_verifier.proofs.Samples.{plan}
use Rattle.script_compiler.specs.declared.fault.CompileFault.TheVariants.{Refused as IsRefusedAt}
use Rattle.plan_explain.specs.declared.difference.Compared.TheVariants.{Current, AfterSwap}
use Rattle.plan_explain.specs.declared.difference.Difference.TheVariants.{Sub as OfSub}
use Rattle.plan_explain.specs.declared.fact.Fact.TheVariants.{HasSub}
use Rattle.plan_explain.specs.declared.stop.Refused.{Refused}
use Rattle.plan_explain.specs.declared.stop.Refused.TheVariants.{Instr, Loop}
use Rattle.plan_explain.specs.declared.stop.Stop.{Stop}
use Rattle.plan_explain.specs.Stops.{cause_of, IsRefusal, IsStop}
use Rattle.plan_explain.specs.Differences.{compared, Differ, with_swap}
use Rattle.plan_explain.specs.Facts.{Holds, Shares, IsApart}

-- ---- a configuration, and refusals where it is known

abbrev one : Sub
one = record { id = 1; start = 0; protection = record { set = A; level = 3 }; kbits = 8 }

abbrev two : Sub
two = record { id = 2; start = 4; protection = record { set = A; level = 3 }; kbits = 8 }

abbrev crowded : Configuration
crowded = record {
  subs = one ∷ two ∷ [];
  services = record { sid = Short 5; components = Sound 63 1 ∷ [] } ∷ [];
  packets = [];
}

abbrev idle : Flow
idle = record { current = nothing; next = crowded; pending = Idle }

abbrev pending : Flow
pending = record { current = nothing; next = crowded; pending = Within 24 27 }

abbrev stop_at : Refused → Stop
stop_at refused = record { line = 9; refused = refused; in_opening = false; plan = plan; here = idle; other = pending }

abbrev joins : Stop
joins = stop_at (Instr Join JoinIdle)

-- ---- what is refused

join_refused : IsRefusal joins
join_refused = refl

not_for_another_cause : IsRefusal (stop_at (Instr Join Pending)) → ⊥
not_for_another_cause e = absurd cc

its_stop : IsStop (IsRefusedAt 9 JoinIdle) joins
its_stop = record { same = refl; refused = refl }

not_of_another_line : IsStop (IsRefusedAt 8 JoinIdle) joins → ⊥
not_of_another_line h = let e : IsRefusedAt 8 JoinIdle ≡ IsRefusedAt 9 JoinIdle = h.same in absurd cc

loops_mismatch : cause_of Loop ≡ Mismatch
loops_mismatch = refl

-- ---- members

abbrev start_of : Option Sub → ℕ
start_of None = 0
start_of (Some s) = s.start

has_one : Holds (HasSub one) joins
has_one = refl

has_no_other_one : Holds (HasSub (record one { start = 1 })) joins → ⊥
has_no_other_one e = let same : 0 ≡ 1 = ap start_of e in absurd (omega (arith, same))

-- ---- shared units

they_share : Shares (record { first = one; second = two; low = 4; high = 5 })
they_share = record { from = refl; to = refl; some = omega arith }

not_from_three : Shares (record { first = one; second = two; low = 3; high = 5 }) → ⊥
not_from_three h = let e : 3 ≡ 4 = h.from in absurd (omega (arith, e))

abbrev packet : ℕ → Packet
packet scid = record { scid = scid; dg = false; ty = 5; sub = 1; address = 9 }

five_and_six : ◌≢◌ {A = ℕ} 5 6
five_and_six e = absurd (omega (arith, e))

one_address : IsApart (packet 5) (packet 6)
one_address = record { differ = five_and_six; sub = refl; address = refl }

not_of_one : IsApart (packet 5) (packet 5) → ⊥
not_of_one h = h.differ refl

-- ---- two paths

after_the_swap : compared AfterSwap Idle pending ≡ crowded
after_the_swap = refl

current_is_not : compared Current Idle pending ≡ crowded → ⊥
current_is_not e = let same : 0 ≡ 2 = ap (λ (c : Configuration). length c.subs) e in absurd (omega (arith, same))

one_differs : Differ (OfSub 1) nothing crowded
one_differs e = absurd cc

three_does_not : Differ (OfSub 3) nothing crowded → ⊥
three_does_not h = h refl

swaps_differ : FitsFlow (with_swap Idle) (with_swap (Within 24 27)) → ⊥
swaps_differ h = h
