-- What the tests of a flow decide, and that the causes they find are the first in the order of refusals.
use Rattle.plan_verifier.proofs.Words.{◌&&◌, ◌<◌, ◌==◌, ◌orelse◌, ◌||◌, ◌↔◌, ◌∙◌, ◌≡◌, ◌≤◌, ◌⊎◌, Bool, Cause}
use Rattle.plan_verifier.proofs.Words.{Configuration, Counters, Fits, FitsSwap, HasConfigurationsOf, HasRoom, Idle}
use Rattle.plan_verifier.proofs.Words.{IsCertain, IsInitial, IsSurelyPending, IsTrue, Known, None, Option, Perhaps}
use Rattle.plan_verifier.proofs.Words.{Plan, Some, Swap, Where, WhereSome, Within, and_from, and_parts, ap, arith}
use Rattle.plan_verifier.proofs.Words.{both_ways, cause_if, cause_of, false, false_from_ne_true, false≢true, fits_swap}
use Rattle.plan_verifier.proofs.Words.{has_configurations_of, has_room_for_notice, includes, inl, inr, is_certain}
use Rattle.plan_verifier.proofs.Words.{is_fit, is_idle, is_initial, is_same, is_surely_pending, is_swap_count, nat_le}
use Rattle.plan_verifier.proofs.Words.{nat_lt, none-some, not, not-true, or_cases, or_left, or_right, refl, sym, true}
use Rattle.plan_verifier.proofs.Words.{ℕ}
use Rattle.mux_config.specs.Change.{has_same_subs, has_same_services}
use Rattle.mux_config.proofs.Same.{list_same, list_equal, sub_same, sub_itself, service_same, service_itself}
use Rattle.mux_config.proofs.Same.{packet_same, packet_itself}
use Rattle.mux_config.specs.Sameness.{is_same_sub, is_same_service, is_same_packet}
use Rattle.fib_codec.specs.Layouts.{layout_mode}
use Rattle.mux_types.specs.declared.limits.TheConstants.{COUNTS}
use Rattle.plan_code.specs.Machine.{IsSwapCount}
use Rattle.plan_code.specs.Flags.{Includes}
use Rattle.plan_code.proofs.Bits.{all_included, included_all}
use Rattle.plan_verifier.specs.Rules.{Known}
use Rattle.plan_verifier.specs.Tests.{◌first_or◌}

-- the test is true exactly where the fact holds
pub record Decides (b : Bool) (P : Type 0) : Type 0 where
  pub told : b ≡ true → P
  pub found : P → b ≡ true

pub decides_not : (b : Bool) (P : Type 0) → Decides b P → Decides (not b) (P → ⊥)
decides_not b P d = record {
  told = λ e p. both_ways b (not-true b e) (d.found p);
  found = λ h. ap not (false_from_ne_true b (λ e. h (d.told e)));
}

pub decides_both : (a b : Bool) (P Q : Type 0) → Decides a P → Decides b Q → Decides (a && b) (P × Q)
decides_both a b P Q one two = record {
  told = λ e. let parts = and_parts a b e in (one.told parts.0, two.told parts.1);
  found = λ h. and_from a b (one.found h.0) (two.found h.1);
}

pub decides_one : (a b : Bool) (P Q : Type 0) → Decides a P → Decides b Q → Decides (a || b) (P ⊎ Q)
decides_one a b P Q one two = record {
  told = λ e. elim (or_cases a b e) [ inl p ↦ inl (one.told p) | inr q ↦ inr (two.told q) ];
  found = λ h. elim h [ inl p ↦ or_left a b (one.found p) | inr q ↦ or_right a b (two.found q) ];
}

pub decides_lt : (a b : ℕ) → Decides (nat_lt a b) (a < b)
decides_lt a b = record { told = λ e. grind (arith, e); found = λ h. grind (arith, h) }

pub decides_le : (a b : ℕ) → Decides (nat_le a b) (a ≤ b)
decides_le a b = record { told = λ e. grind (arith, e); found = λ h. grind (arith, h) }

pub decides_eq : (a b : ℕ) → Decides (a == b) (a ≡ b)
decides_eq a b = record { told = λ e. grind (arith, e); found = λ h. grind (arith, h) }

pub decides_true : Decides true (Unit {0})
decides_true = record { told = λ e. tt; found = λ h. refl }

pub decides_false : Decides false ⊥
decides_false = record { told = λ e. false≢true e; found = λ h. absurd h }

-- ---- the tests

pub decides_same : (c d : Configuration) → Decides (is_same c d) (c ≡ d)
decides_same c d = record {
  told = λ e.
      let parts = and_parts _ _ e in
      let rest = and_parts _ _ parts.1 in
      let subs : c.subs ≡ d.subs = list_same is_same_sub sub_same c.subs d.subs parts.0 in
      let services : c.services ≡ d.services = list_same is_same_service service_same c.services d.services rest.0 in
      let packets : c.packets ≡ d.packets = list_same is_same_packet packet_same c.packets d.packets rest.1 in
      λ i. record { subs = subs i; services = services i; packets = packets i };
  found = λ e.
      and_from _ _ (list_equal is_same_sub sub_itself c.subs d.subs (ap (λ (x : Configuration). x.subs) e))
      (and_from _ _ (list_equal is_same_service service_itself c.services d.services
      (ap (λ (x : Configuration). x.services) e))
      (list_equal is_same_packet packet_itself c.packets d.packets (ap (λ (x : Configuration). x.packets) e)));
}

-- the two comparisons that make up a test
compared : (a b : Bool) (c d : Configuration) → a ≡ has_same_subs c d → b ≡ has_same_services c d
    → (a && b) ≡ is_same c d
compared a b c d e f = ap (λ (x : Bool). x && b) e ∙ ap (λ (x : Bool). has_same_subs c d && x) f

pub same_services : (a b : Bool) (c d : Configuration) → a ≡ has_same_subs c d → b ≡ has_same_services c d → a ≡ true
    → (IsTrue b ↔ (c ≡ d))
same_services a b c d e f true_here =
    let both : b ≡ is_same c d = sym (ap (λ (x : Bool). x && b) true_here) ∙ compared a b c d e f in
    (λ h. (decides_same c d).told (sym both ∙ h), λ h. both ∙ (decides_same c d).found h)

pub other_subs : (a : Bool) (c d : Configuration) → a ≡ has_same_subs c d → a ≡ false → (IsTrue a ↔ (c ≡ d))
other_subs a c d e false_here =
    let alike = false_here ∙ sym (ap (λ (x : Bool). x && has_same_services c d) (sym e ∙ false_here)) in
    (λ h. (decides_same c d).told (sym alike ∙ h), λ h. alike ∙ (decides_same c d).found h)

pub decides_idle : (pending : Swap) → Decides (is_idle pending) (pending ≡ Idle)
decides_idle Idle = record { told = λ e. refl; found = λ h. refl }
decides_idle _ = record { told = λ e. absurd (false≢true e); found = λ h. absurd cc }

pub decides_pending : (pending : Swap) → Decides (is_surely_pending pending) (IsSurelyPending pending)
decides_pending (Within lo hi) = decides_true
decides_pending _ = decides_false

pub decides_certain : (frames : ℕ) (pending : Swap) → Decides (is_certain frames pending) (IsCertain frames pending)
decides_certain frames (Within lo hi) = decides_one _ _ _ _ (decides_lt frames lo) (decides_le hi frames)
decides_certain frames _ = decides_true

pub decides_room : (plan : Plan) (t : Known) → Decides (has_room_for_notice plan t) (HasRoom plan t)
decides_room plan t =
    let all = decides_both _ _ _ _ (decides_both _ _ _ _ (decides_le _ _) (decides_le _ _)) (decides_le _ _) in
    record {
      told = λ e. let h = all.told e in record { within_period = h.0.0; three_times = h.0.1; alone = h.1 };
      found = λ h. all.found ((h.within_period, h.three_times), h.alone);
    }

pub decides_count : (plan : Plan) (count : ℕ) → Decides (is_swap_count plan count)
    (IsSwapCount (layout_mode plan.layout) count)
decides_count plan count = decides_both _ _ _ _ (decides_eq _ 0) (decides_lt count COUNTS)

decides_configurations : (t declared : Known) → Decides (has_configurations_of t declared)
    (HasConfigurationsOf t declared)
decides_configurations t declared = decides_both _ _ _ _ (decides_same _ _) (decides_same _ _)

decides_no_later : (hi high : ℕ) (t declared : Known) → Decides (nat_le hi high && has_configurations_of t declared)
    (HasConfigurationsOf t declared × (hi ≤ high))
decides_no_later hi high t declared =
    let both = decides_both _ _ _ _ (decides_le hi high) (decides_configurations t declared) in
    record { told = λ e. let h = both.told e in (h.1, h.0); found = λ h. both.found (h.1, h.0) }

pub decides_fits_swap : (p q : Swap) (t declared : Known) → Decides (fits_swap p q t declared) (FitsSwap p q t declared)
decides_fits_swap Idle Idle t declared = decides_configurations t declared
decides_fits_swap Idle (Perhaps high) t declared = decides_both _ _ _ _ (decides_same _ _) (decides_same _ _)
decides_fits_swap (Within lo hi) (Within low high) t declared =
    let all = decides_both _ _ _ _ (decides_both _ _ _ _ (decides_le low lo) (decides_le hi high))
    (decides_configurations t declared) in
    record { told = λ e. let h = all.told e in (h.1, h.0.0, h.0.1); found = λ h. all.found ((h.1, h.2), h.0) }
decides_fits_swap (Within lo hi) (Perhaps high) t declared = decides_no_later hi high t declared
decides_fits_swap (Perhaps hi) (Perhaps high) t declared = decides_no_later hi high t declared
decides_fits_swap _ _ t declared = decides_false

-- ---- causes in order

-- the cause found is the one that holds, if any does
pub record Computes (o : Option Cause) (R : Cause → Type 0) : Type 0 where
  pub found : (given : Cause) → R given → o ≡ Some given
  pub told : (given : Cause) → o ≡ Some given → R given

pub computes_never : Computes None (λ given. ⊥)
computes_never = record { found = λ given h. absurd h; told = λ given e. absurd cc }

pub computes_always : (cause : Cause) → Computes (Some cause) (λ given. given ≡ cause)
computes_always cause = record { found = λ given h. ap Some (sym h); told = λ given e. cc }

if_found : (b : Bool) (cause given : Cause) → b ≡ true → given ≡ cause → cause_if b cause ≡ Some given
if_found true cause given e h = ap Some (sym h)
if_found false cause given e h = absurd (false≢true e)

if_told : (b : Bool) (cause given : Cause) → cause_if b cause ≡ Some given → (b ≡ true) × (given ≡ cause)
if_told true cause given e = (refl, cc)
if_told false cause given e = absurd cc

pub computes_where : (b : Bool) (P : Type 0) (cause : Cause) → Decides b P → Computes (cause_if b cause) (Where P cause)
computes_where b P cause d = record {
  found = λ given h. if_found b cause given (d.found h.0) h.1;
  told = λ given e. let h = if_told b cause given e in (d.told h.0, h.1);
}

pub computes_some : {T : Type 0} (o : Option T) (cause : T → Cause) → Computes (cause_of o cause) (WhereSome o cause)
computes_some None cause = record { found = λ given h. absurd h; told = λ given e. absurd cc }
computes_some (Some fault) cause = record { found = λ given h. ap Some (sym h); told = λ given e. cc }

pub computes_orelse : (o p : Option Cause) (R S : Cause → Type 0) → Computes o R → Computes p S
    → Computes (o first_or p) (R orelse S)
computes_orelse None p R S one two = record {
  found = λ given h. elim h [ inl r ↦ absurd (none-some _ (one.found given r)) | inr s ↦ two.found given s.1 ];
  told = λ given e. inr ((λ cause r. none-some _ (one.found cause r)), two.told given e);
}
computes_orelse (Some cause) p R S one two = record {
  found = λ given h. elim h [ inl r ↦ one.found given r | inr s ↦ absurd (s.0 cause (one.told cause refl)) ];
  told = λ given e. inl (one.told given e);
}

-- ---- tests of the walk

pub decides_includes : (a b : Counters) → Decides (includes a b) (Includes a b)
decides_includes a b = record { told = all_included a b; found = included_all a b }

pub decides_fits : (t declared : Known) → Decides (is_fit t declared) (Fits t declared)
decides_fits t declared =
    let both = decides_both _ _ _ _ (decides_includes _ _) (decides_fits_swap _ _ _ _) in
    record {
      told = λ e. let h = both.told e in record { swap = h.1; counters = h.0 };
      found = λ h. both.found (h.counters, h.swap);
    }

pub decides_initial : (t : Known) → Decides (is_initial t) (IsInitial t)
decides_initial t =
    let all = decides_both _ _ _ _ (decides_both _ _ _ _ (decides_idle _) (decides_eq _ _)) (decides_same _ _) in
    record {
      told = λ e. let h = all.told e in record { same = h.1; idle = h.0.0; unset = h.0.1 };
      found = λ h. all.found ((h.idle, h.unset), h.same);
    }
