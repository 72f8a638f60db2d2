-- Why a plan can't take over: for each definition, an example that holds and one that fails.
use Rattle.std.proofs.Common.{[], ◌∙◌, ◌∷◌, ◌≡◌, ◌≤◌, List, Option, ap, arith, false, inl, inr, length, refl, rules}
use Rattle.std.proofs.Common.{suc, sym}
use Rattle.std.proofs.Common.{true, zero, ℕ}
use Rattle.std.specs.Prelude.{unwrap_or}
use Rattle.mux_types.specs.Configuration.{Configuration}
use Rattle.plan_code.specs.declared.instr.Instr.{Instr}
use Rattle.mux_config.specs.declared.edit.Edit.TheVariants.{RateSub}
use Rattle.plan_code.specs.declared.instr.Instr.TheVariants.{CommitIn as CommitsIn, Edit as EditsBy, End, Join as Joins}
use Rattle.plan_code.specs.declared.instr.Instr.TheVariants.{Jump}
use Rattle.plan_code.specs.declared.instr.Line.{Line}
use Rattle.plan_code.specs.Program.{IsProgram, Program}
use Rattle.plan_takeover.specs.Refusals.{AreTooMany, IsExceeded, IsPriced, IsShortOfBudget, IsTakeoverRefused}
use Rattle.plan_takeover.specs.Refusals.{IsTakeoverCode, JumpsTooFar}
use Rattle.plan_takeover.specs.Takeover.{beginning}
use Rattle.plan_takeover.proofs.Costs.{has_longest, longest_of_all}
use Rattle.plan_verifier.proofs.OneVerdict.{refused_if}
use Rattle.plan_verifier.proofs.Samples.{code_from, label, line, lower_is, one_sub, one_sub_is, plan, plan_is, with_sub}
use Rattle.plan_verifier.specs.Rules.{suspends}
use Rattle.plan_verifier.specs.declared.cause.Cause.TheVariants.{Cost}
use Rattle.script_compiler.specs.Compiled.{instrs_of}
use Rattle.script_compiler.specs.Need.{HasPath}
use Rattle.script_compiler.specs.declared.fault.CodeLimit.TheVariants.{Configurations, Counters}
use Rattle.script_compiler.specs.declared.fault.CompileFault.TheVariants.{Limit, Refused}

-- ---- jumps and limits

jumps_too_far : JumpsTooFar 40 (Jump 65500)
jumps_too_far = (65500, refl, omega arith)

jumps_to_the_last : JumpsTooFar 35 (Jump 65500) → ⊥
jumps_to_the_last h =
    let same : 65500 ≡ h.0 = ap (λ (o : Option ℕ). unwrap_or o 0) h.1 in omega (arith, same, h.2)

abbrev one_line : List Line
one_line = record { number = 1; instr = End } ∷ []

too_many : AreTooMany 4096 one_line
too_many = inl (omega arith)

counters_are_no_limit : (by : ℕ) (old : Program) → IsExceeded by old Counters → ⊥
counters_are_no_limit by old h = h

a_full_table : (old : Program) → length old.configurations ≡ 256 → IsExceeded 3 old Configurations
a_full_table old full = omega (arith, full)

room_for_one : (old : Program) → length old.configurations ≡ 255 → IsExceeded 3 old Configurations → ⊥
room_for_one old full h = omega (arith, full, h)

-- ---- costs

none_after_the_end : (n : ℕ) → HasPath (End ∷ []) 0 n → n ≤ 1
none_after_the_end zero h = omega arith
none_after_the_end (suc zero) h = omega arith
none_after_the_end (suc (suc n)) h =
    let here : End ≡ h.0 = ap (λ (o : Option Instr). unwrap_or o End) h.2 in
    let waits : true ≡ false = ap suspends here ∙ h.3.0 in
    absurd cc

the_end_costs_one : IsPriced 20 one_line 1
the_end_costs_one = inl (record { path = search rules; longest = none_after_the_end })

the_end_costs_no_more : IsPriced 20 one_line 2 → ⊥
the_end_costs_no_more (inl need) = let most = none_after_the_end 2 need.path in omega (arith, most)
the_end_costs_no_more (inr over) = let most = none_after_the_end over.0 over.2 in omega (arith, most, over.1)

-- ---- refusals

without_room : (line : ℕ) (old : Program) (from to : Configuration) → old.plan.budget ≡ 1
    → IsTakeoverRefused line old from to (Refused line Cost)
without_room line old from to one = inl (record { budget = omega (arith, one); lined = refl; costs = refl })

at_no_other_line : (old : Program) (from to : Configuration) → IsShortOfBudget 3 old 4 Cost → ⊥
at_no_other_line old from to h = omega (arith, h.lined)

not_for_counters : (line at : ℕ) (old : Program) (from to : Configuration)
    → IsTakeoverRefused line old from to (Limit at Counters) → ⊥
not_for_counters line at old from to h = h

-- ---- a code that is refused: the plan jumps on the spot

abbrev lower : Configuration
lower = with_sub 96

abbrev spinning : Program
spinning = code_from one_sub (label 0 1 ∷ []) (line (Jump 0) ∷ [])

abbrev taking_over : Program
taking_over = record {
  plan = plan;
  configurations = one_sub ∷ lower ∷ [];
  labels = beginning 1 3 ∷ label 3 1 ∷ [];
  lines = line (EditsBy (RateSub 1 128)) ∷ line (CommitsIn 24) ∷ line Joins ∷ line (Jump 3) ∷ [];
}

taking_over_is : IsProgram taking_over
taking_over_is = record {
  planned = plan_is;
  configurations_from = omega arith;
  configurations_to = omega arith;
  configurations_formed = (one_sub_is, (lower_is, tt));
  labels_from = omega arith;
  labels_to = omega arith;
  labels_formed = (grind arith, (grind arith, tt));
  labels_ascend = ((omega arith, tt), (tt, tt));
  lines_from = omega arith;
  lines_to = omega arith;
  lines_formed = (grind arith, (grind arith, (grind arith, (grind arith, tt))));
}

costs_three : IsPriced 20 taking_over.lines 3
costs_three = inl (record {
  path = has_longest (instrs_of taking_over.lines) 21 0;
  longest = longest_of_all (instrs_of taking_over.lines) 20 0 (omega arith);
})

takes_over : IsTakeoverCode 1 spinning lower one_sub taking_over
takes_over = record {
  takes = record { plan = refl; lines = refl; index = 1; cost = 3; begins = refl; labels = refl };
  table = refl;
  priced = costs_three;
}

refused_at_the_jump : IsTakeoverRefused 1 spinning lower one_sub (Refused 1 Cost)
refused_at_the_jump = inr (record {
  new = taking_over;
  code = takes_over;
  pc = 3;
  refused = refused_if taking_over 3 Cost taking_over_is refl;
  lined = refl;
})

not_without_its_own_table : (new : Program) → new.configurations ≡ one_sub ∷ []
    → IsTakeoverCode 1 spinning lower one_sub new → ⊥
not_without_its_own_table new is h =
    let sizes : 1 ≡ 2 = ap (λ (cs : List Configuration). length cs) (sym is ∙ h.table) in omega (arith, sizes)
