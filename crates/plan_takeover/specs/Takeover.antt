-- The code of a plan that takes over from what is on air: instructions that lead from there to the configuration with
-- which the plan begins, and behind them the plan's own code, each pc that many further on.
use Rattle.std.specs.Prelude.{◌≡◌, ℕ, ◌+◌, List, ◌∷◌, ◌++◌, length, map, slice_get, Some}
use Rattle.mux_types.specs.Configuration.{Configuration}
use Rattle.plan_code.specs.Program.{Program}
use Rattle.plan_code.specs.declared.instr.Instr.{Instr}
use Rattle.plan_code.specs.declared.instr.Instr.TheVariants.{Test, TestTime, Jump, Loop}
use Rattle.plan_code.specs.declared.instr.Line.{Line}
use Rattle.plan_code.specs.declared.label.Label.{Label}
use Rattle.plan_code.specs.declared.label.Swap.TheVariants.{Idle}
use Rattle.plan_code.specs.declared.plan.Plan.{Plan}
use Rattle.script_compiler.specs.Alternatives.{instr_of_act}
use Rattle.script_config.specs.Plan.{plan_acts}

-- the edits between the configurations, paced by the budget, a commit with the notice, and `join`, all on one line
abbrev pub leading : Plan → (line : ℕ) → (from to : Configuration) → List Line
leading plan line from to = map (λ act. record { number = line; instr = instr_of_act act }) (plan_acts plan from to)

-- an instruction whose target is so many instructions further on
abbrev pub moved : ℕ → Instr → Instr
moved by (Test contact target) = Test contact (target + by)
moved by (TestTime from to target) = TestTime from to (target + by)
moved by (Jump target) = Jump (target + by)
moved by (Loop counter target) = Loop counter (target + by)
moved by other = other

abbrev pub moved_line : ℕ → Line → Line
moved_line by line = record line { instr = moved by line.instr }

-- a label so many instructions further on; the configurations keep their indexes
abbrev pub moved_label : ℕ → Label → Label
moved_label by label = record label { pc = label.pc + by }

-- the label with which it begins: this configuration of the table is current and next, and no swap is pending
abbrev pub beginning : (config cost : ℕ) → Label
beginning config cost = record {
  pc = 0;
  cur = config;
  next = config;
  pending = Idle;
  counters = record { 0 = 0 };
  cost = cost;
}

-- the code of a plan that takes over from a configuration and leads to another one, with which the plan begins
pub record IsTakeover (line : ℕ) (old : Program) (from to : Configuration) (new : Program) : Type 0 where
  pub plan : new.plan ≡ old.plan
  pub lines :
      new.lines
      ≡ leading old.plan line from to ++ map (moved_line (length (leading old.plan line from to))) old.lines
  -- the configuration that is on air stands in the table
  pub index : ℕ
  pub cost : ℕ
  pub begins : slice_get new.configurations index ≡ Some from
  pub labels :
      new.labels
      ≡ beginning index cost ∷ map (moved_label (length (leading old.plan line from to))) old.labels
