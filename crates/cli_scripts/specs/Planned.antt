-- The plan that `diff` prints.
use Rattle.std.specs.Prelude.{◌≡◌, ◌≢◌, ℕ, List}
use Rattle.script_config.specs.Making.{edits_that_make}
use Rattle.plan_code.specs.Program.{Program}
use Rattle.plan_verifier.specs.Typing.{IsTyped}
use Rattle.script_config.specs.Openings.{IsSoundOpening}
use Rattle.script_config.specs.declared.opening.Opening.{Opening}
use Rattle.script_config.specs.Plan.{plan_acts}
use Rattle.script_config.specs.Refusals.{FitsPeriod, CanBePlanned, IsInTheWay}
use Rattle.cli_scripts.specs.declared.diff.PlanFault.{PlanFault}
use Rattle.cli_scripts.specs.declared.diff.PlanFault.TheVariants.{Between, Refused, Memory}
use Rattle.script_compiler.specs.declared.fault.CompileFault.{CompileFault}
use Rattle.script_compiler.specs.declared.fault.CompileFault.TheVariants.{Memory as Unavailable}
use Rattle.script_front.specs.Denoting.{Denotes}
use Rattle.script_front.specs.Printing.{text_of_lines, tree_lines}
use Rattle.script_front.specs.Tree.{Tree, IsScript}
use Rattle.script_config.specs.Plain.{IsPlain}
use Rattle.script_compiler.specs.Compiled.{IsAccepted, IsCodeOf}

-- the text denotes the plan from one opening to another, in the layout of printed scripts; the plan is accepted, and
-- its code is typed
pub record IsPlanText (from to : Opening) (text : List ℕ) : Type 0 where
  pub tree : Tree
  pub script : IsScript tree
  pub denotes : Denotes text tree
  pub layout : text ≡ text_of_lines (tree_lines tree)
  pub plain : IsPlain to.header (edits_that_make from.config) (plan_acts to.header from.config to.config) tree
  pub accepted : IsAccepted tree
  pub code : Program
  pub is : IsCodeOf tree code
  pub typed : IsTyped code

-- the plan from one opening to another is not accepted, barring allocation failure
pub record IsRefusedPlan (from to : Opening) (fault : CompileFault) : Type 0 where
  pub tree : Tree
  pub script : IsScript tree
  pub plain : IsPlain to.header (edits_that_make from.config) (plan_acts to.header from.config to.config) tree
  pub refused : fault ≢ Unavailable → IsAccepted tree → ⊥

-- this prevents a plan; where nothing does, an allocation failed, or the plan itself is refused: only if the first
-- configuration is not sound, or the pages of the second one do not fit its own period
abbrev pub IsPlanFault : Opening → Opening → PlanFault → Type 0
IsPlanFault from to (Between fault) = IsInTheWay from to fault
IsPlanFault from to (Refused fault) = CanBePlanned from to × IsRefusedPlan from to fault
    × (IsSoundOpening from → FitsPeriod to → ⊥)
IsPlanFault from to Memory = CanBePlanned from to
