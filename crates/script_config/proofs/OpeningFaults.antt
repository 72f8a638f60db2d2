-- Why a text has no opening, from the fault of its items.
use Rattle.std.proofs.Common.{◌≡◌, ℕ, List, Result, Ok, Err, IfErr, inl, inr}
use Rattle.script_config.specs.Openings.{BeginsWith, FailsToOpen, HasNoOpening}
use Rattle.script_config.specs.declared.opening.Opening.{Opening}
use Rattle.script_config.specs.declared.opening.OpeningFault.{OpeningFault}
use Rattle.script_config.specs.declared.opening.OpeningFault.TheVariants.{Script as NoScript, Item, Unsound, Memory}
use Rattle.plan_code.specs.declared.plan.Plan.{Plan}
use Rattle.schedule_front.specs.Denoting.{IsScheduleOf}
use Rattle.schedule_front.specs.Tree.{Tree as Schedule, IsSchedule}
use Rattle.script_front.specs.Denoting.{IsScriptOf}
use Rattle.script_front.specs.Tree.{Tree, IsScript}
use Rattle.script_front.specs.declared.tree.Item.{Item as AddItem}

with_fault : (text : List ℕ) (header : Plan) (items : List AddItem) (line : ℕ) (fault : OpeningFault)
    → BeginsWith text header items line → FailsToOpen items line fault → HasNoOpening text fault
with_fault text header items line (NoScript fault) begins fails = absurd fails
with_fault text header items line (Item fault) begins fails = (header, items, line, begins, fails)
with_fault text header items line (Unsound at fault) begins fails = (header, items, line, begins, fails)
with_fault text header items line Memory begins fails = tt

unopened : (text : List ℕ) (header : Plan) (items : List AddItem) (line : ℕ) (r : Result Opening OpeningFault)
    → BeginsWith text header items line → IfErr r (FailsToOpen items line) → IfErr r (HasNoOpening text)
unopened text header items line (Ok opening) begins h = tt
unopened text header items line (Err fault) begins h = with_fault text header items line fault begins h

-- of a script
pub unopened_steps : (text : List ℕ) (tree : Tree) (header : Plan) (items : List AddItem) (line : ℕ)
    (r : Result Opening OpeningFault) → IsScript tree → IsScriptOf text tree → header ≡ tree.header
    → items ≡ tree.items → line ≡ tree.begin_line → IfErr r (FailsToOpen items line) → IfErr r (HasNoOpening text)
unopened_steps text tree header items line r script denotes headed adding lined h =
    unopened text header items line r (inl (record {
      tree = tree;
      script = script;
      denotes = denotes;
      headed = headed;
      adding = adding;
      lined = lined;
    })) h

-- of a schedule
pub unopened_schedule : (text : List ℕ) (tree : Schedule) (header : Plan) (items : List AddItem) (line : ℕ)
    (r : Result Opening OpeningFault) → IsSchedule tree → IsScheduleOf text tree → header ≡ tree.header
    → items ≡ tree.items → line ≡ tree.line → IfErr r (FailsToOpen items line) → IfErr r (HasNoOpening text)
unopened_schedule text tree header items line r schedule denotes headed adding lined h =
    unopened text header items line r (inr (record {
      tree = tree;
      schedule = schedule;
      denotes = denotes;
      headed = headed;
      adding = adding;
      lined = lined;
    })) h
