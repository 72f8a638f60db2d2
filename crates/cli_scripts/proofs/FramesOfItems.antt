-- The frame of a script or a schedule is that of its header and its items.
use Rattle.cli_scripts.proofs.Words.{◌≡◌, Configuration, GivesFrame, IsScript, List, Ok, Plan, Result, Tree, inl, inr}
use Rattle.cli_scripts.proofs.Words.{refl, ℕ}
use Rattle.cli_scripts.specs.ScriptFrame.{frame_of_made, in_frame}
use Rattle.cli_scripts.specs.declared.frame_script.ScriptFrameFault.{ScriptFrameFault}
use Rattle.cli_scripts.specs.declared.frame_script.ScriptFrameFault.TheVariants.{Script, Item, Frame, Memory}
use Rattle.cli_streams.specs.declared.frame.FrameFault.{FrameFault}
use Rattle.mux_types.specs.Configuration.{nothing}
use Rattle.schedule_front.specs.Denoting.{IsScheduleOf}
use Rattle.schedule_front.specs.Tree.{Tree as Schedule, IsSchedule}
use Rattle.script_config.specs.Items.{made_by}
use Rattle.script_config.specs.Openings.{BeginsWith}
use Rattle.script_config.specs.declared.items.ItemFault.{ItemFault}
use Rattle.script_front.specs.Denoting.{IsScriptOf}
use Rattle.script_front.specs.declared.tree.Item.{Item as AddItem}
use Rattle.script_tokens.specs.declared.fault.ScriptFault.{ScriptFault}
use Rattle.std.specs.Prelude.{Err}

never_script : (r : Result (List ℕ) FrameFault) (fault : ScriptFault) → in_frame r ≡ Err (Script fault) → ⊥
never_script (Ok frame) fault e = absurd (cc)
never_script (Err other) fault e = absurd (cc)

not_of_text : (header : Plan) (count index : ℕ) (made : Result Configuration ItemFault) (fault : ScriptFault)
    → frame_of_made header count index made ≡ Err (Script fault) → ⊥
not_of_text header count index (Err other) fault e = absurd (cc)
not_of_text header count index (Ok c) fault e = never_script _ fault e

given : (text : List ℕ) (header : Plan) (items : List AddItem) (line count index : ℕ)
    (r : Result (List ℕ) ScriptFrameFault) → BeginsWith text header items line
    → frame_of_made header count index (made_by items nothing) ≡ r → GivesFrame text count index r
given text header items line count index (Ok frame) begins is = (header, items, line, begins, is)
given text header items line count index (Err (Script fault)) begins is =
    absurd (not_of_text header count index (made_by items nothing) fault is)
given text header items line count index (Err (Item fault)) begins is = (header, items, line, begins, is)
given text header items line count index (Err (Frame fault)) begins is = (header, items, line, begins, is)
given text header items line count index (Err Memory) begins is = tt

pub given_by_steps : (text : List ℕ) (tree : Tree) (header : Plan) (items : List AddItem) (count index : ℕ)
    (r : Result (List ℕ) ScriptFrameFault) → IsScript tree → IsScriptOf text tree → header ≡ tree.header
    → items ≡ tree.items → frame_of_made header count index (made_by items nothing) ≡ r → GivesFrame text count index r
given_by_steps text tree header items count index r script denotes headed adding is =
    given text header items tree.begin_line count index r (inl (record {
      tree = tree;
      script = script;
      denotes = denotes;
      headed = headed;
      adding = adding;
      lined = refl;
    })) is

pub given_by_schedule : (text : List ℕ) (tree : Schedule) (header : Plan) (items : List AddItem) (count index : ℕ)
    (r : Result (List ℕ) ScriptFrameFault) → IsSchedule tree → IsScheduleOf text tree → header ≡ tree.header
    → items ≡ tree.items → frame_of_made header count index (made_by items nothing) ≡ r → GivesFrame text count index r
given_by_schedule text tree header items count index r schedule denotes headed adding is =
    given text header items tree.line count index r (inr (record {
      tree = tree;
      schedule = schedule;
      denotes = denotes;
      headed = headed;
      adding = adding;
      lined = refl;
    })) is
