-- One frame of the initial configuration of a script or a schedule, or the first fault.
use Rattle.std.specs.Prelude.{◌≡◌, ◌≢◌, ℕ, false, List, None, Result, Ok, Err}
use Rattle.mux_config.specs.Configuration.{Configuration, nothing}
use Rattle.mux_config.specs.Sound.{sound_or_fault}
use Rattle.mux_types.specs.Entries.{EnsembleInformation}
use Rattle.plan_code.specs.declared.plan.Plan.{Plan}
use Rattle.schedule_front.specs.Sources.{IsNoSource}
use Rattle.script_front.specs.declared.tree.Item.{Item as AddItem}
use Rattle.script_tokens.specs.declared.fault.ScriptFault.TheVariants.{Memory as NoMemoryForScript}
use Rattle.script_config.specs.declared.items.ItemFault.{ItemFault}
use Rattle.script_config.specs.Items.{made_by}
use Rattle.script_config.specs.Openings.{BeginsWith}
use Rattle.cli_streams.specs.declared.frame.FrameFault.{FrameFault}
use Rattle.cli_streams.specs.Frame.{frame_or_fault, page_or_fault}
use Rattle.cli_scripts.specs.declared.frame_script.ScriptFrameFault.{ScriptFrameFault}
use Rattle.cli_scripts.specs.declared.frame_script.ScriptFrameFault.TheVariants.{Script, Item, Frame, Memory}

-- the script's ensemble, at this count and without change flags
abbrev pub ensemble_named_at : Plan → ℕ → EnsembleInformation
ensemble_named_at header count = record { eid = header.eid; change = 0; al = false; count = count; occurrence = None }

abbrev pub in_frame : Result (List ℕ) FrameFault → Result (List ℕ) ScriptFrameFault
in_frame (Ok frame) = Ok frame
in_frame (Err fault) = Err (Frame fault)

-- as for a record: the configuration's soundness, and then the page
abbrev pub frame_of_made : Plan → (count index : ℕ) → Result Configuration ItemFault → Result (List ℕ) ScriptFrameFault
frame_of_made header count index (Err fault) = Err (Item fault)
frame_of_made header count index (Ok c) =
    in_frame (frame_or_fault (sound_or_fault c) (page_or_fault header.layout (ensemble_named_at header count) index c))

-- the text is a script or a schedule, whose header and items have this frame, or this fault
abbrev pub HasFrame : List ℕ → (count index : ℕ) → Result (List ℕ) ScriptFrameFault → Type 0
HasFrame text count index given =
    (header : Plan) × (items : List AddItem) × (line : ℕ) × BeginsWith text header items line
    × (frame_of_made header count index (made_by items nothing) ≡ given)

-- the text has this frame, or it is neither a script nor a schedule
abbrev pub GivesFrame : List ℕ → (count index : ℕ) → Result (List ℕ) ScriptFrameFault → Type 0
GivesFrame text count index (Err (Script fault)) = IsNoSource text
GivesFrame text count index (Err Memory) = Unit {0}
GivesFrame text count index given = HasFrame text count index given

-- out of memory is no reason that a script gives no frame
abbrev pub IsFrameReason : ScriptFrameFault → Type 0
IsFrameReason (Script fault) = fault ≢ NoMemoryForScript
IsFrameReason (Item fault) = Unit {0}
IsFrameReason (Frame fault) = Unit {0}
IsFrameReason Memory = ⊥
