-- What the success of each command means that reads or prints scripts, over files with known bytes; and which verdict a
-- refusal is. `Holds` says of bytes that OUT, or standard output for `-`, has them; `Prints` that standard output has
-- taken them.
use Rattle.std.specs.Prelude.{◌≡◌, ℕ, ◌-◌, nat_lt, if◌then◌else◌, true, List, Ok, IsUtf8}
use Rattle.console.specs.declared.exit.Status.{Status}
use Rattle.console.specs.declared.exit.Status.TheVariants.{Done, Refused, Misused, Faulty}
use Rattle.mux_types.specs.declared.limits.TheConstants.{COUNTS}
use Rattle.plan_code.specs.Program.{Program}
use Rattle.plan_session.specs.Playback.{IsTypedFileOf}
use Rattle.script_config.specs.Openings.{Opens}
use Rattle.script_config.specs.declared.opening.Opening.{Opening}
use Rattle.cli_scripts.specs.Compiled.{IsCompiledFrom, IsRefusedFrom}
use Rattle.cli_scripts.specs.Naming.{HearsNamed}
use Rattle.cli_scripts.specs.Planned.{IsPlanText}
use Rattle.cli_scripts.specs.ScriptFrame.{GivesFrame}
use Rattle.cli_scripts.specs.ScriptOfStream.{HasScript}
use Rattle.cli_scripts.specs.declared.compile.Compiled.{Compiled}
use Rattle.cli_scripts.specs.declared.compile.ScriptRefusal.{ScriptRefusal}
use Rattle.cli_scripts.specs.declared.frame_script.FrameScriptRequest.{FrameScriptRequest}
use Rattle.cli_scripts.specs.declared.listen_script.ListenScriptRequest.{ListenScriptRequest}
use Rattle.cli_scripts.specs.declared.listen_script.Named.{Named}

-- ---- `compile SCRIPT OUT`

-- done: the file is the text of an accepted script, and OUT holds its code file; refused: it is no such text
abbrev pub Compiles : (script : List ℕ) → (Holds : List ℕ → Type 0) → Status → Type 0
Compiles script Holds Done = (c : Compiled) × IsCompiledFrom script c × Holds c.file.items
Compiles script Holds Refused = (refusal : ScriptRefusal) × IsRefusedFrom script refusal
Compiles script Holds Misused = ⊥
Compiles script Holds Faulty = ⊥

-- ---- `verify CODE`

-- the bytes are the file of a typed code
abbrev pub IsAcceptedFile : List ℕ → Type 0
IsAcceptedFile file = (code : Program) × IsTypedFileOf code file

-- done: the code is accepted; refused: it is not
abbrev pub Verifies : (file : List ℕ) → Status → Type 0
Verifies file Done = IsAcceptedFile file
Verifies file Refused = IsAcceptedFile file → ⊥
Verifies file Misused = ⊥
Verifies file Faulty = ⊥

-- ---- `diff FROM TO`

-- the file is the text, in UTF-8, of a script with this opening
pub record HasScriptOpening (bytes : List ℕ) (o : Opening) : Type 0 where
  pub utf8 : IsUtf8 bytes
  pub opens : Opens bytes o

-- done: the text of an accepted plan from one opening to the other is printed
abbrev pub HasPlan : (from to : Opening) → (Prints : List ℕ → Type 0) → Status → Type 0
HasPlan from to Prints Done = (text : List ℕ) × IsPlanText from to text × Prints text
HasPlan from to Prints Refused = Unit {0}
HasPlan from to Prints Misused = ⊥
HasPlan from to Prints Faulty = ⊥

abbrev pub Diffs : (from to : List ℕ) → (Prints : List ℕ → Type 0) → Status → Type 0
Diffs from to Prints Done = (a b : Opening) × HasScriptOpening from a × HasScriptOpening to b × HasPlan a b Prints Done
Diffs from to Prints Refused = Unit {0}
Diffs from to Prints Misused = ⊥
Diffs from to Prints Faulty = ⊥

-- ---- `listen FILE --script`

-- done: the script of the configuration is printed that the stream shows at its end, as the current or the next one
abbrev pub TellsScript : (stream : List ℕ) → ListenScriptRequest → (Prints : List ℕ → Type 0) → Status → Type 0
TellsScript stream request Prints Done = (named : Named) × HearsNamed stream (Ok named)
    × HasScript request named Prints Done
TellsScript stream request Prints Refused = Unit {0}
TellsScript stream request Prints Misused = ⊥
TellsScript stream request Prints Faulty = ⊥

-- ---- `frame SCRIPT --script`

-- the count of the request; one out of range, which the command line refuses, becomes the last
abbrev pub count_of : FrameScriptRequest → ℕ
count_of request = if nat_lt request.count COUNTS then request.count else COUNTS - 1

-- done: the file is the text of a script with such a frame, whose bytes are printed where `--raw` asks for them
abbrev pub FramesScript : (script : List ℕ) → FrameScriptRequest → (Prints : List ℕ → Type 0) → Status → Type 0
FramesScript script request Prints Done =
    (frame : List ℕ) × GivesFrame script (count_of request) request.page (Ok frame)
    × (request.raw ≡ true → Prints frame)
FramesScript script request Prints Refused = Unit {0}
FramesScript script request Prints Misused = ⊥
FramesScript script request Prints Faulty = ⊥
