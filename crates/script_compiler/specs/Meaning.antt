-- The meaning of scripts: an abstract machine whose control state is the list of statements still to execute. It has no
-- pc, no labels and no counters.
use Rattle.std.specs.Prelude.{◌≡◌, ◌↔◌, ℕ, zero, suc, Bool, true, false, if◌then◌else◌, List, [], ◌∷◌, Option, None}
use Rattle.mux_config.specs.Configuration.{Configuration}
use Rattle.std.specs.List.{AllByRecursion}
use Rattle.plan_code.specs.declared.flags.Contacts.{Contacts}
use Rattle.plan_code.specs.declared.hold.Hold.{Hold}
use Rattle.plan_code.specs.declared.hold.Hold.TheVariants.{Running}
use Rattle.plan_code.specs.declared.instr.Instr.{Instr}
use Rattle.plan_code.specs.declared.instr.Instr.TheVariants.{End}
use Rattle.plan_code.specs.declared.plan.Plan.{Plan}
use Rattle.plan_code.specs.Flags.{is_closed, with_contact}
use Rattle.plan_code.specs.Program.{Program, IsProgram}
use Rattle.plan_code.specs.Machine.{State, effect, is_in_window, IsAllowed}
use Rattle.plan_verifier.specs.Typing.{IsTyped}
use Rattle.plan_runs.specs.declared.event.Event.{Event}
use Rattle.plan_runs.specs.declared.event.Event.TheVariants.{Contact, Frame}
use Rattle.plan_runs.specs.declared.event.Start.{Start}
use Rattle.plan_runs.specs.Frames.{is_running, ready, with_next_counts}
use Rattle.plan_runs.specs.Runs.{StartIsInRange, IsEvent, IsStart, run}
use Rattle.script_front.specs.declared.tree.Act.{Act}
use Rattle.script_front.specs.declared.tree.Condition.{Condition}
use Rattle.script_front.specs.declared.tree.Condition.TheVariants.{Contact as IfContact, Time as IfTime}
use Rattle.script_front.specs.Block.{Block, nothing, basic, stop, when, either, repeat, forever, apply}
use Rattle.script_front.specs.Times.{frame_at}
use Rattle.script_front.specs.Tree.{Tree}
use Rattle.script_compiler.specs.Alternatives.{instr_of_act}
use Rattle.script_compiler.specs.Compiled.{IsCodeOf, body_of, opening_of}

-- ---- the state of a script

-- a player's state, except the pc, the counters, the EId and the page index
pub record Scene : Type 0 where
  -- the current and the next configuration
  pub current : Configuration
  pub next : Configuration
  -- the frames until the swap, if one is pending
  pub left : Option ℕ
  -- what the script waits for
  pub hold : Hold
  pub contacts : Contacts
  -- the CIF count, and the frame of the day
  pub count : ℕ
  pub day : ℕ

-- the statements still to execute, and the scene
pub record Reading : Type 0 where
  pub todo : Block
  pub scene : Scene

abbrev pub reading : Block → Scene → Reading
reading todo x = record { todo = todo; scene = x }

-- the scene of a player's state
abbrev pub scene_of : State → Scene
scene_of s =
    record {
      current = s.current;
      next = s.next;
      left = s.left;
      hold = s.hold;
      contacts = s.contacts;
      count = s.count;
      day = s.day;
    }

-- some player's state with this scene; the rest of it does not matter, see `SceneSuffices`
abbrev pub state_of_scene : Scene → State
state_of_scene x =
    record {
      current = x.current;
      next = x.next;
      left = x.left;
      pc = 0;
      hold = x.hold;
      counters = [];
      contacts = x.contacts;
      count = x.count;
      day = x.day;
      eid = 0;
      page_index = 0;
    }

-- ---- one statement

-- the scene after an instruction
abbrev pub acts : Plan → Instr → Scene → Scene
acts plan i x = scene_of (effect plan i (state_of_scene x))

-- whether the condition of an `if` holds: the contact is closed, or the frame of the day is in the window
abbrev pub holds : Condition → Scene → Bool
holds (IfContact contact) x = is_closed x.contacts contact
holds (IfTime from to) x = is_in_window (frame_at from) (frame_at to) x.day

-- the statements of one block, then those of another
abbrev pub followed : Block → Block → Block
followed nothing more = more
followed (basic line act rest) more = basic line act (followed rest more)
followed (stop line rest) more = stop line (followed rest more)
followed (when line condition first rest) more = when line condition first (followed rest more)
followed (either line condition first second rest) more = either line condition first second (followed rest more)
followed (repeat line times body rest) more = repeat line times body (followed rest more)
followed (forever line body rest) more = forever line body (followed rest more)
followed (apply line number named rest) more = apply line number named (followed rest more)

-- the reading after the first statement: a branch, a loop or an applied block is replaced by the statements that it
-- stands for, any other statement acts as its instruction, and an empty list acts as `end`
abbrev pub first_done : Plan → Block → Scene → Reading
first_done plan nothing x = reading nothing (acts plan End x)
first_done plan (stop line rest) x = reading nothing (acts plan End x)
first_done plan (basic line act rest) x = reading rest (acts plan (instr_of_act act) x)
first_done plan (when line condition first rest) x =
    reading (if holds condition x then followed first rest else rest) x
first_done plan (either line condition first second rest) x =
    reading (if holds condition x then followed first rest else followed second rest) x
first_done plan (repeat line zero body rest) x = reading rest x
first_done plan (repeat line (suc times) body rest) x = reading (followed body (repeat line times body rest)) x
first_done plan (forever line body rest) x = reading (followed body (forever line body rest)) x
first_done plan (apply line number named rest) x = reading (followed named rest) x

-- the first statement does not trap
abbrev pub IsFineToDo : Plan → Block → Scene → Type 0
IsFineToDo plan (basic line act rest) x = IsAllowed plan (instr_of_act act) (state_of_scene x)
IsFineToDo plan _ x = Unit {0}

-- ---- frames and events

-- the script executes this many statements from one reading to another, where it waits or has ended
abbrev pub Performs : Plan → Reading → ℕ → Reading → Type 0
Performs plan x zero y = (is_running x.scene.hold ≡ false) × (x ≡ y)
Performs plan x (suc n) y =
    (is_running x.scene.hold ≡ true) × IsFineToDo plan x.todo x.scene
    × Performs plan (first_done plan x.todo x.scene) n y

-- a frame begins: a swap that is due is made, and a wait ends if its condition is met
abbrev pub opens : Scene → Scene
opens x = scene_of (ready (state_of_scene x))

-- a frame ends: the counts advance
abbrev pub closes : Plan → Scene → Scene
closes plan x = scene_of (with_next_counts plan (state_of_scene x))

-- a whole frame: any number of statements in between
pub record PerformsFrame (plan : Plan) (x y : Reading) : Type 0 where
  pub steps : ℕ
  pub done : Reading
  pub statements : Performs plan (reading x.todo (opens x.scene)) steps done
  pub counts : y ≡ reading done.todo (closes plan done.scene)

abbrev pub with_contact_level : ℕ → Bool → Scene → Scene
with_contact_level contact closed x = record x { contacts = with_contact contact closed x.contacts }

abbrev pub PerformsEvent : Plan → Reading → Event → Reading → Type 0
PerformsEvent plan x (Contact contact closed) y = y ≡ reading x.todo (with_contact_level contact closed x.scene)
PerformsEvent plan x Frame y = PerformsFrame plan x y

-- the reading after a list of events
abbrev pub PerformsAll : Plan → Reading → List Event → Reading → Type 0
PerformsAll plan x [] y = x ≡ y
PerformsAll plan x (e ∷ es) y = (z : Reading) × PerformsEvent plan x e z × PerformsAll plan z es y

-- ---- nothing else in a player's state matters

-- how a frame and a statement change a scene, and which statements trap, is the same for every state with that scene
pub record SceneSuffices (plan : Plan) (s : State) : Type 0 where
  pub opened : scene_of (ready s) ≡ opens (scene_of s)
  pub closed : scene_of (with_next_counts plan s) ≡ closes plan (scene_of s)
  pub ended : scene_of (effect plan End s) ≡ acts plan End (scene_of s)
  pub acted : (a : Act) → scene_of (effect plan (instr_of_act a) s) ≡ acts plan (instr_of_act a) (scene_of s)
  pub allowed : (a : Act) → IsAllowed plan (instr_of_act a) s
      ↔ IsAllowed plan (instr_of_act a) (state_of_scene (scene_of s))

abbrev pub ScenesSuffice : Type 0
ScenesSuffice = (plan : Plan) (s : State) → SceneSuffices plan s

-- ---- the law

-- at the start all statements are still to execute, the opening is current and next, and no swap or wait is pending
abbrev pub begins : Tree → Start → Reading
begins s start =
    reading
    (body_of s)
    (record {
      current = opening_of s;
      next = opening_of s;
      left = None;
      hold = Running;
      contacts = start.contacts;
      count = start.count;
      day = start.day;
    })

-- over these events the script reaches exactly one reading, whose scene is that of the state
pub record PlaysAlong (s : Tree) (start : Start) (events : List Event) (state : State) : Type 0 where
  pub end : Reading
  pub comes : PerformsAll s.header (begins s start) events end
  pub only : (other : Reading) → PerformsAll s.header (begins s start) events other → other ≡ end
  pub same : scene_of state ≡ end.scene

-- the code plays as the script reads: from every start in range, after every list of events
abbrev pub PlaysAsItReads : Tree → Program → Type 0
PlaysAsItReads s code =
    (start : Start) (first : State) (events : List Event)
    → StartIsInRange start → IsStart code start first → AllByRecursion IsEvent events
    → PlaysAlong s start events (run code first events)

-- the law of scripts: every typed code of a script does
abbrev pub ScriptsPlayAsTheyRead : Type 0
ScriptsPlayAsTheyRead =
    (s : Tree) (code : Program) → IsProgram code → IsTyped code → IsCodeOf s code → PlaysAsItReads s code
