-- Why a schedule is refused: for its items, for a combination of overlays, for a change, or for the cost of its code.
use Rattle.std.specs.Prelude.{◌≡◌, ◌≢◌, ◌⊎◌, ℕ, ◌/◌, ◌%◌, ◌<◌, ◌==◌, Bool, if◌then◌else◌, List, [], ◌∷◌, Option, None}
use Rattle.std.specs.Prelude.{Some, option_map, slice_get, Result, Ok, Err}
use Rattle.std.specs.Int.RustNames.{bit_or}
use Rattle.std.specs.List.{AllByRecursion}
use Rattle.mux_types.specs.Configuration.{Configuration, nothing}
use Rattle.mux_config.specs.Edits.{edit_fault, changed}
use Rattle.mux_config.specs.Sound.{first_fault}
use Rattle.plan_code.specs.declared.flags.Contacts.{Contacts}
use Rattle.plan_code.specs.declared.label.Swap.TheVariants.{Idle}
use Rattle.plan_code.specs.declared.plan.Plan.{Plan}
use Rattle.plan_verifier.specs.declared.cause.Cause.{Cause}
use Rattle.plan_verifier.specs.declared.cause.Cause.TheVariants.{Edit, Config, Round, Cost}
use Rattle.plan_verifier.specs.Flows.{known_at}
use Rattle.plan_verifier.specs.Rules.{HasRoom, Known}
use Rattle.plan_verifier.specs.Tests.{start_cause}
use Rattle.schedule_front.specs.declared.tree.OverlayEdit.{OverlayEdit}
use Rattle.schedule_front.specs.Tree.{Tree, Overlay}
use Rattle.schedule_runs.specs.Due.{due, opening_of}
use Rattle.schedule_verifier.specs.Combinations.{CanHold, held}
use Rattle.script_config.specs.declared.items.ItemFault.{ItemFault}
use Rattle.script_config.specs.Items.{made_by, unless_fault}
use Rattle.schedule_compiler.specs.declared.fault.BuildFault.{BuildFault}
use Rattle.schedule_compiler.specs.declared.fault.BuildFault.TheVariants as builds
use Rattle.schedule_compiler.specs.declared.fault.ScheduleFault.{ScheduleFault}
use Rattle.schedule_compiler.specs.declared.fault.ScheduleFault.TheVariants.{Refused, Limit, Uncertified, Memory}
use Rattle.schedule_compiler.specs.declared.states.State.{State}

-- ---- a combination: a set of overlays as a number, the first overlay its lowest bit

-- edits, one after the other: the configuration that they make, or the line of the first one with a fault
abbrev pub edited : List OverlayEdit → Configuration → Result Configuration ItemFault
edited [] c = Ok c
edited (e ∷ es) c = unless_fault (edit_fault e.edit c) e.line (edited es (changed e.edit c))

abbrev pub has_first : (set : ℕ) → Bool
has_first set = set % 2 == 1

abbrev pub then_made : Result Configuration ItemFault → (Configuration → Result Configuration ItemFault)
    → Result Configuration ItemFault
then_made (Ok c) next = next c
then_made (Err fault) next = Err fault

-- the edits of the overlays of a set, in the order of the text
abbrev pub overlaid : (set : ℕ) → List Overlay → Configuration → Result Configuration ItemFault
overlaid set [] c = Ok c
overlaid set (o ∷ os) c = then_made (if has_first set then edited o.edits c else Ok c) (overlaid (set / 2) os)

-- what the overlays of a set make of the items
abbrev pub made_with : Tree → (set : ℕ) → Result Configuration ItemFault
made_with s set = overlaid set s.overlays (opening_of s)

-- the line of the last overlay of a set, or this one
abbrev pub last_line : (line set : ℕ) → List Overlay → ℕ
last_line line set [] = line
last_line line set (o ∷ os) = last_line (if has_first set then o.line else line) (set / 2) os

-- the law of combinations: where no edit has a fault, the overlays that hold make what is due
abbrev pub CombinationsMakeDue : Type 0
CombinationsMakeDue =
    (s : Tree) (contacts : Contacts) (day : ℕ) (c : Configuration) → made_with s (held s contacts day) ≡ Ok c
    → due s contacts day ≡ c

-- ---- what is to blame

pub record Blame : Type 0 where
  pub line : ℕ
  pub cause : Cause

abbrev pub at_line : ℕ → Cause → Blame
at_line line cause = record { line = line; cause = cause }

-- the first edit with a fault; or the fault of the configuration, if it has one
abbrev pub blame_in : (line : ℕ) → Result Configuration ItemFault → Option Blame
blame_in line (Err fault) = Some (at_line fault.line (Edit fault.fault))
blame_in line (Ok c) = option_map (λ fault. at_line line (Config fault)) (first_fault c)

abbrev pub blame_of : Tree → (set : ℕ) → Option Blame
blame_of s set = blame_in (last_line s.line set s.overlays) (made_with s set)

-- ---- refusals

-- an item has a fault
abbrev pub HasBadItem : Tree → Blame → Type 0
HasBadItem s blame = (fault : ItemFault) × (made_by s.items nothing ≡ Err fault)
    × (blame ≡ at_line fault.line (Edit fault.fault))

-- the items, or a set of overlays that can hold, are to blame, and neither the items nor any lower set that can hold
-- is
pub record IsFirstToBlame (s : Tree) (blame : Blame) (set : ℕ) : Type 0 where
  pub holds : (set ≡ 0) ⊎ CanHold s set
  pub is : blame_of s set ≡ Some blame
  pub items : set ≢ 0 → blame_of s 0 ≡ None
  pub first : (other : ℕ) → CanHold s other → other < set → blame_of s other ≡ None

-- the plan can't begin with a configuration
abbrev pub CannotBegin : Tree → Configuration → Blame → Type 0
CannotBegin s c blame = (cause : Cause) × (start_cause s.header c ≡ Some cause) × (blame ≡ at_line s.line cause)

-- one configuration is on air, and another one is to be announced
abbrev pub changing : (from to : Configuration) → Known
changing from to = known_at (record { current = from; next = to; pending = Idle })

-- there is no room for the pages of a change from one configuration to another one
pub record HasNoRoom (plan : Plan) (from to : Configuration) : Type 0 where
  pub differ : to ≢ from
  pub crowded : HasRoom plan (changing from to) → ⊥

-- a configuration that can be due, made by these overlays; or the one that the plan begins with, and none of them
abbrev pub CanBeOnAir : Tree → Configuration → Configuration → (set : ℕ) → Type 0
CanBeOnAir s start c set =
    ((c ≡ start) × (set ≡ 0)) ⊎ (((set ≡ 0) ⊎ CanHold s set) × (made_with s set ≡ Ok c))

-- a change between two such configurations has no room: the line is that of the last overlay of either
pub record HasNoWay (s : Tree) (start : Configuration) (blame : Blame) (set : ℕ) : Type 0 where
  pub from : Configuration
  pub to : Configuration
  pub before : ℕ
  pub behind : ℕ
  pub both : set ≡ bit_or before behind
  pub is_from : CanBeOnAir s start from before
  pub is_to : CanBeOnAir s start to behind
  pub crowded : HasNoRoom s.header from to
  pub is : blame ≡ at_line (last_line s.line set s.overlays) Round

-- why a schedule whose plan begins with this configuration is refused with this line and cause, and these overlays
abbrev pub IsToBlame : Tree → Configuration → Blame → (set : ℕ) → Type 0
IsToBlame s start blame set =
    HasBadItem s blame ⊎ (IsFirstToBlame s blame set ⊎ (CannotBegin s start blame ⊎ (CannotBegin s (opening_of s) blame
    ⊎ (HasNoWay s start blame set ⊎ (blame ≡ at_line s.line Cost)))))

-- a refusal says what is to blame; whether a limit is exceeded, or memory is out, is not said here
abbrev pub IsRefused : Tree → Configuration → ScheduleFault → Type 0
IsRefused s start (Refused line cause overlays) = IsToBlame s start (at_line line cause) overlays
IsRefused s start (Limit limit) = Unit {0}
IsRefused s start Uncertified = Unit {0}
IsRefused s start Memory = Unit {0}

-- ---- the faults of building. No public contract depends on what follows

abbrev pub fault_of_build : BuildFault → ScheduleFault
fault_of_build (builds.Limit limit) = Limit limit
fault_of_build builds.Uncertified = Uncertified
fault_of_build builds.Memory = Memory

-- edits made a configuration, or the first with a fault was found
abbrev pub Makes : Result Configuration ItemFault → Configuration → Result (Unit {0}) ItemFault → Type 0
Makes (Ok c) new result = (result ≡ Ok tt) × (new ≡ c)
Makes (Err fault) new result = result ≡ Err fault

-- an item has a fault
abbrev pub IsBadItem : Tree → ScheduleFault → Type 0
IsBadItem s (Refused line cause overlays) = HasBadItem s (at_line line cause)
IsBadItem s _ = ⊥

-- a combination is to blame
abbrev pub IsBlamed : Tree → (set : ℕ) → ScheduleFault → Type 0
IsBlamed s set (Refused line cause overlays) = (blame_of s set ≡ Some (at_line line cause)) × (overlays ≡ set)
IsBlamed s set _ = ⊥

-- none of these combinations is
abbrev pub AreFine : Tree → List ℕ → Type 0
AreFine s sets = (i set : ℕ) → slice_get sets i ≡ Some set → blame_of s set ≡ None

-- of these combinations one is the first that is to blame; or it is a limit, or memory
abbrev pub IsBlamedAmong : Tree → List ℕ → ScheduleFault → Type 0
IsBlamedAmong s sets (Refused line cause overlays) =
    (i : ℕ) × (slice_get sets i ≡ Some overlays) × (blame_of s overlays ≡ Some (at_line line cause))
    × ((j set : ℕ) → j < i → slice_get sets j ≡ Some set → blame_of s set ≡ None)
IsBlamedAmong s sets _ = Unit {0}

-- a state is what its overlays make of the items
abbrev pub IsStateOf : Tree → State → Type 0
IsStateOf s state = made_with s state.overlays ≡ Ok state.config

-- and its overlays are one of these combinations
pub record IsAmong (s : Tree) (sets : List ℕ) (state : State) : Type 0 where
  pub index : ℕ
  pub there : slice_get sets index ≡ Some state.overlays
  pub made : IsStateOf s state

-- the plan can't begin with this configuration
abbrev pub IsNoBeginning : Tree → Configuration → ScheduleFault → Type 0
IsNoBeginning s c (Refused line cause overlays) =
    (line ≡ s.line) × (overlays ≡ 0) × (start_cause s.header c ≡ Some cause)
IsNoBeginning s c _ = ⊥

-- a change to one of these states has no room, from a configuration that these overlays make
pub record HasNoWayTo (s : Tree) (from : Configuration) (before : ℕ) (states : List State) (line : ℕ) (set : ℕ) :
    Type 0 where
  pub to : State
  pub index : ℕ
  pub there : slice_get states index ≡ Some to
  pub crowded : HasNoRoom s.header from to.config
  pub both : set ≡ bit_or before to.overlays
  pub named : line ≡ last_line s.line set s.overlays

abbrev pub IsNoWayTo : Tree → Configuration → (before : ℕ) → List State → ScheduleFault → Type 0
IsNoWayTo s from before states (Refused line cause overlays) =
    (cause ≡ Round) × HasNoWayTo s from before states line overlays
IsNoWayTo s from before states _ = ⊥

-- the plan can't begin with a configuration, or with the items, or a change between these states, or from the
-- configuration, has no room
abbrev pub IsBadRound : Tree → (items start : Configuration) → List State → ScheduleFault → Type 0
IsBadRound s items start states fault =
    IsNoBeginning s start fault
    ⊎ (IsNoBeginning s items fault
    ⊎ (IsNoWayTo s start 0 states fault
    ⊎ ((i : ℕ) × (from : State) × (slice_get states i ≡ Some from)
    × IsNoWayTo s from.config from.overlays states fault)))

-- one of these combinations is to blame, or what the configurations that they make have no room for
abbrev pub IsRefusedAmong : Tree → (items start : Configuration) → List ℕ → ScheduleFault → Type 0
IsRefusedAmong s items start sets fault =
    IsBlamedAmong s sets fault
    ⊎ ((states : List State) × AllByRecursion (IsAmong s sets) states × IsBadRound s items start states fault)
