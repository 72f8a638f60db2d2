-- Statements that are one instruction, and the test of a condition. The alternatives of a wait as its instruction has
-- them: the contacts that are to be closed and those that are to be open, as sets, the frame of the day of its moment,
-- and its number of frames.
use Rattle.std.specs.Prelude.{◌≡◌, ℕ, ◌<◌, Bool, true, false, ◌==◌, ◌&&◌, List, [], ◌∷◌, Option, Some, None}
use Rattle.std.specs.List.{AllByRecursion, list_any}
use Rattle.plan_code.specs.declared.flags.Contacts.{Contacts}
use Rattle.plan_code.specs.declared.instr.Instr.{Instr}
use Rattle.plan_code.specs.declared.instr.Instr.TheVariants.{Wait, Until as UntilFrame, WaitContact, WaitAny, CommitIn}
use Rattle.plan_code.specs.declared.instr.Instr.TheVariants.{CommitAt, Join, Settle, Edit, Test, TestTime}
use Rattle.plan_code.specs.declared.limits.TheConstants.{CONTACTS}
use Rattle.plan_code.specs.Flags.{with_contact, is_in}
use Rattle.script_front.specs.declared.alternatives.Alternative.{Alternative}
use Rattle.script_front.specs.declared.alternatives.Alternative.TheVariants.{Contact, Until, Frames}
use Rattle.script_front.specs.declared.tree.Act.{Act}
use Rattle.script_front.specs.declared.tree.Act.TheVariants.{Edit as Edits, Wait as Waits, WaitContact as WaitsContact}
use Rattle.script_front.specs.declared.tree.Act.TheVariants.{Until as WaitsUntil, WaitAny as WaitsAny}
use Rattle.script_front.specs.declared.tree.Act.TheVariants.{CommitIn as CommitsIn, CommitAt as CommitsAt}
use Rattle.script_front.specs.declared.tree.Act.TheVariants.{Join as Joins, Settle as Settles}
use Rattle.script_front.specs.declared.tree.Condition.{Condition}
use Rattle.script_front.specs.declared.tree.Condition.TheVariants.{Contact as IfContact, Time as IfTime}
use Rattle.script_front.specs.Times.{frame_at}
use Rattle.script_front.specs.Waits.{moment_frame, IsAlternative}

-- ---- contacts

abbrev pub no_contacts : Contacts
no_contacts = record { 0 = 0 }

-- the set with this contact, if it is to have this level
abbrev pub with_level : (closed level : Bool) → ℕ → Contacts → Contacts
with_level true true contact set = with_contact contact true set
with_level false false contact set = with_contact contact true set
with_level closed level contact set = set

abbrev pub with_alternative : Bool → Alternative → Contacts → Contacts
with_alternative closed (Contact contact level) set = with_level closed level contact set
with_alternative closed _ set = set

-- the set with the contacts that are to be closed, or open, in one of these
abbrev pub with_alternatives : Bool → List Alternative → Contacts → Contacts
with_alternatives closed [] set = set
with_alternatives closed (a ∷ others) set = with_alternatives closed others (with_alternative closed a set)

abbrev pub contacts_in : Bool → List Alternative → Contacts
contacts_in closed alternatives = with_alternatives closed alternatives no_contacts

abbrev pub is_level : (closed level : Bool) → Bool
is_level true level = level
is_level false true = false
is_level false false = true

-- whether this is `contact C closed`, or `open`
abbrev pub is_for : (contact : ℕ) → (closed : Bool) → Alternative → Bool
is_for contact closed (Contact c level) = (c == contact) && is_level closed level
is_for contact closed _ = false

-- ---- the moment, and the number of frames

-- of which there is at most one each
abbrev pub moment_in : List Alternative → Option ℕ
moment_in [] = None
moment_in (Until moment ∷ others) = Some (moment_frame moment)
moment_in (a ∷ others) = moment_in others

abbrev pub frames_in : List Alternative → Option ℕ
frames_in [] = None
frames_in (Frames frames ∷ others) = Some frames
frames_in (a ∷ others) = frames_in others

-- ---- statements that are one instruction

-- an edit, a wait, a commit, `join` and `settle` act as the instruction of the same name
abbrev pub instr_of_act : Act → Instr
instr_of_act (Edits edit) = Edit edit
instr_of_act (Waits frames) = Wait frames
instr_of_act (WaitsContact contact closed) = WaitContact contact closed
instr_of_act (WaitsUntil moment) = UntilFrame (moment_frame moment)
instr_of_act (WaitsAny all) = WaitAny (contacts_in true all) (contacts_in false all) (moment_in all) (frames_in all)
instr_of_act (CommitsIn delay) = CommitIn delay
instr_of_act (CommitsAt count) = CommitAt count
instr_of_act Joins = Join
instr_of_act Settles = Settle

-- ---- conditions

-- the test of a condition, which jumps to the target where it does not hold
abbrev pub test_of : Condition → ℕ → Instr
test_of (IfContact contact) target = Test contact target
test_of (IfTime from to) target = TestTime (frame_at from) (frame_at to) target

-- ---- the law of alternatives

-- a contact is in a set exactly if one of the alternatives is for it, closed or open
abbrev pub AlternativesAreKept : Type 0
AlternativesAreKept =
    (alternatives : List Alternative) (contact : ℕ) (closed : Bool) → AllByRecursion IsAlternative alternatives
    → contact < CONTACTS
    → is_in (contacts_in closed alternatives) contact ≡ list_any (is_for contact closed) alternatives
