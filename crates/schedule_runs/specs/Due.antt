-- What a schedule wants on air in each frame of the day, and what is due in a frame: what is wanted a notice later.
use Rattle.std.specs.Prelude.{ℕ, ◌+◌, ◌%◌, Bool, if◌then◌else◌, List, [], ◌∷◌, map}
use Rattle.std.specs.List.{list_any, list_all}
use Rattle.mux_types.specs.Configuration.{Configuration, nothing}
use Rattle.mux_types.specs.Sameness.{is_same_flag}
use Rattle.mux_config.specs.declared.edit.Edit.{Edit}
use Rattle.plan_code.specs.declared.limits.TheConstants.{FRAMES_A_DAY}
use Rattle.plan_code.specs.declared.flags.Contacts.{Contacts}
use Rattle.plan_code.specs.Flags.{is_closed}
use Rattle.plan_code.specs.Machine.{is_in_window}
use Rattle.script_front.specs.Alike.{added_by}
use Rattle.script_front.specs.Times.{frame_at}
use Rattle.script_config.specs.Sequences.{after}
use Rattle.schedule_front.specs.declared.tree.Test.{Test}
use Rattle.schedule_front.specs.declared.tree.Test.TheVariants.{Contact, Time}
use Rattle.schedule_front.specs.Tree.{Tree, Overlay}

-- ---- conditions, for the contacts as they are and a frame of the day

-- the contact has this level, or the frame of the day is in the window
abbrev pub test_holds : Contacts → (day : ℕ) → Test → Bool
test_holds contacts day (Contact contact closed) = is_same_flag (is_closed contacts contact) closed
test_holds contacts day (Time from to) = is_in_window (frame_at from) (frame_at to) day

-- all tests of one of the alternatives hold
abbrev pub condition_holds : Contacts → (day : ℕ) → List (List Test) → Bool
condition_holds contacts day condition = list_any (list_all (test_holds contacts day)) condition

-- ---- configurations

-- the configuration of the items
abbrev pub opening_of : Tree → Configuration
opening_of s = after (added_by s.items) nothing

abbrev pub edits_of : Overlay → List Edit
edits_of o = map (λ e. e.edit) o.edits

-- a configuration with the edits of the overlays whose condition holds, in the order of the text
abbrev pub with_overlays : Contacts → (day : ℕ) → List Overlay → Configuration → Configuration
with_overlays contacts day [] c = c
with_overlays contacts day (o ∷ os) c =
    with_overlays contacts day os (if condition_holds contacts day o.condition then after (edits_of o) c else c)

-- what is to be on air in this frame of the day
abbrev pub wanted : Tree → Contacts → (day : ℕ) → Configuration
wanted s contacts day = with_overlays contacts day s.overlays (opening_of s)

-- what is due in this frame of the day: a change is announced for a notice, so this is what is wanted a notice later
abbrev pub due : Tree → Contacts → (day : ℕ) → Configuration
due s contacts day = wanted s contacts ((day + s.header.notice) % FRAMES_A_DAY)
