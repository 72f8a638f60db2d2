-- Combinations: the sets of overlays that hold together at some moment. A set is a number, the first overlay its lowest
-- bit.
use Rattle.std.specs.Prelude.{◌≡◌, ◌⊎◌, ℕ, ◌+◌, ◌*◌, ◌%◌, ◌<◌, Bool, if◌then◌else◌, List, [], ◌∷◌, Some, slice_get}
use Rattle.plan_code.specs.declared.limits.TheConstants.{FRAMES_A_DAY}
use Rattle.plan_code.specs.declared.flags.Contacts.{Contacts}
use Rattle.schedule_front.specs.Tree.{Tree, Overlay}
use Rattle.schedule_runs.specs.Due.{condition_holds}
use Rattle.schedule_verifier.specs.declared.combinations.Held.{Held}
use Rattle.schedule_verifier.specs.declared.combinations.Held.TheVariants.{Set, Ask}

-- one more overlay, before the others
abbrev pub with_first : Bool → ℕ → ℕ
with_first holds others = (if holds then 1 else 0) + 2 * others

-- those of these overlays whose condition holds, for the contacts as they are and a frame of the day
abbrev pub held_of : Contacts → (day : ℕ) → List Overlay → ℕ
held_of contacts day [] = 0
held_of contacts day (o ∷ os) = with_first (condition_holds contacts day o.condition) (held_of contacts day os)

-- the overlays that make what is due in a frame of the day: those that hold a notice later
abbrev pub held : Tree → Contacts → (day : ℕ) → ℕ
held s contacts day = held_of contacts ((day + s.header.notice) % FRAMES_A_DAY) s.overlays

-- with some contacts, in some frame of the day, these hold, and no others
pub record CanHold (s : Tree) (set : ℕ) : Type 0 where
  pub contacts : Contacts
  pub day : ℕ
  pub in_range : day < FRAMES_A_DAY
  pub holds : held s contacts day ≡ set

-- all that can hold in ascending order, behind the items alone
pub record AreCombinations (s : Tree) (sets : List ℕ) : Type 0 where
  pub items : slice_get sets 0 ≡ Some 0
  pub ascending : (i j a b : ℕ) → i < j → slice_get sets i ≡ Some a → slice_get sets j ≡ Some b → a < b
  pub each : (i set : ℕ) → slice_get sets i ≡ Some set → (set ≡ 0) ⊎ CanHold s set
  pub all : (contacts : Contacts) (day : ℕ) → day < FRAMES_A_DAY
      → (i : ℕ) × (slice_get sets i ≡ Some (held s contacts day))

-- ---- what is known in a region. No public contract depends on what follows

abbrev pub IfHeld : Held → (ℕ → Type 0) → Type 0
IfHeld (Set set) P = P set
IfHeld (Ask question) P = Unit {0}
