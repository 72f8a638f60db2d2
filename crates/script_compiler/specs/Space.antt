-- Whether the code still to be emitted is within the limits. Not used in public contracts.
use Rattle.std.specs.Prelude.{◌≡◌, ℕ, ◌+◌, ◌≤◌, true, if◌then◌else◌, List, [], ◌∷◌, ◌++◌, length, Some}
use Rattle.mux_config.specs.Configuration.{Configuration}
use Rattle.plan_code.specs.declared.plan.Plan.{Plan}
use Rattle.plan_verifier.specs.Flows.{Flow}
use Rattle.script_front.specs.Block.{Block}
use Rattle.script_compiler.specs.declared.flow.ProgramPoint.{ProgramPoint}
use Rattle.script_compiler.specs.Scheme.{PlacedInstr, point_after, places, unpriced_labels}
use Rattle.script_compiler.specs.Judged.{IsJudged}
use Rattle.script_compiler.specs.Compiled.{IsInTable, Tabled, nested}
use Rattle.script_compiler.specs.declared.fault.CodeLimit.{CodeLimit}
use Rattle.script_compiler.specs.declared.fault.CodeLimit.TheVariants.{Instructions, Labels, Configurations, Counters}
use Rattle.script_compiler.specs.Working.{Work}
use Rattle.script_compiler.specs.Room.{HasRoomFor, Leaves, named_by}

-- the number of labels of these instructions
abbrev pub count_of_labels : List PlacedInstr → ℕ
count_of_labels [] = 0
count_of_labels (p ∷ ps) = if p.point.labelled then 1 + count_of_labels ps else count_of_labels ps

-- the configurations that these labels name
abbrev pub names_of : List PlacedInstr → List Configuration
names_of [] = []
names_of (p ∷ ps) = if p.point.labelled then p.point.flow.current ∷ p.point.flow.next ∷ names_of ps else names_of ps

-- this limit leaves room for these instructions after the emitted code
abbrev pub HasSpace : CodeLimit → Work → List PlacedInstr → Type 0
HasSpace Instructions w ps = length w.lines.items + length ps ≤ 4096
HasSpace Labels w ps = length w.unpriced.items + count_of_labels ps ≤ 1024
HasSpace Configurations w ps = HasRoomFor [] (named_by w.unpriced.items ++ names_of ps)
HasSpace Counters w ps = Unit {0}

-- this limit leaves no room for an instruction here, with any that follow
abbrev pub LacksSpace : CodeLimit → Work → Type 0
LacksSpace limit w = (p : PlacedInstr) (ps : List PlacedInstr) → p.point ≡ w.now → HasSpace limit w (p ∷ ps) → ⊥

-- this limit allows repeats nested this deep
abbrev pub HasCounters : CodeLimit → ℕ → Type 0
HasCounters Instructions deep = Unit {0}
HasCounters Labels deep = Unit {0}
HasCounters Configurations deep = Unit {0}
HasCounters Counters deep = deep ≤ 8

-- the table of configurations is that of the labels, and both are within their limits
pub record HasTable (w : Work) : Type 0 where
  pub few : length w.unpriced.table ≤ 256
  pub labels : length w.unpriced.items ≤ 1024
  pub room : Leaves [] w.unpriced.table w.unpriced.items
  pub tabled : Tabled [] w.unpriced.items w.unpriced.table

-- the code so far is within the limits on codes
pub record IsInLimits (w : Work) : Type 0 where
  -- on instructions
  pub room : length w.lines.items ≤ 4096
  -- on labels, and on the configurations that they name
  pub table : HasTable w

-- the first of these instructions has a label, which names the configurations that are known here
pub record IsCovered (t : Flow) (ps : List PlacedInstr) : Type 0 where
  pub place : PlacedInstr
  pub rest : List PlacedInstr
  pub is : ps ≡ place ∷ rest
  pub labelled : place.point.labelled ≡ true
  pub names : (c : Configuration) → IsInTable c (t.current ∷ t.next ∷ [])
      → IsInTable c (place.point.flow.current ∷ place.point.flow.next ∷ [])

abbrev pub Covers : ProgramPoint → List PlacedInstr → Type 0
Covers s ps = s.labelled ≡ true → IsCovered s.flow ps

-- a block is valid here, and this limit leaves room for its code and all that follows it
pub record CanEmit (limit : CodeLimit) (plan : Plan) (r : ℕ) (b : Block) (w : Work) : Type 0 where
  pub judged : IsJudged plan b w.now
  pub deep : HasCounters limit (r + nested b)
  pub more : List PlacedInstr
  pub onward : (u : ProgramPoint) → point_after plan b w.now ≡ Some u → Covers u more
  pub space : HasSpace limit w (places plan r (length w.lines.items) b w.now ++ more)

-- a code of these instructions, with repeats nested this deep, is within this limit
abbrev pub Keeps : CodeLimit → ℕ → List PlacedInstr → Type 0
Keeps Instructions deep ps = length ps ≤ 4096
Keeps Labels deep ps = length (unpriced_labels 0 ps) ≤ 1024
Keeps Configurations deep ps = HasRoomFor [] (named_by (unpriced_labels 0 ps))
Keeps Counters deep ps = deep ≤ 8
