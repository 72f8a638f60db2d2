-- The code of a script, and which scripts are accepted.
use Rattle.std.specs.Prelude.{◌≡◌, ℕ, zero, suc, ◌+◌, ◌≤◌, ◌⊎◌, List, [], ◌∷◌, ◌++◌, length, map, max, slice_get}
use Rattle.std.specs.Prelude.{Contains, Some, None}
use Rattle.mux_config.specs.Configuration.{Configuration, nothing as no_configuration}
use Rattle.mux_config.specs.Edits.{edit_fault, changed}
use Rattle.mux_config.specs.Sound.{IsSound}
use Rattle.plan_code.specs.declared.limits.TheConstants.{MOST_CONFIGURATIONS, MOST_LABELS, MOST_INSTRUCTIONS, COUNTERS}
use Rattle.plan_code.specs.declared.flags.Counters.{Counters}
use Rattle.plan_code.specs.declared.label.Label.{Label}
use Rattle.plan_code.specs.declared.label.Swap.TheVariants.{Idle}
use Rattle.plan_code.specs.declared.instr.Instr.{Instr}
use Rattle.plan_code.specs.declared.instr.Line.{Line}
use Rattle.plan_code.specs.Flags.{with_counter}
use Rattle.plan_code.specs.Program.{Program}
use Rattle.plan_verifier.specs.Rules.{pages_alone}
use Rattle.script_front.specs.declared.tree.Item.{Item}
use Rattle.script_front.specs.Block.{Block, nothing, basic, stop, when, either, repeat, forever, apply, table_of}
use Rattle.script_front.specs.Block.{block_of}
use Rattle.script_front.specs.Tree.{Tree}
use Rattle.script_compiler.specs.declared.flow.UnpricedLabel.{UnpricedLabel}
use Rattle.script_compiler.specs.declared.flow.ProgramPoint.{ProgramPoint}
use Rattle.script_compiler.specs.Scheme.{PlacedInstr, at_label, all_places, unpriced_labels}
use Rattle.script_compiler.specs.Judged.{IsJudged}
use Rattle.script_compiler.specs.Need.{IsWithinBudget, IsNeed}

-- ---- the parts of a script

-- the items applied to a configuration, in order
abbrev pub with_items : List Item → Configuration → Configuration
with_items [] c = c
with_items (item ∷ items) c = with_items items (changed item.edit c)

-- none of them has a fault
abbrev pub AreFine : List Item → Configuration → Type 0
AreFine [] c = Unit {0}
AreFine (item ∷ items) c = (edit_fault item.edit c ≡ None) × AreFine items (changed item.edit c)

abbrev pub opening_of : Tree → Configuration
opening_of s = with_items s.items no_configuration

-- a script begins with its opening, nothing pending, at a label
abbrev pub beginning : Configuration → ProgramPoint
beginning c = at_label (record { current = c; next = c; pending = Idle })

abbrev pub body_of : Tree → Block
body_of s = block_of (table_of [] s.blocks) s.statements

abbrev pub placed_instrs : Tree → List PlacedInstr
placed_instrs s = all_places s.header s.last_line (body_of s) (beginning (opening_of s))

abbrev pub lines_of_placed : List PlacedInstr → List Line
lines_of_placed ps = map (λ p. record { number = p.line; instr = p.instr }) ps

abbrev pub instrs_of : List Line → List Instr
instrs_of lines = map (λ l. l.instr) lines

-- ---- labels and their configurations

abbrev pub IsInTable : Configuration → List Configuration → Type 0
IsInTable c table = (i : ℕ) × (slice_get table i ≡ Some c)

-- a table with this configuration, appended if absent
abbrev pub Added : Configuration → List Configuration → List Configuration → Type 0
Added c table new = (IsInTable c table × (new ≡ table)) ⊎ ((IsInTable c table → ⊥) × (new ≡ table ++ c ∷ []))

-- a table with those of these labels, the current one of each before the next one
abbrev pub Tabled : List Configuration → List UnpricedLabel → List Configuration → Type 0
Tabled table [] new = new ≡ table
Tabled table (m ∷ ms) new =
    (one both : List Configuration) × Added m.flow.current table one × Added m.flow.next one both × Tabled both ms new

-- the first `r` counters
abbrev pub first_counters : ℕ → Counters
first_counters zero = record { 0 = 0 }
first_counters (suc r) = with_counter r (first_counters r)

-- a label declares what is known there
pub record IsLabelOf (table : List Configuration) (m : UnpricedLabel) (l : Label) : Type 0 where
  pub place : l.pc ≡ m.pc
  pub current : slice_get table l.cur ≡ Some m.flow.current
  pub following : slice_get table l.next ≡ Some m.flow.next
  pub pending : l.pending ≡ m.flow.pending
  pub counters : l.counters ≡ first_counters m.repeats

abbrev pub AreLabelsOf : List Configuration → List UnpricedLabel → List Label → Type 0
AreLabelsOf table [] ls = ls ≡ []
AreLabelsOf table (m ∷ ms) [] = ⊥
AreLabelsOf table (m ∷ ms) (l ∷ ls) = IsLabelOf table m l × AreLabelsOf table ms ls

-- the code of a script, except for the costs of its labels
pub record IsCodeOf (s : Tree) (code : Program) : Type 0 where
  pub plan : code.plan ≡ s.header
  pub lines : code.lines ≡ lines_of_placed (placed_instrs s)
  pub table : Tabled [] (unpriced_labels 0 (placed_instrs s)) code.configurations
  pub labels : AreLabelsOf code.configurations (unpriced_labels 0 (placed_instrs s)) code.labels

-- each label costs what the code needs from there
abbrev pub CostsItsNeeds : Program → Type 0
CostsItsNeeds code = (l : Label) → Contains code.labels l → IsNeed (instrs_of code.lines) l.pc l.cost

-- the law of codes: a script has at most one code whose labels cost their needs
abbrev pub ScriptsHaveOneCode : Type 0
ScriptsHaveOneCode = (s : Tree) (a b : Program) → IsCodeOf s a → IsCodeOf s b → CostsItsNeeds a → CostsItsNeeds b
    → a ≡ b

-- ---- scripts that can be compiled

-- how deep repeats are nested
abbrev pub nested : Block → ℕ
nested nothing = 0
nested (basic line act rest) = nested rest
nested (stop line rest) = nested rest
nested (when line condition first rest) = max (nested first) (nested rest)
nested (either line condition first second rest) = max (nested first) (max (nested second) (nested rest))
nested (repeat line times body rest) = max (1 + nested body) (nested rest)
nested (forever line body rest) = max (nested body) (nested rest)
nested (apply line number named rest) = max (nested named) (nested rest)

pub record IsAccepted (s : Tree) : Type 0 where
  pub made : AreFine s.items no_configuration
  pub sound : IsSound (opening_of s)
  pub within_period : pages_alone s.header (opening_of s) ≤ s.header.period
  pub judged : IsJudged s.header (body_of s) (beginning (opening_of s))
  pub instructions : length (placed_instrs s) ≤ MOST_INSTRUCTIONS
  pub labels : length (unpriced_labels 0 (placed_instrs s)) ≤ MOST_LABELS
  pub configurations :
      (table : List Configuration) → Tabled [] (unpriced_labels 0 (placed_instrs s)) table
      → length table ≤ MOST_CONFIGURATIONS
  pub repeats : nested (body_of s) ≤ COUNTERS
  pub within : IsWithinBudget s.header.budget (instrs_of (lines_of_placed (placed_instrs s)))
