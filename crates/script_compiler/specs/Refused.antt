-- Why a script is refused, and at which line: the first fault in text order, with its first cause.
use Rattle.std.specs.Prelude.{◌≡◌, ℕ, ◌<◌, ◌≤◌, ◌⊎◌, List, [], ◌∷◌, Option, Some, None}
use Rattle.mux_config.specs.Configuration.{Configuration, nothing as no_configuration}
use Rattle.mux_config.specs.Edits.{edit_fault, changed}
use Rattle.mux_config.specs.Sound.{IsSound, first_fault}
use Rattle.plan_code.specs.declared.plan.Plan.{Plan}
use Rattle.plan_verifier.specs.declared.cause.Cause.{Cause}
use Rattle.plan_verifier.specs.declared.cause.Cause.TheVariants.{Edit as OfEdit, Config as OfConfig, Table, Mismatch}
use Rattle.plan_verifier.specs.declared.cause.Cause.TheVariants.{Round, Cost}
use Rattle.plan_verifier.specs.Rules.{IsFine, pages_alone}
use Rattle.plan_verifier.specs.Flows.{known_at, after_instr}
use Rattle.plan_verifier.specs.Causes.{Where, WhereSome, ◌orelse◌, FlowRefused}
use Rattle.script_front.specs.declared.tree.Item.{Item}
use Rattle.script_front.specs.Block.{Block, nothing, basic, stop, when, either, repeat, forever, apply}
use Rattle.script_front.specs.Tree.{Tree}
use Rattle.script_compiler.specs.declared.flow.ProgramPoint.{ProgramPoint}
use Rattle.script_compiler.specs.Alternatives.{instr_of_act}
use Rattle.script_compiler.specs.Scheme.{at_label, without_label, meet, join, head, point_after}
use Rattle.script_compiler.specs.Judged.{IsJudged, WaysAgree, BranchesAgree, FitsEntry}
use Rattle.script_compiler.specs.Need.{IsWithinBudget}
use Rattle.script_compiler.specs.Compiled.{AreFine, opening_of, body_of, beginning, placed_instrs, lines_of_placed}
use Rattle.script_compiler.specs.Compiled.{instrs_of}

-- ---- statements

-- the line of the first statement
abbrev pub IsLine : Block → ℕ → Type 0
IsLine nothing line = ⊥
IsLine (basic at act rest) line = at ≡ line
IsLine (stop at rest) line = at ≡ line
IsLine (when at condition first rest) line = at ≡ line
IsLine (either at condition first second rest) line = at ≡ line
IsLine (repeat at times body rest) line = at ≡ line
IsLine (forever at body rest) line = at ≡ line
IsLine (apply at number named rest) line = at ≡ line

-- the first statement is unreachable: `Table`, at its line
abbrev pub IsUnreached : Block → ℕ → Cause → Type 0
IsUnreached b at given = IsLine b at × (given ≡ Table)

-- paths that merge, or the end and the entry of a loop, do not agree: `Mismatch`, at the line of the statement
abbrev pub IsMismatch : ℕ → Type 0 → ℕ → Cause → Type 0
IsMismatch line agree at given = (agree → ⊥) × (at ≡ line) × (given ≡ Mismatch)

-- the rest of a block is refused, after this point
abbrev pub IsRefusedAfter : Option ProgramPoint → Block → (ProgramPoint → Type 0) → ℕ → Cause → Type 0
IsRefusedAfter None rest refused at given = IsUnreached rest at given
IsRefusedAfter (Some s) rest refused at given = refused s

-- from this point on the block is refused at this line, with this cause; all before is valid
abbrev pub IsRefusedIn : Plan → Block → ProgramPoint → ℕ → Cause → Type 0
IsRefusedIn plan nothing s at given = ⊥
IsRefusedIn plan (basic line act rest) s at given =
    ((at ≡ line) × FlowRefused plan (instr_of_act act) (known_at s.flow) given)
    ⊎ (IsFine plan (instr_of_act act) (known_at s.flow)
    × IsRefusedIn plan rest (without_label (after_instr plan (instr_of_act act) s.flow)) at given)
IsRefusedIn plan (stop line rest) s at given = IsUnreached rest at given
IsRefusedIn plan (when line condition first rest) s at given =
    let a = point_after plan first (without_label s.flow) in
    IsRefusedIn plan first (without_label s.flow) at given
    ⊎ (IsJudged plan first (without_label s.flow)
    × (IsMismatch line (WaysAgree a (Some s)) at given
    ⊎ (WaysAgree a (Some s)
    × IsRefusedAfter (meet a (Some s)) rest (λ u. IsRefusedIn plan rest u at given) at given)))
IsRefusedIn plan (either line condition first second rest) s at given =
    let a = point_after plan first (without_label s.flow) in
    let b = point_after plan second (at_label s.flow) in
    IsRefusedIn plan first (without_label s.flow) at given
    ⊎ (IsJudged plan first (without_label s.flow)
    × (IsRefusedIn plan second (at_label s.flow) at given
    ⊎ (IsJudged plan second (at_label s.flow)
    × (IsMismatch line (BranchesAgree a b) at given
    ⊎ (BranchesAgree a b
    × IsRefusedAfter (join a b) rest (λ u. IsRefusedIn plan rest u at given) at given)))))
IsRefusedIn plan (repeat line times body rest) s at given =
    let start = head body (without_label s.flow) in
    IsRefusedIn plan body start at given
    ⊎ (IsJudged plan body start
    × (IsMismatch line (FitsEntry (point_after plan body start) start) at given
    ⊎ (FitsEntry (point_after plan body start) start
    × IsRefusedAfter (point_after plan body start) rest (λ u. IsRefusedIn plan rest (without_label u.flow) at given) at
    given)))
IsRefusedIn plan (forever line body rest) s at given =
    let start = head body s in
    IsRefusedIn plan body start at given
    ⊎ (IsJudged plan body start
    × (IsMismatch line (FitsEntry (point_after plan body start) start) at given
    ⊎ (FitsEntry (point_after plan body start) start × IsUnreached rest at given)))
IsRefusedIn plan (apply line number named rest) s at given =
    IsRefusedIn plan named s at given
    ⊎ (IsJudged plan named s
    × IsRefusedAfter (point_after plan named s) rest (λ u. IsRefusedIn plan rest u at given) at given)

-- ---- items, the opening, costs

-- items applied to this configuration: the first that has a fault, at its line
abbrev pub IsItemRefused : List Item → Configuration → ℕ → Cause → Type 0
IsItemRefused [] c at given = ⊥
IsItemRefused (item ∷ items) c at given =
    ((at ≡ item.line) × WhereSome (edit_fault item.edit c) OfEdit given)
    ⊎ ((edit_fault item.edit c ≡ None) × IsItemRefused items (changed item.edit c) at given)

-- a plan can't begin with this configuration
abbrev pub IsOpeningRefused : Plan → Configuration → Cause → Type 0
IsOpeningRefused plan c = WhereSome (first_fault c) OfConfig orelse Where (plan.period < pages_alone plan c) Round

-- tested in this order: the items, the opening at the line of `begin`, the statements, the costs
abbrev pub IsRefused : Tree → ℕ → Cause → Type 0
IsRefused s at given =
    IsItemRefused s.items no_configuration at given
    ⊎ (AreFine s.items no_configuration
    × (((at ≡ s.begin_line) × IsOpeningRefused s.header (opening_of s) given)
    ⊎ (IsSound (opening_of s) × (pages_alone s.header (opening_of s) ≤ s.header.period)
    × (IsRefusedIn s.header (body_of s) (beginning (opening_of s)) at given
    ⊎ (IsJudged s.header (body_of s) (beginning (opening_of s))
    × (IsWithinBudget s.header.budget (instrs_of (lines_of_placed (placed_instrs s))) → ⊥)
    × (given ≡ Cost))))))
