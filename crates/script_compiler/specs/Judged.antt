-- Valid blocks: each statement is valid for what is known before it, paths that merge agree, and all is reachable.
use Rattle.std.specs.Prelude.{Option, Some, None}
use Rattle.plan_code.specs.declared.plan.Plan.{Plan}
use Rattle.plan_verifier.specs.Rules.{IsFine}
use Rattle.plan_verifier.specs.Flows.{known_at, after_instr, merged, FitsFlow}
use Rattle.script_front.specs.Block.{Block, nothing, basic, stop, when, either, repeat, forever, apply}
use Rattle.script_compiler.specs.declared.flow.ProgramPoint.{ProgramPoint}
use Rattle.script_compiler.specs.Alternatives.{instr_of_act}
use Rattle.script_compiler.specs.Scheme.{at_label, without_label, meet, join, head, point_after}

-- paths that merge both fit what is known at the label there; a single path always does
abbrev pub WaysAgree : Option ProgramPoint → Option ProgramPoint → Type 0
WaysAgree (Some s) (Some t) = FitsFlow s.flow (merged s.flow t.flow) × FitsFlow t.flow (merged s.flow t.flow)
WaysAgree _ _ = Unit {0}

-- the paths at the end of two branches agree
abbrev pub BranchesAgree : Option ProgramPoint → Option ProgramPoint → Type 0
BranchesAgree first second = WaysAgree second first

-- what is known after the body of a loop fits its entry, if the body falls out
abbrev pub FitsEntry : Option ProgramPoint → ProgramPoint → Type 0
FitsEntry None entry = Unit {0}
FitsEntry (Some s) entry = FitsFlow s.flow entry.flow

-- no statement follows
abbrev pub IsDone : Block → Type 0
IsDone nothing = Unit {0}
IsDone _ = ⊥

-- the rest of a block after this point is valid; no statement may be unreachable
abbrev pub Reached : Option ProgramPoint → Block → (ProgramPoint → Type 0) → Type 0
Reached None rest judged = IsDone rest
Reached (Some s) rest judged = judged s

-- the block is valid from this point on
abbrev pub IsJudged : Plan → Block → ProgramPoint → Type 0
IsJudged plan nothing s = Unit {0}
IsJudged plan (basic line act rest) s =
    IsFine plan (instr_of_act act) (known_at s.flow) × IsJudged plan rest
    (without_label (after_instr plan (instr_of_act act) s.flow))
IsJudged plan (stop line rest) s = IsDone rest
IsJudged plan (when line condition first rest) s =
    let a = point_after plan first (without_label s.flow) in
    IsJudged plan first (without_label s.flow) × WaysAgree a (Some s)
    × Reached (meet a (Some s)) rest (λ u. IsJudged plan rest u)
IsJudged plan (either line condition first second rest) s =
    let a = point_after plan first (without_label s.flow) in
    let b = point_after plan second (at_label s.flow) in
    IsJudged plan first (without_label s.flow) × IsJudged plan second (at_label s.flow) × BranchesAgree a b
    × Reached (join a b) rest (λ u. IsJudged plan rest u)
IsJudged plan (repeat line times body rest) s =
    let start = head body (without_label s.flow) in
    IsJudged plan body start × FitsEntry (point_after plan body start) start
    × Reached (point_after plan body start) rest (λ u. IsJudged plan rest (without_label u.flow))
IsJudged plan (forever line body rest) s =
    let start = head body s in
    IsJudged plan body start × FitsEntry (point_after plan body start) start × IsDone rest
IsJudged plan (apply line number named rest) s =
    IsJudged plan named s × Reached (point_after plan named s) rest (λ u. IsJudged plan rest u)
