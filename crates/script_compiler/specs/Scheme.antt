-- The code of a block of statements: its instructions, with what is known at each and where labels are.
use Rattle.std.specs.Prelude.{ℕ, ◌+◌, Bool, true, false, if◌then◌else◌, ◌&&◌, ◌||◌, List, [], ◌∷◌, ◌++◌, length, Option}
use Rattle.std.specs.Prelude.{Some, None}
use Rattle.plan_code.specs.declared.plan.Plan.{Plan}
use Rattle.plan_code.specs.declared.instr.Instr.{Instr}
use Rattle.plan_code.specs.declared.instr.Instr.TheVariants.{End, Jump, Set, Loop}
use Rattle.plan_verifier.specs.Flows.{Flow, after_instr, merged}
use Rattle.script_front.specs.Block.{Block, nothing, basic, stop, when, either, repeat, forever, apply}
use Rattle.script_compiler.specs.Alternatives.{test_of}
pub use Rattle.script_compiler.specs.Alternatives.{instr_of_act}
use Rattle.script_compiler.specs.declared.flow.UnpricedLabel.{UnpricedLabel}
use Rattle.script_compiler.specs.declared.flow.ProgramPoint.{ProgramPoint}

-- ---- what is known

abbrev pub at_label : Flow → ProgramPoint
at_label t = record { flow = t; labelled = true }

-- a point without a label
abbrev pub without_label : Flow → ProgramPoint
without_label t = record { flow = t; labelled = false }

-- ---- paths that merge at a label

-- a path that ends before is None
abbrev pub meet : Option ProgramPoint → Option ProgramPoint → Option ProgramPoint
meet None None = None
meet None (Some t) = Some (at_label t.flow)
meet (Some s) None = Some (at_label s.flow)
meet (Some s) (Some t) = Some (at_label (merged s.flow t.flow))

-- after two branches: if the first doesn't fall out, the second continues and there is no label
abbrev pub join : Option ProgramPoint → Option ProgramPoint → Option ProgramPoint
join None second = second
join (Some s) second = meet second (Some s)

abbrev pub onward : {A : Type 0} → Option ProgramPoint → A → (ProgramPoint → A) → A
onward None none some = none
onward (Some s) none some = some s

-- ---- instructions

-- control reaches the end of the block
abbrev pub falls_out : Block → Bool
falls_out nothing = true
falls_out (basic line act rest) = falls_out rest
falls_out (stop line rest) = false
falls_out (when line condition first rest) = falls_out rest
falls_out (either line condition first second rest) = (falls_out first || falls_out second) && falls_out rest
falls_out (repeat line times body rest) = falls_out body && falls_out rest
falls_out (forever line body rest) = false
falls_out (apply line number named rest) = falls_out named && falls_out rest

-- the head of a loop: it has a label if control reaches the end of the body
abbrev pub head : Block → ProgramPoint → ProgramPoint
head body s = record { flow = s.flow; labelled = if falls_out body then true else s.labelled }

-- the point after a block: None if it doesn't fall out
abbrev pub point_after : Plan → Block → ProgramPoint → Option ProgramPoint
point_after plan nothing s = Some s
point_after plan (basic line act rest) s =
    point_after plan rest (without_label (after_instr plan (instr_of_act act) s.flow))
point_after plan (stop line rest) s = None
point_after plan (when line condition first rest) s =
    onward (meet (point_after plan first (without_label s.flow)) (Some s)) None (λ u. point_after plan rest u)
point_after plan (either line condition first second rest) s =
    onward (join (point_after plan first (without_label s.flow)) (point_after plan second (at_label s.flow))) None
    (λ u. point_after plan rest u)
point_after plan (repeat line times body rest) s =
    onward (point_after plan body (head body (without_label s.flow))) None
    (λ u. point_after plan rest (without_label u.flow))
point_after plan (forever line body rest) s = None
point_after plan (apply line number named rest) s =
    onward (point_after plan named s) None (λ u. point_after plan rest u)

-- an instruction, with the point before it and the number of enclosing repeats
pub record PlacedInstr : Type 0 where
  pub line : ℕ
  pub instr : Instr
  pub point : ProgramPoint
  pub repeats : ℕ

abbrev pub placed_instr : ℕ → Instr → ℕ → ProgramPoint → PlacedInstr
placed_instr line i r s = record { line = line; instr = i; point = s; repeats = r }

abbrev pub alone : ℕ → Instr → ℕ → ProgramPoint → List PlacedInstr
alone line i r s = placed_instr line i r s ∷ []

-- the code of a block inside this many repeats, from this pc on
abbrev pub places : Plan → ℕ → ℕ → Block → ProgramPoint → List PlacedInstr
places plan r pc nothing s = []
places plan r pc (basic line act rest) s =
    placed_instr line (instr_of_act act) r s ∷ places plan r (pc + 1) rest
    (without_label (after_instr plan (instr_of_act act) s.flow))
places plan r pc (stop line rest) s = placed_instr line End r s ∷ []
places plan r pc (when line condition first rest) s =
    let firsts = places plan r (pc + 1) first (without_label s.flow) in
    let end = pc + 1 + length firsts in
    placed_instr line (test_of condition end) r s
    ∷ (firsts ++ onward (meet (point_after plan first (without_label s.flow)) (Some s)) []
    (λ u. places plan r end rest u))
places plan r pc (either line condition first second rest) s =
    let firsts = places plan r (pc + 1) first (without_label s.flow) in
    let leaving = point_after plan first (without_label s.flow) in
    let start = pc + 1 + length firsts + (if falls_out first then 1 else 0) in
    let seconds = places plan r start second (at_label s.flow) in
    let end = start + length seconds in
    placed_instr line (test_of condition start) r s
    ∷ (firsts ++ (onward leaving [] (alone line (Jump end) r) ++ (seconds
    ++ onward (join leaving (point_after plan second (at_label s.flow))) [] (λ u. places plan r end rest u))))
places plan r pc (repeat line times body rest) s =
    let start = head body (without_label s.flow) in
    let bodies = places plan (r + 1) (pc + 1) body start in
    let end = pc + 1 + length bodies in
    placed_instr line (Set r times) r s
    ∷ (bodies ++ onward (point_after plan body start) [] (λ u.
    placed_instr line (Loop r (pc + 1)) (r + 1) u ∷ places plan r (end + 1) rest (without_label u.flow)))
places plan r pc (forever line body rest) s =
    let start = head body s in
    places plan r pc body start ++ onward (point_after plan body start) [] (alone line (Jump pc) r)
places plan r pc (apply line number named rest) s =
    let names = places plan r pc named s in
    names ++ onward (point_after plan named s) [] (λ u. places plan r (pc + length names) rest u)

-- the code of a whole script: it ends with an End, in this line, if control reaches the end
abbrev pub all_places : Plan → ℕ → Block → ProgramPoint → List PlacedInstr
all_places plan last b s = places plan 0 0 b s ++ onward (point_after plan b s) [] (alone last End 0)

-- ---- labels

abbrev pub unpriced_label : ℕ → PlacedInstr → UnpricedLabel
unpriced_label pc p = record { pc = pc; flow = p.point.flow; repeats = p.repeats }

-- of instructions from this pc on
abbrev pub unpriced_labels : ℕ → List PlacedInstr → List UnpricedLabel
unpriced_labels pc [] = []
unpriced_labels pc (p ∷ ps) = if p.point.labelled then unpriced_label pc p
    ∷ unpriced_labels (pc + 1) ps else unpriced_labels (pc + 1) ps
