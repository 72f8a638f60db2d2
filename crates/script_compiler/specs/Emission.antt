-- How each step of the compiler extends the emitted code. Not used in public contracts.
use Rattle.std.specs.Prelude.{◌≡◌, ℕ, ◌+◌, ◌≤◌, Bool, Vec, if◌then◌else◌, true, false, ◌&&◌, List, [], ◌∷◌, ◌++◌}
use Rattle.std.specs.Prelude.{slice_set, length, map, Option, Some, None}
use Rattle.std.specs.Global.{Global}
use Rattle.plan_code.specs.declared.plan.Plan.{Plan}
use Rattle.plan_code.specs.declared.instr.Instr.{Instr}
use Rattle.plan_code.specs.declared.instr.Instr.TheVariants.{Jump}
use Rattle.plan_code.specs.declared.instr.Line.{Line}
use Rattle.plan_verifier.specs.declared.cause.Cause.{Cause}
use Rattle.script_front.specs.declared.tree.Condition.{Condition}
use Rattle.script_front.specs.declared.tree.Statement.{Statement}
use Rattle.script_front.specs.Block.{Block, nothing, apply, table_of}
use Rattle.script_compiler.specs.declared.flow.ProgramPoint.{ProgramPoint}
use Rattle.script_compiler.specs.Scheme.{PlacedInstr, onward, point_after, places, unpriced_labels, alone}
use Rattle.script_compiler.specs.Scheme.{without_label, at_label, meet, join, falls_out}
use Rattle.script_compiler.specs.Alternatives.{test_of}
use Rattle.script_compiler.specs.Judged.{IsJudged, Reached, WaysAgree, BranchesAgree, FitsEntry}
use Rattle.script_compiler.specs.Refused.{IsRefusedIn, IsRefusedAfter}
use Rattle.script_compiler.specs.Compiled.{lines_of_placed, nested}
use Rattle.script_compiler.specs.declared.context.BlockFacts.{BlockFacts}
use Rattle.script_compiler.specs.Working.{Work}

-- the defined blocks, as `Block`s
abbrev pub tables : List (Vec Statement Global) → List Block
tables blocks = table_of [] (map (λ b. b.items) blocks)

-- the block emits no instructions
abbrev pub has_no_instr : Block → Bool
has_no_instr nothing = true
has_no_instr (apply line number named rest) = has_no_instr named && has_no_instr rest
has_no_instr _ = false

-- what the compiler knows of a block before it compiles it
abbrev pub facts_of : Block → BlockFacts
facts_of b = record { reaches_end = falls_out b; emits_nothing = has_no_instr b }

-- these instructions have been emitted, and the saved points are unchanged
pub record Emits (old new : Work) (ps : List PlacedInstr) : Type 0 where
  pub lines : new.lines.items ≡ old.lines.items ++ lines_of_placed ps
  pub unpriced : new.unpriced.items ≡ old.unpriced.items ++ unpriced_labels (length old.lines.items) ps
  pub saved : new.saved.items ≡ old.saved.items

-- the current program point, if control continues
abbrev pub way : Bool → Work → Option ProgramPoint
way is_reached w = if is_reached then Some w.now else None

-- part of the block has been compiled, and `rest` is left
pub record Left (plan : Plan) (r : ℕ) (b : Block) (old new : Work) (is_reached : Bool) (rest : Block) : Type 0 where
  pub emitted : List PlacedInstr
  pub emits : Emits old new emitted
  pub whole : places plan r (length old.lines.items) b old.now ≡ emitted
      ++ onward (way is_reached new) [] (λ u. places plan r (length new.lines.items) rest u)
  pub leads : point_after plan b old.now ≡ onward (way is_reached new) None (λ u. point_after plan rest u)
  pub judged : Reached (way is_reached new) rest (λ u. IsJudged plan rest u) → IsJudged plan b old.now
  pub only : IsJudged plan b old.now → Reached (way is_reached new) rest (λ u. IsJudged plan rest u)
  pub fails : (at : ℕ) (given : Cause) → IsRefusedAfter (way is_reached new) rest
      (λ u. IsRefusedIn plan rest u at given) at given → IsRefusedIn plan b old.now at given
  pub repeats : r + nested rest ≤ 8 → r + nested b ≤ 8
  pub fewer : nested rest ≤ nested b

abbrev pub line_of_instr : ℕ → Instr → Line
line_of_instr line instr = record { number = line; instr = instr }

-- a forward jump has been emitted, and the point before it is saved
pub record Forks (line : ℕ) (i : Instr) (r : ℕ) (old new : Work) : Type 0 where
  pub lines : new.lines.items ≡ old.lines.items ++ line_of_instr line i ∷ []
  pub unpriced : new.unpriced.items ≡ old.unpriced.items
      ++ unpriced_labels (length old.lines.items) (alone line i r old.now)
  pub now : new.now ≡ without_label old.now.flow
  pub saved : new.saved.items ≡ old.saved.items ++ old.now ∷ []

-- a loop jumps back to its head, if its body falls out; the saved head is removed
pub record ClosesLoop (falls : Bool) (line r : ℕ) (back : Instr) (front : List ProgramPoint) (entry : ProgramPoint)
    (old new : Work) : Type 0 where
  pub lines : new.lines.items ≡ old.lines.items ++ lines_of_placed (onward (way falls old) [] (alone line back r))
  pub unpriced : new.unpriced.items ≡ old.unpriced.items
      ++ unpriced_labels (length old.lines.items) (onward (way falls old) [] (alone line back r))
  pub saved : new.saved.items ≡ front
  pub now : new.now ≡ (if falls then without_label old.now.flow else old.now)
  pub round : FitsEntry (way falls old) entry

-- what is saved of a path
abbrev pub points_of : Option ProgramPoint → List ProgramPoint
points_of None = []
points_of (Some s) = s ∷ []

-- an `if` without `else` ends: the path through its block, if there is one, merges with the one past it
pub record ClosesIf (falls : Bool) (line : ℕ) (condition : Condition) (at : ℕ) (front : List ProgramPoint)
    (entry : ProgramPoint) (old new : Work) : Type 0 where
  pub lines : new.lines.items ≡ slice_set old.lines.items at
      (line_of_instr line (test_of condition (length old.lines.items)))
  pub unpriced : new.unpriced.items ≡ old.unpriced.items
  pub saved : new.saved.items ≡ front
  pub met : meet (way falls old) (Some entry) ≡ Some new.now
  pub agree : WaysAgree (way falls old) (Some entry)

-- the jump that a first branch emits at its end, if it falls out
abbrev pub jumping : Bool → ℕ → ℕ → Work → List PlacedInstr
jumping falls line r w = onward (way falls w) [] (alone line (Jump 0) r)

-- a first branch ends, and the second one begins with what was known before both
pub record StartsElse (falls : Bool) (line r : ℕ) (condition : Condition) (at : ℕ) (front : List ProgramPoint)
    (entry : ProgramPoint) (old new : Work) : Type 0 where
  pub lines :
      new.lines.items ≡ slice_set (old.lines.items ++ lines_of_placed (jumping falls line r old)) at
      (line_of_instr line (test_of condition (length (old.lines.items ++ lines_of_placed (jumping falls line r old)))))
  pub unpriced : new.unpriced.items ≡ old.unpriced.items
      ++ unpriced_labels (length old.lines.items) (jumping falls line r old)
  pub now : new.now ≡ at_label entry.flow
  pub saved : new.saved.items ≡ front ++ points_of (way falls old)

-- the jump at the end of a branch is patched to what follows
abbrev pub aimed_at : Option ProgramPoint → ℕ → ℕ → List Line → List Line
aimed_at None line jump code = code
aimed_at (Some s) line jump code = slice_set code jump (line_of_instr line (Jump (length code)))

-- both branches have been compiled
pub record IsAfterBranches (a b : Option ProgramPoint) (front : List ProgramPoint) (line jump : ℕ) (old new : Work)
    (f : Bool) : Type 0 where
  pub lines : new.lines.items ≡ aimed_at a line jump old.lines.items
  pub unpriced : new.unpriced.items ≡ old.unpriced.items
  pub saved : new.saved.items ≡ front
  pub leads : way f new ≡ join a b
  pub agree : BranchesAgree a b
