-- Defined blocks of which a code has nothing.
use Rattle.std.specs.Prelude.{◌≡◌, ◌≢◌, ℕ, ◌==◌, if◌then◌else◌, List, [], ◌∷◌, ◌++◌, Contains, Option, Some, None}
use Rattle.std.specs.List.{AllByRecursion, list_any, flat_map}
use Rattle.plan_code.specs.declared.instr.Line.{Line}
use Rattle.script_front.specs.declared.tree.Statement.{Statement}
use Rattle.script_front.specs.Block.{Block, nothing, basic, stop, when, either, repeat, forever, apply, before}

-- the line of a statement that is an instruction, or begins with one
abbrev pub line_of : Block → Option ℕ
line_of nothing = None
line_of (basic line act rest) = Some line
line_of (stop line rest) = Some line
line_of (when line contact first rest) = Some line
line_of (either line contact first second rest) = Some line
line_of (repeat line times body rest) = Some line
line_of (forever line body rest) = None
line_of (apply line number named rest) = None

abbrev pub own_line : Statement → Option ℕ
own_line s = line_of (before [] s nothing)

-- the first such statement of a block is in this line, and no instruction of the code comes from there
pub record IsUnreached (lines : List Line) (blocks : List (List Statement)) (line : ℕ) : Type 0 where
  pub block : List Statement
  pub defined : Contains blocks block
  pub front : List Statement
  pub statement : Statement
  pub rest : List Statement
  pub is : block ≡ front ++ statement ∷ rest
  pub before : AllByRecursion (λ s. own_line s ≡ None) front
  pub first : own_line statement ≡ Some line
  pub absent : (l : Line) → Contains lines l → l.number ≢ line

-- ---- as a list

abbrev pub or_later : Option ℕ → Option ℕ → Option ℕ
or_later None later = later
or_later (Some line) later = Some line

abbrev pub first_line : List Statement → Option ℕ
first_line [] = None
first_line (s ∷ ss) = or_later (own_line s) (first_line ss)

abbrev pub unless_line : List Line → Option ℕ → List ℕ
unless_line lines None = []
unless_line lines (Some line) = if list_any (λ l. l.number == line) lines then [] else line ∷ []

abbrev pub unreached_of : List Line → List Statement → List ℕ
unreached_of lines block = unless_line lines (first_line block)

abbrev pub unreached : List Line → List (List Statement) → List ℕ
unreached lines blocks = flat_map (unreached_of lines) blocks
