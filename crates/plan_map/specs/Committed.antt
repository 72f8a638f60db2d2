-- What the rows of a map say of the runs of its code: what a run begins with, commits and sends.
use Rattle.std.specs.Prelude.{◌≡◌, ℕ, ◌+◌, ◌<◌, List, length, take, filter, Contains, slice_get, Some, IfSome}
use Rattle.mux_types.specs.Configuration.{Configuration}
use Rattle.plan_code.specs.declared.instr.Line.{Line}
use Rattle.plan_code.specs.declared.plan.Plan.{Plan}
use Rattle.plan_code.specs.Program.{Program}
use Rattle.plan_code.specs.Machine.{State}
use Rattle.plan_verifier.specs.Rules.{commits}
use Rattle.plan_verifier.specs.Typing.{Known, IsTyping, IsTyped}
use Rattle.plan_runs.specs.declared.event.Start.{Start}
use Rattle.plan_runs.specs.Frames.{ready, burst, frame_steps, shown, announced_next}
use Rattle.plan_runs.specs.Runs.{IsStart}
use Rattle.plan_runs.specs.Swaps.{IsCommit}
use Rattle.plan_runs.specs.TypedRuns.{IsPlayed}
use Rattle.plan_map.specs.declared.rows.Row.{Row}
use Rattle.plan_map.specs.declared.rows.RowKind.TheVariants.{Begin, Commit}
use Rattle.plan_map.specs.Rows.{rows_of}

-- ---- what a row says

-- the first row is of the line of `begin`, and has this configuration
pub record OpensWith (rows : List Row) (begin : ℕ) (c : Configuration) : Type 0 where
  pub row : Row
  pub there : slice_get rows 0 ≡ Some row
  pub kind : row.kind ≡ Begin
  pub line : row.line ≡ begin
  pub config : row.config ≡ c

-- the row with this index is of a commit in this line, and has this configuration
pub record HasCommit (rows : List Row) (index : ℕ) (l : Line) (c : Configuration) : Type 0 where
  pub row : Row
  pub there : slice_get rows index ≡ Some row
  pub kind : row.kind ≡ Commit
  pub line : row.line ≡ l.number
  pub config : row.config ≡ c

-- some row has this configuration; below, some row of a commit
abbrev pub IsShown : List Row → Configuration → Type 0
IsShown rows c = (row : Row) × Contains rows row × (row.config ≡ c)

abbrev pub IsCommitted : List Row → Configuration → Type 0
IsCommitted rows c = (row : Row) × Contains rows row × (row.kind ≡ Commit) × (row.config ≡ c)

-- ---- the commits of a code

-- the number of commits before a pc
abbrev pub commits_before : Program → ℕ → ℕ
commits_before p pc = length (filter (λ l. commits l.instr) (take pc p.lines))

-- a row is of the commit that has this many before it, and has the next configuration that is known there
pub record IsOfCommit (p : Program) (typing : List Known) (before : ℕ) (row : Row) : Type 0 where
  pub pc : ℕ
  pub instr : Line
  pub known : Known
  pub there : slice_get p.lines pc ≡ Some instr
  pub commits : IsCommit instr.instr
  pub order : commits_before p pc ≡ before
  pub at : slice_get typing pc ≡ Some known
  pub kind : row.kind ≡ Commit
  pub line : row.line ≡ instr.number
  pub config : row.config ≡ known.next

-- ---- the commits and the frames of a run

-- the frame from this state executes, after so many steps, the commit at this pc, and this is the next configuration
-- there
pub record CommitsAt (p : Program) (s : State) (pc : ℕ) (l : Line) (c : Configuration) : Type 0 where
  pub steps : ℕ
  pub within : steps < frame_steps p s
  pub reached : (burst steps p (ready s)).pc ≡ pc
  pub there : slice_get p.lines pc ≡ Some l
  pub commits : IsCommit l.instr
  pub next : (burst steps p (ready s)).next ≡ c

-- the configurations that a frame sends are those of rows: the current one, and in a notice the next one
pub record SendsRows (rows : List Row) (plan : Plan) (s : State) : Type 0 where
  pub current : IsShown rows s.current
  pub next : IfSome (announced_next plan s) (IsCommitted rows)

-- ---- the laws

-- after the first row, the rows are of the commits of the code, one for each, in order
abbrev pub RowsAreCommits : Type 0
RowsAreCommits =
    (begin : ℕ) (p : Program) (typing : List Known) → IsTyping p typing
    → (length (rows_of begin p) ≡ 1 + commits_before p (length p.lines))
    × ((n : ℕ) (row : Row) → slice_get (rows_of begin p) (1 + n) ≡ Some row → IsOfCommit p typing n row)

abbrev pub RunsBeginWithTheFirst : Type 0
RunsBeginWithTheFirst =
    (begin : ℕ) (p : Program) (start : Start) (s : State) → IsTyped p → IsStart p start s
    → OpensWith (rows_of begin p) begin s.current

-- a commit that a run executes commits the configuration of its row
abbrev pub CommitsAreRows : Type 0
CommitsAreRows =
    (begin : ℕ) (p : Program) (s : State) (pc : ℕ) (l : Line) (c : Configuration) → IsPlayed p s → CommitsAt p s pc l c
    → HasCommit (rows_of begin p) (1 + commits_before p pc) l c

abbrev pub FramesSendRows : Type 0
FramesSendRows =
    (begin : ℕ) (p : Program) (s : State) → IsPlayed p s → SendsRows (rows_of begin p) p.plan (shown p s)
