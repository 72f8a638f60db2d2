use Rattle.plan_map.proofs.Words.{◌++◌, ◌≡◌, Configuration, List, Program, Reached, Row, Ways, commits_from, drop}
use Rattle.plan_map.proofs.Words.{rows_of, ℕ}
use Rattle.plan_map.proofs.rows.rows_of.Given as goal

-- the rows so far, and what follows
pub record SoFar (begin : ℕ) (p : Program) (rows : List Row) (pc at : ℕ) (before : Ways) (passed : List Reached)
    (next : Configuration) : Type 0 where
  pub all : rows ++ commits_from p at before passed next (drop at p.lines) ≡ rows_of begin p
  pub place : pc ≡ at

abbrev pub invariant-loop-line : goal.invariant-loop-line
invariant-loop-line l = SoFar l.begin_line l.code l.rows.items l.pc l.line-index l.ways l.passed.items l.next
