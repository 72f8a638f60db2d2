-- The compiler's state as contracts see it. Not used in public contracts.
use Rattle.std.specs.Prelude.{List}
use Rattle.mux_config.specs.Configuration.{Configuration}
use Rattle.plan_code.specs.declared.instr.Line.{Line}
use Rattle.script_compiler.specs.declared.flow.ProgramPoint.{ProgramPoint}
use Rattle.script_compiler.specs.Unpriced.{UnpricedTable}

pub record Lines : Type 0 where
  pub items : List Line

pub record Points : Type 0 where
  pub items : List ProgramPoint

-- the emitted lines, the unpriced labels and their table, the current program point, the saved ones, and all numbered
-- configurations
pub record Work : Type 0 where
  pub lines : Lines
  pub unpriced : UnpricedTable
  pub now : ProgramPoint
  pub saved : Points
  pub pool : List Configuration
