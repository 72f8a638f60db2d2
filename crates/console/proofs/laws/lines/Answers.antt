use Rattle.console.proofs.LineLaws.{bytes_have_lines}
use Rattle.console.proofs.laws.lines.Goals as goal

pub returns : goal.returns
returns c = bytes_have_lines
