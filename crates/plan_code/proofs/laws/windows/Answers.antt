use Rattle.plan_code.proofs.Windows.{windows_are_half_open}
use Rattle.plan_code.proofs.laws.windows.Goals as goal

pub returns : goal.returns
returns c = record { half_open = windows_are_half_open }
