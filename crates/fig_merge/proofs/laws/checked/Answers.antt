use Rattle.fig_merge.proofs.Alike.{framed_alike}
use Rattle.fig_merge.proofs.Checked.{checked_alike}
use Rattle.fig_merge.proofs.Heard.{full_alike}
use Rattle.fig_merge.proofs.laws.checked.Goals as goal

pub returns-clause-framed : goal.returns-clause-framed
returns-clause-framed c = framed_alike

pub returns-clause-findings : goal.returns-clause-findings
returns-clause-findings c = checked_alike

pub returns-clause-room : goal.returns-clause-room
returns-clause-room c = full_alike
