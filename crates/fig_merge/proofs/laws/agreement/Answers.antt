use Rattle.fig_merge.proofs.Words.{agrees_with, room_of, turns_in}
use Rattle.fig_merge.proofs.Passing.{all_agree}
use Rattle.fig_merge.proofs.laws.agreement.Goals as goal

pub returns : goal.returns
returns c = λ figs m. all_agree (agrees_with figs m.heard)
    (turns_in (agrees_with figs m.heard) (room_of figs) m.waiting)
