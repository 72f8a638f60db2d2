use Rattle.fig_merge.proofs.Words.{refl}
use Rattle.fig_merge.proofs.Carrying.{padded}
use Rattle.fig_merge.proofs.sealing.pad.Goals as goal

pub returns-clause-data : goal.returns-clause-data
returns-clause-data c = padded _ _ _ _ c.requires.whole c.requires.within refl c.write_at.ensures
