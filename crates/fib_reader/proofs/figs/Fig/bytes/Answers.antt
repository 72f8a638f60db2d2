use Rattle.fib_reader.proofs.Words.{◌∙◌, ap, fig_of_bytes, fig_spelled}
use Rattle.fib_reader.proofs.FigLists.{spelled_fig}
use Rattle.fib_reader.proofs.figs.Fig.bytes.Goals as goal

pub returns : goal.returns
returns c = spelled_fig _ (fig_of_bytes c.self.inside.bytes.now) c.self.invariant ∙ ap fig_spelled c.self.view_is
