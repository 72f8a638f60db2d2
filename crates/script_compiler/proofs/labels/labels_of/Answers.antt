use Rattle.script_compiler.proofs.Labelling.{shallow_at}
use Rattle.script_compiler.proofs.labels.labels_of.Goals as goal

pub label_of-requires-clause-deep : goal.label_of-requires-clause-deep
label_of-requires-clause-deep c =
    shallow_at 8 c.args.unpriced.now c.loop-unpriced_label.unpriced_label-index _ c.loop-unpriced_label-test.true
    c.requires.deep
