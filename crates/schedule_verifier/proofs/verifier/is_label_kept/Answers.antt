use Rattle.schedule_verifier.proofs.Tops.{kept_everywhere, same_config}
use Rattle.schedule_verifier.proofs.verifier.is_label_kept.Goals as goal

pub returns : goal.returns
returns c told top other at =
    kept_everywhere c.args.schedule.now c.args.code.now c.args.label.pc c.in-Some.config.now other
    (same_config _ _ _ (rw c.in-Some.is at c.config.ensures.value) at)
    (rw c.everything-all.ensures at (c.is_kept.ensures told))
