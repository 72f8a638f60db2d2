use Rattle.schedule_verifier.proofs.Words.{◌≡◌, after, drop, map}
use Rattle.schedule_verifier.proofs.wanted.apply_all.Given as goal

abbrev pub invariant-loop-edit : goal.invariant-loop-edit
invariant-loop-edit l = after (map (λ e. e.edit) l.edits) l.fn.config
    ≡ after (map (λ e. e.edit) (drop l.edit-index l.edits)) l.config
