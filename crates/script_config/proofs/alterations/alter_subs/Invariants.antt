use Rattle.script_config.proofs.Words.{◌++◌, ◌≡◌, flat_map, sub_altered, sub_at, take}
use Rattle.script_config.proofs.alterations.alter_subs.Given as goal

abbrev pub invariant-loop-sub : goal.invariant-loop-sub
invariant-loop-sub l = (l.edits.items ≡ l.initial.edits.items
    ++ flat_map (λ s. sub_altered (sub_at s.id l.to) s) (take l.sub-index l.subs))
