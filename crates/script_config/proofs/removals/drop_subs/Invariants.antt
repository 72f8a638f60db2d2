use Rattle.script_config.proofs.Words.{◌++◌, ◌≡◌, flat_map, sub_at, sub_gone, take}
use Rattle.script_config.proofs.removals.drop_subs.Given as goal

abbrev pub invariant-loop-sub : goal.invariant-loop-sub
invariant-loop-sub l = (l.edits.items ≡ l.initial.edits.items
    ++ flat_map (λ s. sub_gone (sub_at s.id l.to) s) (take l.sub-index l.subs))
