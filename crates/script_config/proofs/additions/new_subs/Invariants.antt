use Rattle.script_config.proofs.Words.{◌++◌, ◌≡◌, flat_map, sub_at, sub_new, take}
use Rattle.script_config.proofs.additions.new_subs.Given as goal

abbrev pub invariant-loop-sub : goal.invariant-loop-sub
invariant-loop-sub l = (l.edits.items ≡ l.initial.edits.items
    ++ flat_map (λ t. sub_new (sub_at t.id l.from) t) (take l.sub-index l.subs))
