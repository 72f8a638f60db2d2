use Rattle.script_config.proofs.Words.{◌++◌, ◌≡◌, flat_map, service_at, service_grown, take}
use Rattle.script_config.proofs.additions.grow_services.Given as goal

abbrev pub invariant-loop-service : goal.invariant-loop-service
invariant-loop-service l = (l.edits.items ≡ l.initial.edits.items
    ++ flat_map (λ t. service_grown (service_at t.sid l.from) t) (take l.service-index l.services))
