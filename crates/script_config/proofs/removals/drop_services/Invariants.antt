use Rattle.script_config.proofs.Words.{◌++◌, ◌≡◌, flat_map, service_at, service_gone, take}
use Rattle.script_config.proofs.removals.drop_services.Given as goal

abbrev pub invariant-loop-service : goal.invariant-loop-service
invariant-loop-service l = (l.edits.items ≡ l.initial.edits.items
    ++ flat_map (λ s. service_gone (service_at s.sid l.to) s) (take l.service-index l.services))
