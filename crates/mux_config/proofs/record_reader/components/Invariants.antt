use Rattle.mux_config.proofs.Words.{[], ◌-◌, ◌≡◌, components_at, length}
use Rattle.mux_config.proofs.record_reader.components.Given as goal

abbrev pub invariant-loop : goal.invariant-loop
invariant-loop l =
    (components_at l.reader.total l.components (l.count - l.counter) l.reader.rest
    ≡ components_at l.initial.reader.total [] l.count l.initial.reader.rest)
    × (length l.components ≡ l.counter) × (l.reader.total ≡ l.initial.reader.total)
