use Rattle.mux_config.proofs.Words.{[], ◌-◌, ◌<◌, ◌≡◌, AllByRecursion, length, members_at}
use Rattle.mux_config.proofs.record_reader.members.Given as goal

abbrev pub invariant-loop : goal.invariant-loop
invariant-loop g l =
    (members_at g.T.Keyed.key (g.T.Member.member_at l.reader.total) l.low l.members (l.count - l.counter) l.reader.rest
    ≡ members_at g.T.Keyed.key (g.T.Member.member_at l.initial.reader.total) 0 [] l.count l.initial.reader.rest)
    × (length l.members ≡ l.counter) × (l.reader.total ≡ l.initial.reader.total)
    × AllByRecursion (λ x. g.T.Keyed.key x < l.low) l.members
