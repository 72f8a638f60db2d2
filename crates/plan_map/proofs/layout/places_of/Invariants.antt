use Rattle.plan_map.proofs.Words.{◌≡◌, flat_map, place_of, range_with_len}
use Rattle.plan_map.proofs.layout.places_of.Given as goal

-- the places so far
abbrev pub invariant-loop-id : goal.invariant-loop-id
invariant-loop-id l = l.places.items ≡ flat_map (place_of l.subs) (range_with_len 0 l.id)
