use Rattle.plan_session.proofs.Words.{◌-◌, ◌≡◌, IsPlaceIn, drop, first_position, length, position_past}
use Rattle.plan_session.proofs.item_fault.past.Given as goal

abbrev pub invariant-loop-place : goal.invariant-loop-place
invariant-loop-place l = record {
  left : position_past first_position l.text ≡ position_past l.place (drop l.place.at l.text);
  place : IsPlaceIn l.text l.place;
}

abbrev pub decreases-loop-place : goal.decreases-loop-place
decreases-loop-place l = length l.text - l.place.at
