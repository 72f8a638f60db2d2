use Rattle.script_tokens.proofs.Words.{◌-◌, ◌≡◌, IsPlaceIn, Nothing, drop, length, lexed}
use Rattle.script_tokens.proofs.Scanning.{IsOpen}
use Rattle.script_tokens.proofs.scanner.scan.Given as goal

abbrev pub invariant-loop-place : goal.invariant-loop-place
invariant-loop-place l = record {
  left : lexed l.limits Nothing l.fn.from (drop l.fn.from.at l.text)
      ≡ lexed l.limits l.inside l.place (drop l.place.at l.text);
  place : IsPlaceIn l.text l.place;
  begun : IsOpen l.fn.from.at l.inside l.place;
}

abbrev pub decreases-loop-place : goal.decreases-loop-place
decreases-loop-place l = length l.text - l.place.at
