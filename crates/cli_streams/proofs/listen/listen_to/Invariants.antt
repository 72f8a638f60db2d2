-- The pieces so far, decoded, give the result of a stream of their bytes.
use Rattle.cli_streams.proofs.Words.{◌%◌, ◌*◌, ◌≡◌, ◌≤◌, Bool, Consumes, Heard, HearsTheStream, List, Option, ended}
use Rattle.cli_streams.proofs.Words.{fibs_of_stream, length, unheard, ℕ}
use Rattle.cli_streams.proofs.listen.listen_to.Given as goal

pub record HeardSoFar (before left : Option (List ℕ)) (has_room : Bool) (heard : Heard) (pieces : ℕ) : Type 0 where
  pub stream : List ℕ
  pub consumed : Consumes before left stream
  pub whole : length stream % 32 ≡ 0
  pub hears : HearsTheStream (fibs_of_stream stream) unheard (ended has_room heard)
  pub few : heard.fibs ≤ 8192 * pieces
  pub damaged : heard.damaged ≤ heard.fibs

abbrev pub invariant-loop : goal.invariant-loop
invariant-loop g l = HeardSoFar l.initial.pieces.left l.pieces.left l.has_room l.heard l.counter
