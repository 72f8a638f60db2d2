-- The pieces so far, decoded, give the result and the ensemble of a stream of their bytes.
use Rattle.cli_scripts.proofs.Words.{◌%◌, ◌*◌, ◌≡◌, ◌≤◌, Bool, Consumes, Heard, HearsTheStream, List, NamesAfter, None}
use Rattle.cli_scripts.proofs.Words.{Option, ended, fibs_of_stream, length, unheard, ℕ}
use Rattle.cli_scripts.proofs.listen_script.name_of.Given as goal

pub record NamedSoFar (before left : Option (List ℕ)) (has_room : Bool) (heard : Heard) (eid : Option ℕ)
    (pieces : ℕ) : Type 0 where
  pub stream : List ℕ
  pub consumed : Consumes before left stream
  pub whole : length stream % 32 ≡ 0
  pub hears : HearsTheStream (fibs_of_stream stream) unheard (ended has_room heard)
  pub named : NamesAfter (fibs_of_stream stream) None eid
  pub few : heard.fibs ≤ 8192 * pieces
  pub damaged : heard.damaged ≤ heard.fibs

abbrev pub invariant-loop : goal.invariant-loop
invariant-loop g l = NamedSoFar l.initial.pieces.left l.pieces.left l.has_room l.heard l.eid l.counter
