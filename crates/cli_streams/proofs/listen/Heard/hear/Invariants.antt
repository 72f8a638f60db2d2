use Rattle.cli_streams.proofs.Words.{◌+◌, ◌≡◌, ◌≤◌, Heard, HearsTheStream, Result, StreamFault, drop, ℕ}
use Rattle.cli_streams.proofs.listen.Heard.hear.Given as goal

-- decoding the remaining FIBs from here gives the result of decoding all from the start
pub record GoesOn (goes : Result Heard StreamFault → Type 0) (whole : Result Heard StreamFault → Type 0) (now : Heard)
    (before heard : ℕ) : Type 0 where
  pub on : (given : Result Heard StreamFault) → goes given → whole given
  pub counted : now.fibs ≡ before + heard
  pub few : now.damaged ≤ now.fibs

abbrev pub invariant-loop-fib : goal.invariant-loop-fib
invariant-loop-fib l =
    GoesOn (HearsTheStream (drop l.fib-index l.fibs) l.self) (HearsTheStream l.fibs l.initial.self) l.self
    l.initial.self.fibs l.fib-index
