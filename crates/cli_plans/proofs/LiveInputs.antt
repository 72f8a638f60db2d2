-- A live run over standard input, through a buffer.
use Rattle.cli_plans.proofs.Words.{[], ◌==◌, ◌≡◌, Begins, Err, IfSome, IsLiveTo, List, LiveRequest, None, Ok, OnOk}
use Rattle.cli_plans.proofs.Words.{Option, Result, Some, asked_from, if◌then◌else◌, prepend_known, refl, subst, ℕ}
use Rattle.console.specs.Lines.{lines_of}
use Rattle.plan_live.specs.Lines.{LinesDo}

-- what is left to a reader whose buffer is empty
pub buffered : (capacity : ℕ) (buffer : List ℕ) (behind : Option (List ℕ)) (bytes : List ℕ) → capacity ≡ 8192
    → buffer ≡ [] → behind ≡ Some bytes
    → (if capacity == 0 then None else prepend_known buffer behind) ≡ Some bytes
buffered capacity buffer behind bytes size none is = rw (size, none, is) refl

of_input : (given left : Option (List ℕ)) (P : List ℕ → Type 0)
    → ((bytes : List ℕ) → given ≡ Some bytes → left ≡ Some bytes) → IfSome left P → IfSome given P
of_input None left P same h = tt
of_input (Some bytes) left P same h = subst (λ (o : Option (List ℕ)). IfSome o P) (same bytes refl) h

-- the same over what was read of the code file and of standard input
pub live_of : (r : LiveRequest) (read code : List ℕ) (given left before after : Option (List ℕ)) → read ≡ code
    → ((bytes : List ℕ) → given ≡ Some bytes → left ≡ Some bytes)
    → IsLiveTo r read left before after → IsLiveTo r code given before after
live_of r read code given left before after codes same (p, steps, begins, does, out) = (
  p,
  steps,
  subst (λ (l : List ℕ). Begins (asked_from l [] r.start) p) codes begins,
  of_input given left (λ text. LinesDo (lines_of text) steps) same does,
  out,
)

-- what holds of a run that ended so
pub ended_so : {E : Type 0} (result : Result (Unit {0}) E) (done : Unit {0}) (P : Type 0) → result ≡ Ok done
    → OnOk result P → P
ended_so (Ok x) done P is h = h
ended_so (Err fault) done P is h = absurd cc
