use Rattle.plan_session.proofs.Words.{◌++◌, ◌≡◌, List, Token}
use Rattle.plan_session.proofs.OneByOne.{IsTaken}
use Rattle.plan_session.proofs.listing.take_tokens.Given as goal

abbrev pub invariant-loop-taken : goal.invariant-loop-taken
invariant-loop-taken l =
    (taken : List Token) × (l.tokens.items ≡ l.initial.tokens.items ++ taken)
    × IsTaken l._taken l.initial.scanner l.scanner taken
