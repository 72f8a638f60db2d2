use Rattle.plan_session.proofs.Words.{◌≡◌, List, Token, all_added, bytes_left, cut_of, tokens_left}
use Rattle.plan_session.proofs.listing.check_tokens.Given as goal

-- the tokens so far
abbrev pub invariant-loop-token : goal.invariant-loop-token
invariant-loop-token l = (tokens : List Token) × (cut_of l.fn.text ≡ all_added tokens (tokens_left l.scanner))

abbrev pub decreases-loop-token : goal.decreases-loop-token
decreases-loop-token l = bytes_left l.scanner
