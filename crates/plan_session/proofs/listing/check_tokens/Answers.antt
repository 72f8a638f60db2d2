use Rattle.plan_session.proofs.Words.{[], ◌++◌, ◌∙◌, ◌∷◌, FindsNext, None, Ok, Option, Some, Token, all_added, ap}
use Rattle.plan_session.proofs.Words.{err_from_is_err_and, subst, tokens_left}
use Rattle.plan_session.proofs.OneByOne.{added_join, added_fault, added_end}
use Rattle.plan_session.proofs.listing.check_tokens.Goals as goal

pub returns-in_err-_token-clause-fault : goal.returns-in_err-_token-clause-fault
returns-in_err-_token-clause-fault c =
    let p = err_from_is_err_and c.from_residual.result c.from_residual.ensures.1 in
    let so_far = c.loop-token.invariant in
    rw (p.1, p.2) (so_far.1 ∙ ap (all_added so_far.0) c.in_err-_token.ensures.found.0 ∙ added_fault so_far.0 _)

pub loop-token-preserved : goal.loop-token-preserved
loop-token-preserved c =
    let so_far = c.loop-token.invariant in
    let token : Token = c.in-Some._token in
    let f : FindsNext c.loop-token.scanner c.next.new.self (Ok (Some token)) =
    subst (λ (o : Option Token). FindsNext c.loop-token.scanner c.next.new.self (Ok o)) c.in-Some.is
    c.in_ok-_token.ensures.found in (
      so_far.0 ++ token ∷ [],
      so_far.1 ∙ ap (all_added so_far.0) f.0
          ∙ added_join so_far.0 (token ∷ []) (tokens_left c.next.new.self),
    )

pub returns-clause-tokens : goal.returns-clause-tokens
returns-clause-tokens c =
    let so_far = c.loop-token.invariant in
    let f : FindsNext c.loop-token.scanner c.next.new.self (Ok None) =
    subst (λ (o : Option Token). FindsNext c.loop-token.scanner c.next.new.self (Ok o)) c.in_default.is
    c.in_ok-_token.ensures.found in
    (so_far.0, so_far.1 ∙ ap (all_added so_far.0) f.0 ∙ added_end so_far.0)
