use Rattle.plan_session.proofs.Words.{[], ◌++◌, ◌∙◌, ◌∷◌, FindsNext, List, Ok, Option, Some, Token, ap, append_assoc}
use Rattle.plan_session.proofs.Words.{subst}
use Rattle.plan_session.proofs.OneByOne.{one_taken, no_tokens_by}
use Rattle.plan_session.proofs.listing.take_tokens.Goals as goal

pub returns-in-Err : goal.returns-in-Err
returns-in-Err c =
    let taken = c.loop-taken.invariant in (
      c.in-Err.ensures.found.1,
      no_tokens_by c.loop-taken._taken c.args.scanner.now c.loop-taken.scanner c.next.new.self
          taken.0 c.in-Err.fault taken.2 c.in-Err.ensures.found,
    )

pub loop-taken-preserved : goal.loop-taken-preserved
loop-taken-preserved c =
    let taken = c.loop-taken.invariant in
    let token : Token = c.in-Ok-Some.token in
    let f : FindsNext c.loop-taken.scanner c.next.new.self (Ok (Some token)) =
    subst (λ (o : Option Token). FindsNext c.loop-taken.scanner c.next.new.self (Ok o)) c.in-Ok-Some.field-0-is
    c.in-Ok-Some.ensures.found in (
      taken.0 ++ token ∷ [],
      c.push.ensures.items ∙ ap (λ (l : List Token). l ++ token ∷ []) taken.1
          ∙ append_assoc c.args.tokens.now.items taken.0 (token ∷ []),
      one_taken c.loop-taken._taken c.args.scanner.now c.loop-taken.scanner c.next.new.self taken.0 token taken.2 f
          c.in-Ok-Some.ensures.same,
    )
