use Rattle.script_tokens.proofs.Words.{AreLastOf, AreWithin, List, Token, length, subst}
use Rattle.script_tokens.proofs.Ending.{passed_last}
use Rattle.script_tokens.proofs.token_reader.TokenReader.advance.Goals as goal

pub invariant_of-self : goal.invariant_of-self
invariant_of-self c =
    let cut = c.in-Some.ensures.cases.0 in
    let within = subst (λ (ts : List Token). AreWithin (length c.self.inside.text.now) ts) cut c.self.invariant.0 in
    let last = subst (λ (ts : List Token). AreLastOf c.self.inside.all.now ts) cut c.self.invariant.2 in
    (within.2, c.self.invariant.1, passed_last c.self.inside.all.now c.in-Some.rest.now c.in-Some._first.now last)
